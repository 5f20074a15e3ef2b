-- Where a kind's reader and the whole reading agree on what the file is: the whole reading is that of the bytes joined.
-- Assumes nothing.
use Prim.Native.Nat.{ℕ, ◌*◌, ◌≤◌, ◌<◌}
use mathlib.Core.Path.{◌≡◌, refl, sym, ap, ◌∙◌, subst}
use mathlib.Core.List.{List}
use mathlib.Core.Bool.{true, false}
use native.Mathlib.Omega.{arith}
use borrow.Author.Tests.{ne_eqb, lt-ltb, not-true, not-false}
use lib.ListN.{length, get_or, take}
use lib.Dec.{eqb}
use Rattle.tables.proofs.Cases.{by_test}
use Rattle.blocks.specs.Places.{limit, whole_blocks}
use Rattle.refusals.specs.Said.{Said, answers, result_says}
use Rattle.whole.specs.declared.Recording.{Recording}
use Rattle.detect.specs.declared.Kind.TheVariants.{Sp}
use Rattle.magic.specs.declared.Magic.TheVariants.{Dss, Ds2}
use Rattle.magic.specs.Magics.{magic_of}
use Rattle.detect.specs.Start.{audio_start}
use Rattle.detect.specs.Kinds.{format_type, read_as}
use Rattle.whole.specs.Admissions.{recording_at, admission_at, admission}
use Rattle.detect.proofs.Types.{sp_is_0_to_5}
use Rattle.whole.proofs.Admissions.{admitted, dss_at, ds2_at, ds2_taken}
use Rattle.sp.specs.ReadLists.{dss_runs, ds2_runs}
use Rattle.sp.specs.Readings.{Reading, total, read_by, dss_reading, ds2_reading}
use Rattle.sp.specs.Outcome.{out_after, counts_after, Demuxes}
use Rattle.sp.proofs.Outcome.{accepted_read}
use Rattle.hold.specs.Ready.{reading_in}
use Rattle.reader.specs.State.{is_dss, start_of, reading_by}
use Rattle.reader.specs.Agreement.{whole_reading, Agrees}
use Rattle.reader.proofs.Parts.{Part, part_whole}
use Rattle.std.specs.Prelude.{Result}
use Rattle.refusals.specs.declared.Refusal.{Refusal}

-- a file of a magic that is taken, within the limit and with a full header
dss_is : (f : List ℕ) (a : ℕ) → length f ≤ limit → a ≤ length f → magic_of f ≡ Dss → 512 * get_or f 0 0 ≡ a
    → dss_reading f ≡ answers (reading_in true f a (whole_blocks (length f) a))
unfolding dss_reading
dss_is f a small full magic start =
    ap (λ (said : Said Recording). read_by f said dss_runs)
    (dss_at f magic ∙ ap (admission_at f) start ∙ sym (admitted f true a refl small full (whole_blocks (length f) a) refl))

ds2_is : (f : List ℕ) (a : ℕ) → length f ≤ limit → a ≤ length f → magic_of f ≡ Ds2 → audio_start f ≡ a → format_type f a < 6
    → ds2_reading f ≡ answers (reading_in false f a (whole_blocks (length f) a))
unfolding ds2_reading
ds2_is f a small full magic start type =
    let rec = recording_at f a in
    let taken : admission f false true ≡ answers rec =
    ds2_at f magic ∙ ap (admission_at f) start ∙ sym (admitted f true a refl small full (whole_blocks (length f) a) refl) in
    let sp : read_as (format_type f a) Sp ≡ true = sp_is_0_to_5 (format_type f a) ∙ lt-ltb (format_type f a) 6 type in
    ap (λ (said : Said Recording). read_by f said ds2_runs) (ds2_taken f Sp rec taken (format_type f a) refl sp)

-- where the audio starts
pub dss_start_lem : (kind : ℕ) → is_dss kind ≡ true → start_of kind ≡ 512 * kind
unfolding start_of
dss_start_lem kind dss = simp (not-true (eqb kind 0) dss)

pub ds2_start : (kind : ℕ) → is_dss kind ≡ false → start_of kind ≡ 1536
unfolding start_of
ds2_start kind ds2 = simp (not-false (eqb kind 0) ds2)

pub not_scanned : (f : List ℕ) → get_or f 0 0 < 7 → audio_start f ≡ 1536
unfolding audio_start
not_scanned f below = simp (ne_eqb (get_or f 0 0) 7 (λ e. omega arith))

-- so the whole reading is that of the bytes joined
pub agrees_is : (kind : ℕ) (f : List ℕ) → length f ≤ limit → Agrees kind f → whole_reading kind f ≡ answers (reading_by kind f)
agrees_is kind f small v =
    by_test (is_dss kind)
    (λ dss.
    let start = dss_start_lem kind dss in
    rw dss (dss_is f (start_of kind) small v.full (v.dss dss).0 (omega (arith, start, (v.dss dss).1))))
    (λ ds2.
    let start = ds2_start kind ds2 in
    rw ds2
    (ds2_is f (start_of kind) small v.full (v.ds2 ds2).0 (not_scanned f (v.ds2 ds2).1 ∙ sym start)
    (omega (arith, ap (format_type f) start, (v.ds2 ds2).2))))

-- what a whole call that answers leaves in front of its lent buffers
pub whole_hands : {said : Said Reading} {reading : Reading} {out out' counts counts' : List ℕ} {answer : Result ℕ Refusal} {t : ℕ} → said ≡ answers reading
    → Demuxes said out out' counts counts' answer → result_says answer ≡ answers t
    → (total reading ≡ t) × Part reading 0 (total reading) (take (42 * total reading) out') (take (total reading) counts')
whole_hands {said} {reading} {out} {out'} {counts} {counts'} {answer} {t} read d answered =
    let w = accepted_read said out out' counts counts' answer d t answered in
    let r = w.0 in
    let v = part_whole r out counts (omega (arith, w.2, w.3)) in
    let packets = d.out_is ∙ ap (λ (x : Said Reading). out_after x out) w.4 in
    let entries = d.counts_are ∙ ap (λ (x : Said Reading). counts_after x counts) w.4 in
    let same : r ≡ reading = cc (w.1, read) in
    subst (λ (r : Reading). (total r ≡ t) × Part r 0 (total r) (take (42 * total r) out') (take (total r) counts')) same
    (w.2, record { packets_are = ap (take (42 * total r)) packets ∙ v.packets_are; entries_are = ap (take (total r)) entries ∙ v.entries_are })
