-- What the exports tell of a record that cannot be read: where it is, how long it is, and how many of its bytes are absent; and that no other
-- refusal tells of such bytes. Assumes nothing.
use Prim.Native.Nat.{ℕ, ◌<◌}
use mathlib.Core.Path.{◌≡◌, sym, ◌∙◌, subst}
use mathlib.Core.List.{List}
use mathlib.Core.Bool.{true, false, not}
use mathlib.Core.Logic.{⊎_elim}
use native.Mathlib.Omega.{arith}
use Rattle.tables.proofs.Cases.{never}
use Rattle.blocks.specs.Headers.{Bytes}
use Rattle.refusals.specs.declared.Numbers.{Numbers}
use Rattle.refusals.specs.Numbers.{OfRecord}
use Rattle.refusals.specs.Said.{Said, answers, refusal, is_among}
use Rattle.refusals.proofs.Said.{by_numbers}
use Rattle.magic.specs.Magics.{names_dss}
use Rattle.detect.specs.declared.Kind.TheVariants.{Qp7}
use Rattle.whole.specs.declared.Recording.{Recording}
use Rattle.whole.specs.Admissions.{admission, ds2_admission}
use Rattle.qp7.specs.Walk.{qp7_reading}
use Rattle.qp7.specs.Lacking.{Lacks}
use Rattle.qp7.proofs.Theorems.{record_lacks, refused_as_read}
use Rattle.tally.specs.Tallies.{tallied}
use Rattle.tally.proofs.Theorems.{tally_lacks}
use Rattle.numbers.specs.declared.Answer.{Answer}
use Rattle.numbers.specs.declared.Tallied.{Tallied}
use Rattle.numbers.specs.Numbers.{tally_numbers}
use Rattle.klovdrun.specs.Wrapped.{Qp7Carries, Tells, told_by, of_tally}
use Rattle.klovdrun.proofs.Theorems.{qp7_tells, klov_tally_tells}

module _ {A : Type 0} {numbers : List ℕ} {first second : A → ℕ} {other : ℕ} {said : Said A} {r : Answer}
    (told : Tells numbers first second other said r) where
  -- A call whose list has neither 4 nor 5 tells of no size and of no bytes that are absent.
  pub never_lacks : is_among numbers 4 ≡ false → is_among numbers 5 ≡ false → (r.size ≡ 0) × (r.absent ≡ 0)
  never_lacks no-four no-five =
      told.only_records_lack (⊎_elim (λ four. not_listed 4 (omega arith) four no-four) (λ five. not_listed 5 (omega arith) five no-five))
    where
      not_listed : (number : ℕ) → 0 < number → r.refusal ≡ number → is_among numbers number ≡ false → ⊥
      not_listed number some is none = never (subst (λ (n : ℕ). is_among numbers n ≡ true) is (told.listed (omega (arith, some, is)))) none

  -- a record's refusal that is told is the one that was said
  as_said : OfRecord r.refusal → (why : Numbers) × (said ≡ refusal why) × (why ≡ told_by r) × OfRecord why.number
  as_said of-record =
      let some : 0 < r.refusal = ⊎_elim (λ four. omega (arith, four)) (λ five. omega (arith, five)) of-record in
      let w = told.above some in
      (w.0, w.1, by_numbers w.0 (sym w.2) (sym w.3) (sym w.6) (sym w.7), subst OfRecord w.2 of-record)

-- A file of bytes that `klov_demux_ds2_qp7` or `klov_tally` refuses by 4 or 5 was admitted, and the answer says how much is missing: by 5 the
-- record's size, and by how many bytes it would end past the stream's end; by 4 size 0, and 2 bytes.
module _ (f : List ℕ) (bytes : Bytes f) where
  pub qp7_told_lacks : {records records' segments segments' : List ℕ} {r : Answer}
      → Qp7Carries (qp7_reading f) records records' segments segments' r → OfRecord r.refusal
      → (rec : Recording) × (ds2_admission f Qp7 ≡ answers rec) × Lacks f rec (told_by r)
  qp7_told_lacks c of-record =
      let w = as_said (qp7_tells f c) of-record in
      let read = refused_as_read (qp7_reading f) _ _ _ _ c.answer c.comes w.0 (c.comes.answer_is ∙ w.1) w.3 in
      let l = record_lacks f bytes w.0 read w.3 in
      (l.0, l.1, subst (Lacks f l.0) w.2 l.2)

  pub tally_told_lacks : {r : Tallied} → r ≡ tally_numbers (tallied f) → OfRecord r.refusal
      → (rec : Recording) × (admission f (names_dss f) (not (names_dss f)) ≡ answers rec)
      × Lacks f rec (told_by (of_tally r))
  tally_told_lacks {r} e of-record =
      let w = as_said {r = of_tally r} (klov_tally_tells f e) of-record in
      let l = tally_lacks f bytes w.0 w.1 w.3 in
      (l.0, l.1, subst (Lacks f l.0) w.2 l.2)
