-- What holds of `demux_dss` and `demux_ds2` for every file and all lent memory, beyond the contracts or drawn from them. Each statement
-- stands under a sentence that says it; the laws that carry them are in the files beside this one. Assumes nothing.
use Prim.Native.Nat.{ℕ, ◌+◌, ◌*◌, ◌/◌, ◌%◌, ◌≤◌, ◌<◌}
use mathlib.Core.Path.{◌≡◌, refl, sym, ap, ◌∙◌, subst, subst₂}
use mathlib.Core.List.{List, [], ◌++◌}
use mathlib.Core.Bool.{true, false}
use native.Mathlib.Omega.{arith}
use borrow.Author.Tests.{le-leb, lt-leb, eq-eqb}
use lib.ListN.{length, get_or, get_or-append}
use Rattle.tables.specs.Settled.{SettledAs}
use Rattle.tables.specs.Lent.{Leaves, over}
use Rattle.tables.proofs.Table.{table_at}
use Rattle.tables.proofs.Lent.{leaves_at, over_leaves}
use Rattle.blocks.specs.Places.{limit}
use Rattle.blocks.specs.Headers.{swap_of, first_of, count_of, announced_in}
use Rattle.blocks.proofs.Headers.{announced_none}
use Rattle.magic.specs.declared.Magic.TheVariants.{Dss, Ds2}
use Rattle.magic.specs.Magics.{magic_of}
use Rattle.refusals.specs.declared.Numbers.{Numbers}
use Rattle.refusals.specs.Numbers.{numbered}
use Rattle.refusals.specs.Said.{Said, answers, refuses, refusal, result_says}
use Rattle.refusals.proofs.Said.{not_both}
use Rattle.whole.specs.declared.Recording.{Recording}
use Rattle.detect.specs.declared.Kind.TheVariants.{Sp}
use Rattle.detect.specs.Start.{audio_start}
use Rattle.whole.specs.Admissions.{admission, ds2_admission, announced_by}
use Rattle.whole.proofs.Admissions.{dss_at, ds2_at, bare_header, cut_header, empty_is_sp, ds2_refused, dss_recording, ds2_recording, ds2_admitted, sound, four_bytes}
use Rattle.packets.specs.Packet.{read_size, carry_after, from, is_full}
use Rattle.packets.specs.Start.{dss_start}
use Rattle.packets.specs.Walk.{Walk, byte_of, reach, parity}
use Rattle.packets.proofs.Packets.{full_says, count_full}
use Rattle.packets.proofs.Walk.{steps_place, steps_swap}
use Rattle.sp.specs.declared.Run.{Run}
use Rattle.sp.specs.Runs.{run_begin, carry_past}
use Rattle.sp.specs.ReadLists.{dss_run, dss_runs, ds2_run, ds2_runs}
use Rattle.sp.specs.Readings.{Reading, total, walk_at, packet_at, file_count_at, CompleteAt, joined_byte_at, reading_of, dss_reading, ds2_reading}
use Rattle.sp.specs.Outcome.{room_in, in_room, answered, out_after, counts_after, Demuxes}
use Rattle.sp.specs.Written.{Written}
use Rattle.sp.specs.Longer.{SameAt}
use Rattle.sp.proofs.Runs.{stands_first, carry_at_first, carry_goes_on}
use Rattle.sp.proofs.ReadLists.{dss_packets, ds2_packets, dss_stands}
use Rattle.sp.proofs.Outcome.{read_by_lem, accepted_read, nothing_to_read, refused_before, Seen, only_outcome}
use Rattle.sp.proofs.Longer.{Extends, same_upto, complete_before, recordings_extend, dss_extends, ds2_extends}
use Rattle.sp.proofs.demux_dss.Kinds as dss
use Rattle.sp.proofs.demux_dss.Reads as dss-reads
use Rattle.sp.proofs.demux_ds2.Kinds as ds2
use Rattle.sp.proofs.demux_ds2.Reads as ds2-reads
use Rattle.std.specs.Prelude.{Result}
use Rattle.refusals.specs.declared.Refusal.{Refusal}

module _ (reading : Said Reading) (out out' counts counts' : List ℕ) (answer : Result ℕ Refusal) (d : Demuxes reading out out' counts counts' answer) where
  -- A refused call changes nothing.
  pub refused_changes_nothing : (why : Numbers) → result_says answer ≡ refusal why → (out' ≡ out) × (counts' ≡ counts)
  refused_changes_nothing why e =
      let kept = refused (in_room reading (room_in out counts)) (sym d.answer_is ∙ e) in
      (d.out_is ∙ kept.0, d.counts_are ∙ kept.1)
    where
      refused : (said : Said Reading) → answered said ≡ refusal why → (out_after said out ≡ out) × (counts_after said counts ≡ counts)
      refused (answers r) e = absurd (not_both (sym e))
      refused (refusal why) e = (refl, refl)

  -- An accepted call leaves the reading's packets joined from the front of the output on, and their counts from the front of the table
  -- on. Every other place of both is as it was, and so are the lengths.
  pub accepted_writes : (n : ℕ) → result_says answer ≡ answers n
      → (r : Reading) × (reading ≡ answers r) × (total r ≡ n) × Written r out out' counts counts'
  accepted_writes n e =
      let w = accepted_read reading out out' counts counts' answer d n e in
      let r = w.0 in
      let packets : out' ≡ over (42 * total r) (joined_byte_at r) out = d.out_is ∙ ap (λ (said : Said Reading). out_after said out) w.4 in
      let entries : counts' ≡ over (total r) (file_count_at r) counts =
      d.counts_are ∙ ap (λ (said : Said Reading). counts_after said counts) w.4 in (
        r,
        w.1,
        w.2,
        record {
          packets_are =
              subst (λ (l : List ℕ). Leaves out 0 (42 * total r) (joined_byte_at r) l) (sym packets)
              (over_leaves (42 * total r) (joined_byte_at r) out (omega (arith, w.2, w.3)));
          counts_are =
              subst (λ (l : List ℕ). Leaves counts 0 (total r) (file_count_at r) l) (sym entries)
              (over_leaves (total r) (file_count_at r) counts (omega (arith, w.2, w.3)));
        },
      )

-- Where they stand: packet k from byte 42 k of the output on, and its file-byte count in entry k.
pub packets_stand : (r : Reading) (out out' counts counts' : List ℕ) → Written r out out' counts counts' → (k : ℕ) → k < total r
    → ((i : ℕ) → i < 42 → get_or out' (42 * k + i) 0 ≡ get_or (packet_at r k) i 0) × (get_or counts' k 0 ≡ file_count_at r k)
packets_stand r out out' counts counts' w k h = (
  (λ i l.
      let number : (42 * k + i) / 42 ≡ k = omega arith in
      let byte : (42 * k + i) % 42 ≡ i = omega arith in
      leaves_at w.packets_are (42 * k + i) (omega arith)
      ∙ ap (λ (m : ℕ). byte_of r.stream (walk_at r m) ((42 * k + i) % 42)) number
      ∙ ap (byte_of r.stream (walk_at r k)) byte
      ∙ sym (table_at 42 (byte_of r.stream (walk_at r k)) i l)),
  leaves_at w.counts_are k h,
)

-- A packet's count is its read size exactly when its read is complete in the payload stream.
pub complete_exactly : (r : Reading) (k : ℕ)
    → (CompleteAt r k → file_count_at r k ≡ read_size (walk_at r k).swap) × (file_count_at r k ≡ read_size (walk_at r k).swap → CompleteAt r k)
unfolding is_full
complete_exactly r k = (
  (λ complete. count_full r.long (walk_at r k).swap (walk_at r k).place complete),
  (λ full.
      full_says r.long (walk_at r k).swap (walk_at r k).place (eq-eqb (file_count_at r k) (read_size (walk_at r k).swap) full)),
)

-- What is taken is handed out exactly if there is room for all of it, and is otherwise refused by 8 with the packets needed.
pub room_decides : (r : Reading) (room : ℕ) → (total r ≤ room → answered (in_room (answers r) room) ≡ answers (total r))
    × (room < total r → answered (in_room (answers r) room) ≡ refuses 8 (total r))
unfolding in_room
room_decides r room = ((λ fits. simp (le-leb (total r) room fits)), (λ full. simp (lt-leb (total r) room full)))

-- The packets of a reading, handed out or needed, are as many as the count bytes of all whole blocks add up to.
pub dss_announced : (f : List ℕ) (r : Reading) → dss_reading f ≡ answers r
    → (rec : Recording) × (admission f true false ≡ answers rec) × (total r ≡ announced_by f rec)
unfolding dss_reading
dss_announced f r e =
    let v = read_by_lem f (admission f true false) dss_runs r e in
    (v.0, v.1, ap total (sym v.2) ∙ dss_packets f v.0.start.0 v.0.blocks)

pub ds2_announced : (f : List ℕ) (r : Reading) → ds2_reading f ≡ answers r
    → (rec : Recording) × (ds2_admission f Sp ≡ answers rec) × (total r ≡ announced_by f rec)
unfolding ds2_reading
ds2_announced f r e =
    let v = read_by_lem f (ds2_admission f Sp) ds2_runs r e in
    (v.0, v.1, ap total (sym v.2) ∙ ds2_packets f v.0.start.0 v.0.blocks)

module _ (f : List ℕ) (room : ℕ) (few : length f ≤ limit) where
  -- A bare DSS header is an empty recording, whatever the room, and a cut one is refused by 3.
  pub dss_bare : magic_of f ≡ Dss → length f ≡ 512 * get_or f 0 0 → answered (in_room (dss_reading f) room) ≡ answers 0
  unfolding dss_reading
  dss_bare magic bare =
      let a = 512 * get_or f 0 0 in
      rw (dss_at f magic ∙ bare_header f a few bare)
      (nothing_to_read (reading_of f (record { start = record { 0 = a }; blocks = 0 }) dss_runs) room (dss_packets f a 0 ∙ announced_none f a))

  pub dss_cut : magic_of f ≡ Dss → length f < 512 * get_or f 0 0 → answered (in_room (dss_reading f) room) ≡ refuses 3 (512 * get_or f 0 0)
  unfolding dss_reading
  dss_cut magic cut = rw (dss_at f magic ∙ cut_header f (512 * get_or f 0 0) few cut) (refused_before room (numbered 3 (512 * get_or f 0 0)))

  -- The same of a DS2 header, which reaches to its audio start: by the first byte, or by the scan.
  pub ds2_bare : magic_of f ≡ Ds2 → length f ≡ audio_start f → answered (in_room (ds2_reading f) room) ≡ answers 0
  unfolding ds2_reading
  ds2_bare magic bare =
      let a = audio_start f in
      let rec : Recording = record { start = record { 0 = a }; blocks = 0 } in
      rw (empty_is_sp f rec (ds2_at f magic ∙ bare_header f a few bare) refl)
      (nothing_to_read (reading_of f rec ds2_runs) room (ds2_packets f a 0 ∙ announced_none f a))

  pub ds2_cut : magic_of f ≡ Ds2 → length f < audio_start f → answered (in_room (ds2_reading f) room) ≡ refuses 3 (audio_start f)
  unfolding ds2_reading
  ds2_cut magic cut =
      rw (← ds2_refused f Sp (sym (ds2_at f magic ∙ cut_header f (audio_start f) few cut))) (refused_before room (numbered 3 (audio_start f)))

-- DS2: packet k is read where a walk from place 0 comes to, by the first block's flag.
pub ds2_reads_at : (f : List ℕ) (rec : Recording) (k : ℕ) → k < announced_by f rec
    → ((walk_at (reading_of f rec ds2_runs) k).place ≡ reach (swap_of f rec.start.0 0) k)
    × ((walk_at (reading_of f rec ds2_runs) k).swap ≡ parity (swap_of f rec.start.0 0) k)
ds2_reads_at f rec k h =
    let s = (reading_of f rec ds2_runs).stream in
    let run = ds2_run f rec.start.0 rec.blocks in
    let here = stands_first s 0 run [] k h in (
      ap (λ (w : Walk). w.place) here ∙ steps_place s (run_begin 0 run) k ∙ omega arith,
      ap (λ (w : Walk). w.swap) here ∙ steps_swap s (run_begin 0 run) k,
    )

-- DSS: packet i of block b has the number of packets announced before that block, and i. It is read i packets on from the block's
-- own start, by its own flag.
pub dss_reads_at : (f : List ℕ) (rec : Recording) (b i : ℕ) → b < rec.blocks → i < count_of f rec.start.0 b
    → ((walk_at (reading_of f rec dss_runs) (announced_in f rec.start.0 b + i)).place
    ≡ dss_start b (first_of f rec.start.0 b) (swap_of f rec.start.0 b) + reach (swap_of f rec.start.0 b) i)
    × ((walk_at (reading_of f rec dss_runs) (announced_in f rec.start.0 b + i)).swap ≡ parity (swap_of f rec.start.0 b) i)
dss_reads_at f rec b i there h =
    let s = (reading_of f rec dss_runs).stream in
    let a = rec.start.0 in
    let w = run_begin (carry_past s 0 (dss_runs f a b)) (dss_run f a b) in
    let here = dss_stands s f a rec.blocks b i there h in
    (ap (λ (u : Walk). u.place) here ∙ steps_place s w i, ap (λ (u : Walk). u.swap) here ∙ steps_swap s w i)

-- A reading of a recording's blocks, of all or of those so far, begins with nothing carried, and so does every whole reading.
pub nothing_carried : (f : List ℕ) → ((rec : Recording) (runs : List ℕ → ℕ → ℕ → List Run) → (reading_of f rec runs).carry ≡ 0)
    × ((r : Reading) → dss_reading f ≡ answers r → r.carry ≡ 0) × ((r : Reading) → ds2_reading f ≡ answers r → r.carry ≡ 0)
unfolding dss_reading ds2_reading
nothing_carried f = (
  (λ rec runs. refl),
  (λ r e. ap (λ (x : Reading). x.carry) (sym (read_by_lem f (admission f true false) dss_runs r e).2)),
  (λ r e. ap (λ (x : Reading). x.carry) (sym (read_by_lem f (ds2_admission f Sp) ds2_runs r e).2)),
)

-- The first packet is given what the reading begins with, and what a packet's read carries on is what the next packet is given, in another
-- block too.
pub carry_runs_on : (r : Reading)
    → ((walk_at r 0).carry ≡ r.carry)
    × ((k : ℕ) → k + 1 < total r
    → (walk_at r (k + 1)).carry ≡ carry_after (walk_at r k).swap (walk_at r k).carry (from r.stream (walk_at r k).place))
carry_runs_on r = (carry_at_first r.stream r.carry r.runs, (λ k h. carry_goes_on r.stream r.carry r.runs k h))

-- Of two files that are read as DS2 SP from the same audio start, the longer beginning with the shorter: a packet whose read is
-- complete in the shorter has the same bytes and count under the same number in the longer.
pub ds2_longer : (f p : List ℕ) (one other : Reading) → ds2_reading f ≡ answers one → ds2_reading (f ++ p) ≡ answers other
    → audio_start f ≡ audio_start (f ++ p) → (k : ℕ) → k < total one → CompleteAt one k → SameAt one other k
unfolding ds2_reading
ds2_longer f p one other e e' start k h complete =
    let v = read_by_lem f (ds2_admission f Sp) ds2_runs one e in
    let v' = read_by_lem (f ++ p) (ds2_admission (f ++ p) Sp) ds2_runs other e' in
    let a = ds2_admitted f Sp v.0 v.1 in
    let a' = ds2_admitted (f ++ p) Sp v'.0 v'.1 in
    let extends =
    recordings_extend f p _ _ v.0 v'.0 ds2_runs (ds2_recording f v.0 a.0) start (ds2_recording (f ++ p) v'.0 a'.0) a.2 a'.2
    (ds2_extends f p v.0.start.0) in
    same_upto one other (subst₂ Extends v.2 v'.2 extends) k h (λ j l. before f v.0 one v.2 j k l h complete)
  where
    before : (f : List ℕ) (rec : Recording) (one : Reading) → reading_of f rec ds2_runs ≡ one → (j k : ℕ) → j ≤ k → k < total one → CompleteAt one k
        → CompleteAt one j
    before f rec one is j k l =
        subst (λ (r : Reading). k < total r → CompleteAt r k → CompleteAt r j) is
        (λ h. complete_before _ _ (ds2_run f rec.start.0 rec.blocks) j k l (omega (arith, ds2_packets f rec.start.0 rec.blocks)))

-- DSS: the same for every packet up to the first whose read is not complete. (A complete packet after a short one can change its carried
-- byte.)
pub dss_longer : (f p : List ℕ) (one other : Reading) → dss_reading f ≡ answers one → dss_reading (f ++ p) ≡ answers other
    → (k : ℕ) → k < total one → ((j : ℕ) → j ≤ k → CompleteAt one j) → SameAt one other k
unfolding dss_reading
dss_longer f p one other e e' k h complete =
    let v = read_by_lem f (admission f true false) dss_runs one e in
    let v' = read_by_lem (f ++ p) (admission (f ++ p) true false) dss_runs other e' in
    let some = four_bytes f true false v.0 v.1 in
    let first : get_or f 0 0 ≡ get_or (f ++ p) 0 0 = sym (get_or-append f p 0 0 (omega arith)) in
    let extends =
    recordings_extend f p _ _ v.0 v'.0 dss_runs (dss_recording f v.0 v.1) (ap (λ (byte : ℕ). 512 * byte) first)
    (dss_recording (f ++ p) v'.0 v'.1) (sound f true false v.0 v.1) (sound (f ++ p) true false v'.0 v'.1)
    (dss_extends f p v.0.start.0) in
    same_upto one other (subst₂ Extends v.2 v'.2 extends) k h complete

-- Two outcomes of `demux_dss` that its contract allows for the same arguments are equal: answer, output and counts. The contract is the
-- one in the source, as the check reads it.
pub demux_dss_settled : SettledAs 3 dss.ps dss.r (λ κs. Seen) (λ κs x s. (x, s.1.0.now, s.1.1.0.now)) dss-reads.Post
demux_dss_settled κs a x y s t p q = only_outcome p q

-- And so of `demux_ds2`.
pub demux_ds2_settled : SettledAs 3 ds2.ps ds2.r (λ κs. Seen) (λ κs x s. (x, s.1.0.now, s.1.1.0.now)) ds2-reads.Post
demux_ds2_settled κs a x y s t p q = only_outcome p q
