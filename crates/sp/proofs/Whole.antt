-- What it says that a packet is whole, and what is in one that is not; where a recording begins swapped.
-- Assumes nothing.
use Prim.Native.Nat.{ℕ, suc, ◌+◌, ◌*◌, ◌≤◌, ◌<◌}
use mathlib.Core.Path.{◌≡◌, refl, sym, ap, ◌∙◌}
use mathlib.Core.List.{List, []}
use mathlib.Core.Bool.{true, false, not}
use native.Mathlib.Numerals.{add-one}
use native.Mathlib.Omega.{arith}
use lib.ListN.{get_or}
use Rattle.tables.proofs.Table.{table_at}
use Rattle.tables.specs.Counting.{how_many}
use Rattle.tables.specs.Leading.{leading}
use Rattle.tables.proofs.Cases.{by_order, by_test, never}
use Rattle.tables.proofs.Counting.{first_such}
use Rattle.tables.proofs.Leading.{leading_leads}
use Rattle.blocks.specs.Headers.{swap_of, count_of, announced_in}
use Rattle.blocks.proofs.Places.{stream_past}
use Rattle.whole.specs.declared.Recording.{Recording}
use Rattle.whole.specs.Admissions.{announced_by}
use Rattle.packets.specs.Packet.{packet_byte}
use Rattle.packets.specs.Walk.{byte_of, step, steps}
use Rattle.packets.proofs.Walk.{steps_more}
use Rattle.sp.specs.declared.Run.{Run}
use Rattle.sp.specs.Runs.{run_begin}
use Rattle.sp.specs.ReadLists.{ds2_run, dss_runs, ds2_runs}
use Rattle.sp.specs.Readings.{Reading, total, walk_at, carry_at, packet_at, CompleteAt, reading_of}
use Rattle.sp.specs.Whole.{sourced_at, whole_at, CarriedFrom, SwappedUpto}
use Rattle.sp.proofs.Sourced.{whole_says, whole_if, carried_from, from_carried, carried_is, ours_is_zero, short_while_swapped, short_only_there, follower_whole}
use Rattle.sp.proofs.Runs.{stands_first}
use Rattle.sp.proofs.Theorems.{ds2_reads_at, dss_reads_at}

-- A packet is whole exactly when its read is complete in the payload stream and, if it is swapped, the byte that is carried to it came from
-- there too: byte 40 of the last unswapped read before it, in another block too. Before any unswapped read there is none.
pub whole_exactly : (r : Reading) (k : ℕ)
    → (whole_at r k ≡ true → CompleteAt r k × ((walk_at r k).swap ≡ true → (j : ℕ) × CarriedFrom r j k))
    × (CompleteAt r k → ((walk_at r k).swap ≡ true → (j : ℕ) × CarriedFrom r j k) → whole_at r k ≡ true)
whole_exactly r k = (
  (λ whole. let says = whole_says r k whole in (says.0, (λ swapped. carried_from r k (says.1 swapped)))),
  (λ complete carried. whole_if r k complete (λ swapped. let from = carried swapped in from_carried r from.0 k from.1)),
)

-- byte 1 of a swapped packet is the carried one
carried_there : (r : Reading) (k : ℕ) → (walk_at r k).swap ≡ true → get_or (packet_at r k) 1 0 ≡ carry_at r k
unfolding packet_byte
carried_there r k swapped = table_at 42 (byte_of r.stream (walk_at r k)) 1 (omega arith) ∙ rw swapped

-- That byte lies in the stream, and is byte 1 of the packet.
pub carried_byte : (r : Reading) (j k : ℕ) → k < total r → (walk_at r k).swap ≡ true → CarriedFrom r j k
    → ((walk_at r j).place + 40 < r.long) × (get_or (packet_at r k) 1 0 ≡ r.stream ((walk_at r j).place + 40))
carried_byte r j k h swapped from = (from.from_file, carried_there r k swapped ∙ carried_is r j k h from)

-- Of a packet that is short though its read is complete, byte 1 is ours, and 0: it is swapped, and where there is a last unswapped read before it
-- that read's byte 40 lies past the stream's end.
pub our_byte : (f : List ℕ) (rec : Recording) (runs : List ℕ → ℕ → ℕ → List Run) (k : ℕ) → k < total (reading_of f rec runs)
    → CompleteAt (reading_of f rec runs) k → whole_at (reading_of f rec runs) k ≡ false
    → ((walk_at (reading_of f rec runs) k).swap ≡ true)
    × ((j : ℕ) → j < k → (walk_at (reading_of f rec runs) j).swap ≡ false
    → ((i : ℕ) → j < i → i < k → (walk_at (reading_of f rec runs) i).swap ≡ true) → 506 * rec.blocks ≤ (walk_at (reading_of f rec runs) j).place + 40)
    × (get_or (packet_at (reading_of f rec runs) k) 1 0 ≡ 0)
our_byte f rec runs k h complete short = (
  swapped,
  (λ j before unswapped last.
      by_order ((walk_at r j).place + 40) (506 * rec.blocks)
      (λ inside.
      absurd
      (never (from_carried r j k (record { before = before; unswapped = unswapped; last = last; from_file = inside })) ours))
      (λ past. past)),
  carried_there r k swapped
      ∙ ours_is_zero r refl (λ q past. stream_past f rec.start.0 rec.blocks q past) k h ours,
)
  where
    r : Reading
    r = reading_of f rec runs

    swapped : (walk_at r k).swap ≡ true
    swapped = by_test (walk_at r k).swap (λ t. t) (λ plain. absurd (never (whole_if r k complete (λ t. absurd (never t plain))) short))

    ours : sourced_at r k ≡ false
    ours = by_test (sourced_at r k) (λ t. absurd (never (whole_if r k complete (λ u. t)) short)) (λ t. t)

-- Where all reads up to a packet are complete it is short exactly if it and all before it are swapped: there was no unswapped read yet.
pub short_before_unswapped : (r : Reading) (k : ℕ) → ((j : ℕ) → j ≤ k → CompleteAt r j)
    → (whole_at r k ≡ false → SwappedUpto r k) × (SwappedUpto r k → whole_at r k ≡ false)
short_before_unswapped r k complete = (short_only_there r k complete, short_while_swapped r k)

-- So where all reads are complete as many packets are short as are swapped before the first unswapped one.
pub short_leading : (r : Reading) → ((k : ℕ) → k < total r → CompleteAt r k)
    → how_many (total r) (λ k. not (whole_at r k)) ≡ leading (λ k. (walk_at r k).swap) (total r)
short_leading r complete =
    let v = leading_leads (λ k. (walk_at r k).swap) (total r) in
    first_such (leading (λ k. (walk_at r k).swap) (total r)) (total r) (λ k. not (whole_at r k)) v.within
    (λ k h. ap not (short_while_swapped r k (λ j upto. v.before j (omega arith))))
    (λ k past h.
    by_test (whole_at r k) (λ whole. ap not whole)
    (λ short.
    absurd (never (short_only_there r k (λ j upto. complete j (omega arith)) short _ past) (v.stops (omega arith)))))

-- A recording that begins swapped has a first packet that is short, however complete its reads are.
pub begun_swapped : (r : Reading) → (walk_at r 0).swap ≡ true → whole_at r 0 ≡ false
begun_swapped r swapped =
    short_while_swapped r 0 (λ j first. let zero : j ≡ 0 = omega arith in rw zero swapped)

-- DS2 begins by block 0's flag, whether that block announces anything or not.
pub ds2_begins : (f : List ℕ) (rec : Recording) → 0 < announced_by f rec
    → (walk_at (reading_of f rec ds2_runs) 0).swap ≡ swap_of f rec.start.0 0
ds2_begins f rec some = (ds2_reads_at f rec 0 some).1

-- And of its packets none but the first is short if its read is complete.
pub ds2_short_first : (f : List ℕ) (rec : Recording) (k : ℕ) → suc k < announced_by f rec → CompleteAt (reading_of f rec ds2_runs) (suc k)
    → whole_at (reading_of f rec ds2_runs) (suc k) ≡ true
ds2_short_first f rec k h complete =
    let r = reading_of f rec ds2_runs in
    let run = ds2_run f rec.start.0 rec.blocks in
    follower_whole r k
    (stands_first r.stream 0 run [] (suc k) h
    ∙ ap (steps r.stream (run_begin 0 run)) (sym (add-one k))
    ∙ steps_more r.stream (run_begin 0 run) k
    ∙ ap (step r.stream) (sym (stands_first r.stream 0 run [] k (omega arith))))
    complete

-- DSS begins by the flag of the first block that announces anything.
pub dss_begins : (f : List ℕ) (rec : Recording) (b : ℕ) → b < rec.blocks → announced_in f rec.start.0 b ≡ 0 → 0 < count_of f rec.start.0 b
    → (walk_at (reading_of f rec dss_runs) 0).swap ≡ swap_of f rec.start.0 b
dss_begins f rec b there silent some =
    let first : announced_in f rec.start.0 b + 0 ≡ 0 = omega arith in
    rw first at (dss_reads_at f rec b 0 there some).1
