-- A call that hands out one packet of a reading: what it says, and what it leaves. For the crates above too.
-- Assumes nothing.
use Prim.Native.Nat.{ℕ, ◌+◌, ◌*◌, ◌<◌}
use mathlib.Core.Path.{◌≡◌, sym, ap, ◌∙◌}
use mathlib.Core.List.{List}
use native.Mathlib.Omega.{arith}
use borrow.Author.Tests.{le-leb, lt-leb}
use lib.ListN.{get_or}
use lib.Dec.{leb}
use Rattle.tables.specs.Lent.{Leaves}
use Rattle.tables.proofs.Cases.{by_order}
use Rattle.tables.proofs.Lent.{leaves_at, leaves_as, leaves_to}
use Rattle.refusals.specs.Said.{Said, answers, refuses, demand, result_says}
use Rattle.refusals.proofs.Said.{for_the_answer}
use Rattle.sp.specs.Readings.{Reading, total, packet_at, file_count_at}
use Rattle.sp.specs.Outcome.{in_room, answered, Demuxes}
use Rattle.sp.specs.Written.{Written}
use Rattle.sp.proofs.Theorems.{accepted_writes, packets_stand, room_decides}
use Rattle.at_once.specs.Agreement.{OnePacket}
use Rattle.std.specs.Prelude.{Result}
use Rattle.refusals.specs.declared.Refusal.{Refusal}

-- one packet needs room for one
pub one_said : (one : Reading) → total one ≡ 1 → (room : ℕ) → answered (in_room (answers one) room) ≡ demand (leb 1 room) 8 1 (answers 1)
one_said one alone room =
    by_order room 1
    (λ h. (room_decides one room).1 (omega (arith, alone)) ∙ ap (refuses 8) alone ∙ simp (lt-leb 1 room h))
    (λ h. (room_decides one room).0 (omega (arith, alone)) ∙ ap answers alone ∙ simp (le-leb 1 room h))

-- and what is left of it is packet k of the other reading, in front
one_left : (one r : Reading) (k : ℕ) → OnePacket one r k → (out out' counts counts' : List ℕ) → Written one out out' counts counts'
    → Leaves out 0 42 (λ i. get_or (packet_at r k) i 0) out' × Leaves counts 0 1 (λ i. file_count_at r k) counts'
one_left one r k is out out' counts counts' w =
    let here = packets_stand one out out' counts counts' w 0 (omega (arith, is.alone)) in (
      leaves_as (λ i. get_or (packet_at r k) i 0)
          (λ i h.
          let front : i ≡ 42 * 0 + i = omega arith in
          sym (leaves_at w.packets_are i (omega (arith, is.alone)))
          ∙ ap (λ (j : ℕ). get_or out' j 0) front
          ∙ here.0 i h
          ∙ ap (λ (l : List ℕ). get_or l i 0) is.bytes)
          (leaves_to (omega (arith, is.alone)) w.packets_are),
      leaves_as (λ i. file_count_at r k) (λ i h. let first : i ≡ 0 = omega arith in ap (file_count_at one) first ∙ is.count)
          (leaves_to is.alone w.counts_are),
    )

-- a call that reads one packet, where whatever it gives is packet k of the whole reading
module _ (single whole : Said Reading) (k : ℕ) (given : (one : Reading) → single ≡ answers one → (r : Reading) × (whole ≡ answers r) × OnePacket one r k)
    (out out' counts counts' : List ℕ) (answer : Result ℕ Refusal) (d : Demuxes single out out' counts counts' answer) where
  -- what it leaves where it answered
  pub one_handed : (n : ℕ) → result_says answer ≡ answers n
      → (r : Reading) × (whole ≡ answers r) × (k < total r) × (n ≡ 1) × Leaves out 0 42 (λ i. get_or (packet_at r k) i 0) out'
      × Leaves counts 0 1 (λ i. file_count_at r k) counts'
  one_handed n e =
      let w = accepted_writes single out out' counts counts' answer d n e in
      let g = given w.0 w.1 in
      let left = one_left w.0 g.0 k g.2 out out' counts counts' w.3 in
      (g.0, g.1, g.2.there, sym w.2 ∙ g.2.alone, left.0, left.1)

  -- and that it is what the whole call left under that number
  pub one_of_whole : {o o' c c' : List ℕ} {all : Result ℕ Refusal} → Demuxes whole o o' c c' all → (m n : ℕ) → result_says all ≡ answers m
      → result_says answer ≡ answers n
      → (k < m) × ((i : ℕ) → i < 42 → get_or out' i 0 ≡ get_or o' (42 * k + i) 0) × (get_or counts' 0 0 ≡ get_or c' k 0)
  one_of_whole {o} {o'} {c} {c'} {all} all_read m n says e =
      let v = accepted_writes whole o o' c c' all all_read m says in
      let p = one_handed n e in
      let read : Written p.0 o o' c c' = for_the_answer (λ x. Written x o o' c c') (sym v.1 ∙ p.1) v.3 in
      let many : total p.0 ≡ m = for_the_answer (λ x. total x ≡ m) (sym v.1 ∙ p.1) v.2 in
      let there = packets_stand p.0 o o' c c' read k p.2 in (
        omega (arith, many, p.2),
        (λ i h. leaves_at p.4 i h ∙ sym (there.0 i h)),
        leaves_at p.5 0 (omega arith) ∙ sym there.1,
      )
