-- What holds of `ds2_sp_packet` for every file, every number and all lent memory, beyond its contract or drawn from it. Each statement stands
-- under a sentence that says it. Assumes nothing.
use Prim.Native.Nat.{ℕ, ◌+◌, ◌*◌, ◌≤◌, ◌<◌}
use mathlib.Core.Path.{◌≡◌, sym, ap, ◌∙◌, subst}
use mathlib.Core.List.{List}
use native.Mathlib.Omega.{arith}
use borrow.Author.Tests.{lt-ltb, le-ltb}
use lib.ListN.{get_or}
use Rattle.tables.specs.Settled.{SettledAs}
use Rattle.tables.specs.Lent.{Leaves}
use Rattle.tables.proofs.Cases.{by_order}
use Rattle.refusals.specs.declared.Numbers.{Numbers}
use Rattle.refusals.specs.Numbers.{numbered}
use Rattle.refusals.specs.Said.{answers, refuses, refusal, result_says}
use Rattle.refusals.proofs.Said.{not_both, for_the_answer, by_said, by_onward}
use Rattle.detect.specs.declared.Kind.TheVariants.{Sp}
use Rattle.whole.specs.Admissions.{announced_by, ds2_admission}
use Rattle.sp.specs.ReadLists.{ds2_runs}
use Rattle.sp.specs.Readings.{Reading, total, packet_at, file_count_at, reading_of, ds2_reading}
use Rattle.sp.specs.Outcome.{room_in, Demuxes}
use Rattle.sp.proofs.ReadLists.{ds2_packets}
use Rattle.sp.proofs.Outcome.{read_by_lem, refused_before, Seen, only_outcome}
use Rattle.sp.proofs.Theorems.{ds2_announced}
use Rattle.at_once.specs.Straight.{straight, packet_reading}
use Rattle.at_once.specs.Agreement.{said_at, OnePacket}
use Rattle.at_once.proofs.Straight.{is_one_packet, below_total, not_below}
use Rattle.at_once.proofs.One.{one_said, one_handed, one_of_whole}
use Rattle.at_once.proofs.ds2_sp_packet.Kinds as packet
use Rattle.at_once.proofs.ds2_sp_packet.Reads as packet-reads
use Rattle.std.specs.Prelude.{Result}
use Rattle.refusals.specs.declared.Refusal.{Refusal}

module _ (f : List ℕ) (k : ℕ) where
  module _ (r : Reading) (e : ds2_reading f ≡ answers r) where
    -- At every number below the total of a file's whole reading the packet is that reading's, bytes and count: of padded packets too, for
    -- either parity of the first, and wherever the audio starts.
    pub ds2_at_once : k < total r → (one : Reading) × (packet_reading f k ≡ answers one) × OnePacket one r k
    unfolding ds2_reading
    ds2_at_once h =
        let v = read_by_lem f (ds2_admission f Sp) ds2_runs r e in
        let many : total r ≡ announced_by f v.0 = ap total (sym v.2) ∙ ds2_packets f v.0.start.0 v.0.blocks in
        let there : k < announced_by f v.0 = omega (arith, many) in (
          straight f v.0 k,
          below_total f v.0 k v.1 there,
          subst (λ (x : Reading). OnePacket (straight f v.0 k) x k) v.2 (is_one_packet f v.0 k there),
        )

    -- At every other it is refused by 18 with the total: where nothing is announced, at every number, with 0.
    pub past_the_last : total r ≤ k → packet_reading f k ≡ refuses 18 (total r)
    past_the_last h =
        let v = ds2_announced f r e in
        not_below f v.0 k v.1 (omega (arith, v.2)) ∙ ap (refuses 18) (sym v.2)

  -- And a file that is refused whole is refused so at every number.
  pub refused_alike : (why : Numbers) → ds2_reading f ≡ refusal why → packet_reading f k ≡ refusal why
  unfolding ds2_reading packet_reading
  refused_alike why e =
      by_onward (ds2_admission f Sp) (λ rec. answers (reading_of f rec ds2_runs)) e (λ first. rw first) (λ rec is then. absurd (not_both (sym then)))

  -- So whatever packet is given is the whole reading's.
  pub given_at_once : (one : Reading) → packet_reading f k ≡ answers one → (r : Reading) × (ds2_reading f ≡ answers r) × OnePacket one r k
  given_at_once one is =
      by_said (ds2_reading f)
      (λ r e.
      by_order k (total r)
      (λ h. let o = ds2_at_once r e h in (r, e, for_the_answer (λ x. OnePacket x r k) (sym o.1 ∙ is) o.2))
      (λ h. absurd (not_both (sym (past_the_last r e h) ∙ is))))
      (λ why e. absurd (not_both (sym (refused_alike why e) ∙ is)))

  module _ (out out' counts counts' : List ℕ) (answer : Result ℕ Refusal) (d : Demuxes (packet_reading f k) out out' counts counts' answer) where
    -- What the call says is decided by what the whole reading says, then by the number, and then by the room.
    pub packet_said : result_says answer ≡ said_at (ds2_reading f) k (room_in out counts)
    packet_said =
        d.answer_is
        ∙ by_said (ds2_reading f)
        (λ r e.
        by_order k (total r)
        (λ h.
        let o = ds2_at_once r e h in
        rw (o.1, e, lt-ltb k (total r) h) (one_said o.0 o.2.alone (room_in out counts)))
        (λ h. rw (past_the_last r e h, e, le-ltb k (total r) h) (refused_before (room_in out counts) (numbered 18 (total r)))))
        (λ why e. rw (refused_alike why e, e) (refused_before (room_in out counts) why))

    -- An answered call has put the packet of that number of the whole reading over the first 42 bytes of the output, and its file-byte count into
    -- the first entry of the table. Every other place of both is as it was, and so are the lengths.
    pub packet_handed : (n : ℕ) → result_says answer ≡ answers n
        → (r : Reading) × (ds2_reading f ≡ answers r) × (k < total r) × (n ≡ 1) × Leaves out 0 42 (λ i. get_or (packet_at r k) i 0) out'
        × Leaves counts 0 1 (λ i. file_count_at r k) counts'
    packet_handed = one_handed (packet_reading f k) (ds2_reading f) k given_at_once out out' counts counts' answer d

    -- And where the whole call has answered too, for the same file, the packet and its count are those that it put under that number.
    pub same_as_whole : {o o' c c' : List ℕ} {whole : Result ℕ Refusal} → Demuxes (ds2_reading f) o o' c c' whole → (m n : ℕ) → result_says whole ≡ answers m
        → result_says answer ≡ answers n
        → (k < m) × ((i : ℕ) → i < 42 → get_or out' i 0 ≡ get_or o' (42 * k + i) 0) × (get_or counts' 0 0 ≡ get_or c' k 0)
    same_as_whole all m n says e = one_of_whole (packet_reading f k) (ds2_reading f) k given_at_once out out' counts counts' answer d all m n says e

-- Two outcomes of `ds2_sp_packet` that its contract allows for the same arguments are equal: answer, output and counts. The contract is the
-- one in the source, as the check reads it.
pub ds2_sp_packet_settled : SettledAs 3 packet.ps packet.r (λ κs. Seen) (λ κs x s. (x, s.1.1.0.now, s.1.1.1.0.now)) packet-reads.Post
ds2_sp_packet_settled κs a x y s t p q = only_outcome p q
