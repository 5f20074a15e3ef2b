-- Wrong programs that meet no contract of a whole SP call, given a file that shows it: one that refuses what there is room for, one whose
-- packets are zeros, and one that touches no buffer. Assumes nothing.
use Prim.Native.Nat.{ℕ, ◌+◌, ◌*◌, ◌≤◌, ◌<◌}
use mathlib.Core.Path.{◌≡◌, sym, ap, ◌∙◌}
use mathlib.Core.List.{List}
use lib.ListN.{get_or}
use Rattle.refusals.specs.declared.Numbers.{Numbers}
use Rattle.refusals.specs.Said.{Said, answers, refusal, result_says}
use Rattle.refusals.proofs.Said.{not_both, for_the_answer}
use Rattle.sp.specs.Readings.{Reading, total, packet_at}
use Rattle.sp.specs.Outcome.{room_in, in_room, answered, Demuxes}
use Rattle.sp.specs.Written.{Written}
use Rattle.sp.proofs.Theorems.{accepted_writes, packets_stand, room_decides}
use Rattle.std.specs.Prelude.{Result}
use Rattle.refusals.specs.declared.Refusal.{Refusal}

-- of a file that is taken, with room for all its packets, a call that meets its contract
module _ {reading : Said Reading} {r : Reading} (taken : reading ≡ answers r) {out out' counts counts' : List ℕ} {answer : Result ℕ Refusal}
    (room : total r ≤ room_in out counts) (d : Demuxes reading out out' counts counts' answer) where
  -- what it answers, and has written
  handed_out : result_says answer ≡ answers (total r)
  handed_out = d.answer_is ∙ ap (λ (said : Said Reading). answered (in_room said (room_in out counts))) taken ∙ (room_decides r (room_in out counts)).0 room

  written : Written r out out' counts counts'
  written =
      let w = accepted_writes reading out out' counts counts' answer d (total r) handed_out in
      for_the_answer (λ r. Written r out out' counts counts') (sym w.1 ∙ taken) w.3

  -- It does not refuse.
  pub not_refused : (why : Numbers) → result_says answer ≡ refusal why → ⊥
  not_refused why e = not_both (sym e ∙ handed_out)

  module _ (k i : ℕ) (there : k < total r) (inside : i < 42) where
    -- Where a packet's byte is not zero, the output's is not.
    pub not_zeros : (get_or (packet_at r k) i 0 ≡ 0 → ⊥) → get_or out' (42 * k + i) 0 ≡ 0 → ⊥
    not_zeros sounds silent = sounds (sym ((packets_stand r out out' counts counts' written k there).0 i inside) ∙ silent)

    -- Where the output had another byte than the packet's, it is not as it was.
    pub not_untouched : (get_or out (42 * k + i) 0 ≡ get_or (packet_at r k) i 0 → ⊥) → out' ≡ out → ⊥
    not_untouched other same =
        other (ap (λ (l : List ℕ). get_or l (42 * k + i) 0) (sym same) ∙ (packets_stand r out out' counts counts' written k there).0 i inside)
