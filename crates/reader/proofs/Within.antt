-- What an end that is answered hands out, of a sound state: no more than there is room for and than is owed, and a strict one nothing.
-- Assumes nothing.
use Prim.Native.Nat.{ℕ, ◌≤◌}
use mathlib.Core.Path.{◌≡◌}
use mathlib.Core.Bool.{true}
use native.Mathlib.Omega.{arith}
use lib.ListN.{length}
use Rattle.refusals.specs.Said.{answers}
use Rattle.reader.specs.State.{State, start_of, owed, header_done, Sound}
use Rattle.reader.specs.Calls.{strict, end_said}
use Rattle.reader.proofs.Ends.{strict_passed, end_passed}

module _ {s : State} (sound : Sound s) where
  -- an end that is answered hands out no more packets than there is room for, and than are owed, of a recording with a full header
  pub end_within : (choice room : ℕ) {n : ℕ} → end_said s choice room ≡ answers n → (n ≤ room) × (n ≤ owed s) × (header_done s ≡ true)
  end_within choice room {n} said =
      end_passed choice s.phase (start_of s.kind) (length s.bytes) (owed s) room said
      (λ is e.
      strict_passed s.phase _ _ (owed s) n e
      (λ none ended. (omega arith, omega arith, sound.header (λ z. omega arith)))
      (λ none full whole owes. (omega arith, omega arith, full)))
      (λ is full many. (omega arith, omega arith, full))

  -- a strict one none, and none is owed
  pub strict_none : (room : ℕ) {n : ℕ} → end_said s strict room ≡ answers n → (n ≡ 0) × (owed s ≡ 0)
  strict_none room {n} said =
      strict_passed s.phase _ _ (owed s) n said (λ none ended. (none, sound.ended ended)) (λ none full whole owes. (none, owes))
