-- `writing::sound_in` meets its contract: every packet so far is sound.
-- Assumes nothing.
use Prim.Native.Nat.{ℕ, ◌≤◌, ◌<◌}
use mathlib.Core.Path.{◌≡◌}
use Rattle.writing.specs.Laying.{many_in, byte_in}
use Rattle.writing.proofs.sound_in.Given as goal

abbrev pub invariant-loop-k : goal.invariant-loop-k
invariant-loop-k l = (l.k ≤ l.many) × ((l.many ≡ many_in l.packets) × ((j : ℕ) → j < l.k → byte_in l.packets j 40 ≡ 0))
