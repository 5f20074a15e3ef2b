-- `laying::begin` meets its contract: the header is copied, then each block so far is silent.
-- Assumes nothing.
use Prim.Native.Nat.{◌*◌, ◌≤◌}
use Rattle.tables.specs.Lent.{Leaves}
use Rattle.laying.proofs.Steps.{silent_at}
use Rattle.laying.proofs.begin.Given as goal

abbrev pub invariant-loop-block : goal.invariant-loop-block
invariant-loop-block l = (l.block ≤ l.blocks) × Leaves l.initial.out 1536 (512 * l.block) (silent_at l.kind) l.out
