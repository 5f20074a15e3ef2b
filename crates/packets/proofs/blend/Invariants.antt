-- `packets::blend` meets its contract: each place has the blend of the two shifts so far.
-- Assumes nothing.
use Prim.Native.Nat.{◌+◌, ◌%◌}
use mathlib.Core.Path.{◌≡◌}
use mathlib.Core.Bool.{cond}
use lib.ListN.{length, get_or}
use lib.Dec.{eqb}
use Rattle.tables.specs.Lent.{Leaves}
use Rattle.packets.proofs.blend.Given as goal

abbrev pub invariant-loop-k : goal.invariant-loop-k
invariant-loop-k l =
    ((length l.initial.blend ≡ 48) × Leaves l.initial.blend 0 l.k (λ j. cond (eqb (j % 2) 0) (get_or l.read (j + 4) 0) (get_or l.read j 0)) l.blend)
