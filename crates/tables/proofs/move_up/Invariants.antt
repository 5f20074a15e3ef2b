-- The loop of `tables::move_up`: the bytes so far stand in front.
-- Assumes nothing.
use Rattle.std.proofs.Common.{◌+◌, get_or}
use Rattle.tables.specs.Lent.{Leaves}
use Rattle.tables.proofs.move_up.Given as goal

abbrev pub invariant-loop-k : goal.invariant-loop-k
invariant-loop-k l = Leaves l.initial.list 0 l.k (λ j. get_or l.initial.list (l.by + j) 0) l.list
