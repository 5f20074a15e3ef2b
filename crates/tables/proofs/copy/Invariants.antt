-- The loop of `tables::copy`: the bytes so far stand where they are to.
-- Assumes nothing.
use Rattle.std.proofs.Common.{◌+◌, get_or}
use Rattle.tables.specs.Lent.{Leaves}
use Rattle.tables.proofs.copy.Given as goal

abbrev pub invariant-loop-k : goal.invariant-loop-k
invariant-loop-k l = Leaves l.initial.list l.to l.k (λ j. get_or l.source (l.at + j) 0) l.list
