-- `pieces::absorb::absorb` meets its contract: the blocks before b have been added, and what they brought stands in front.
-- Assumes nothing.
use Rattle.pieces.proofs.Absorbing.{Turns}
use Rattle.pieces.proofs.absorb.absorb.Given as goal

abbrev pub invariant-loop-b : goal.invariant-loop-b
invariant-loop-b l =
    Turns l.dss l.a.0 l.taken l.initial.standing l.initial.hold l.initial.partial l.initial.waiting l.piece l.initial.out l.initial.counts l.b l.hold l.partial l.waiting l.standing l.out l.counts
