-- `hold::waiting::write_waiting` meets its contract: block by block the parts follow one another.
-- Assumes nothing.
use Prim.Native.Nat.{◌-◌}
use lib.ListN.{length}
use Rattle.hold.specs.Inner.{Queued}
use Rattle.hold.proofs.Queue.{Queueing}
use Rattle.hold.proofs.waiting.write_waiting.Given as goal

abbrev pub invariant-loop-block : goal.invariant-loop-block
invariant-loop-block l =
    (g : Queued l.n l.j l.d l.m l.number l.hold l.waiting l.carry (length l.initial.out) (length l.initial.counts))
    → Queueing g.f g.a l.n l.j l.d l.m l.number l.initial.out l.initial.counts (l.block - l.j) l.skip l.left l.carried l.out l.counts
