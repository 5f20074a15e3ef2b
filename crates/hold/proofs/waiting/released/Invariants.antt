-- `hold::waiting::released` meets its contract: the blocks so far are all read, and the first that is not is the front.
-- Assumes nothing.
use Rattle.hold.proofs.Leaving.{Leaving}
use Rattle.hold.proofs.waiting.released.Given as goal

abbrev pub invariant-loop-blocks : goal.invariant-loop-blocks
invariant-loop-blocks l = Leaving l.waiting l.j l.n l.blocks l.packets
