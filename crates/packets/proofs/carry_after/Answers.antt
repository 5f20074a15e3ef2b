-- `packets::carry_after` meets its contract: an unswapped read's byte 40, or the carry as it was.
-- Assumes nothing.
use Rattle.packets.specs.Packet.{carry_after}
use Rattle.packets.specs.Packet.{carry_after}
use Rattle.packets.proofs.carry_after.Goals as goal

pub returns-then-swap : goal.returns-then-swap
unfolding carry_after
returns-then-swap c = simp c.if-swap.true

pub returns : goal.returns
unfolding carry_after
returns c = rw c.if-swap.false
