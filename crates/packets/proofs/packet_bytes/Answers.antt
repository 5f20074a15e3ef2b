-- `packets::packet_bytes` meets its contract: by the parity of the read.
-- Assumes nothing.
use Rattle.packets.specs.Packet.{packet_byte}
use Rattle.packets.specs.Packet.{packet_byte}
use Rattle.packets.proofs.packet_bytes.Goals as goal

pub returns : goal.returns
unfolding packet_byte
returns c = rw c.if-swap.false c.plain.ensures
