-- `blocks::swap_flag` meets its contract: byte 0 is 128 or more exactly where bit 7 is set.
-- Assumes nothing.
use Rattle.blocks.specs.Headers.{flag_of}
use Rattle.blocks.proofs.swap_flag.Goals as goal

pub returns : goal.returns
unfolding flag_of
returns c = rw c.header_byte.ensures
