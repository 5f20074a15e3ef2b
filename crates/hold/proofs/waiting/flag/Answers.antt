-- `hold::waiting::flag` meets its contract: the byte is 128 or more exactly where bit 7 is set.
-- Assumes nothing.
use mathlib.Core.Path.{refl}
use Rattle.blocks.specs.Headers.{flag_of}
use Rattle.blocks.specs.Headers.{flag_of}
use Rattle.hold.proofs.waiting.flag.Goals as goal

pub returns : goal.returns
unfolding flag_of
returns c = refl
