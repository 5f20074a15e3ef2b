-- `packets::blended` meets its contract: the blend of what is shifted is the packet.
-- Assumes nothing.
use Rattle.packets.proofs.Gathered.{blended_is}
use Rattle.packets.proofs.blended.Goals as goal

pub returns : goal.returns
returns c = blended_is _ _ _ _ c.shifted-read.ensures c.blend.ensures
