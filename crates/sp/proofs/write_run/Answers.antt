-- `sp::write_run` meets its contract: each packet is the file's.
-- Assumes nothing.
use Rattle.std.proofs.Common.{rules}
use Rattle.sp.proofs.write_run.Goals as goal

pub returns : goal.returns
returns c = c.hand_out_run.ensures _ _ (search rules)
