-- `hold::write_held` meets its contract: each packet is one of every stream whose bytes the hold has.
-- Assumes nothing.
use Rattle.std.proofs.Common.{rules}
use Rattle.hold.proofs.write_held.Goals as goal

pub returns : goal.returns
returns c = λ s has. c.hand_out_run.ensures s _ (search rules)
