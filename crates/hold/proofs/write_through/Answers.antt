-- `hold::write_through` meets its contract: each packet is one of every stream whose bytes the payload has.
-- Assumes nothing.
use Rattle.std.proofs.Common.{rules}
use Rattle.hold.proofs.write_through.Goals as goal

pub returns : goal.returns
returns c = λ s has. c.hand_out_run.ensures s _ (search rules)
