-- `hold_dss::add_dss` meets its contract: either way the block is added.
-- Assumes nothing.
use Rattle.hold_dss.proofs.add_dss.Goals as goal

pub returns-then-passes : goal.returns-then-passes
returns-then-passes c = c.pass_dss.ensures _ _
