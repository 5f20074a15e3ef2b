-- `hold_either::add_block` meets its contract: of either kind, the one that it is.
-- Assumes nothing.
use Rattle.hold.proofs.Adding.{added_as}
use Rattle.hold_either.proofs.add_block.Goals as goal

pub returns-then-dss : goal.returns-then-dss
returns-then-dss c = added_as c.if-dss.true _ _ _ _ _ _ _ _ _ _ _ _ _ _ _ _ c.add_dss.ensures

pub returns : goal.returns
returns c = added_as c.if-dss.false _ _ _ _ _ _ _ _ _ _ _ _ _ _ _ _ (c.add_ds2.ensures _)
