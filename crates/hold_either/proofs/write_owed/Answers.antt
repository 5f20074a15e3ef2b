-- `hold_either::write_owed` meets its contract: the reads of what is owed begin where the hold does, or after.
-- Assumes nothing.
use Rattle.hold_either.proofs.Owing.{queue_owed, queue_handed, walk_owed, walk_handed, owing_as, written_as}
use Rattle.hold_either.proofs.write_owed.Goals as goal

pub write_waiting-requires : goal.write_waiting-requires
write_waiting-requires c = queue_owed (owing_as c.if-dss.true _ _ _ _ _ _ _ _ c.requires)

pub returns-then-dss : goal.returns-then-dss
returns-then-dss c =
    written_as c.if-dss.true _ _ _ _ _ _ _ _ _ _ _ _ _ (λ g. queue_handed g _ _ _ _ _ c.write_waiting.ensures)

pub write_walk-requires : goal.write_walk-requires
write_walk-requires c = walk_owed (owing_as c.if-dss.false _ _ _ _ _ _ _ _ c.requires)

pub returns : goal.returns
returns c =
    written_as c.if-dss.false _ _ _ _ _ _ _ _ _ _ _ _ _ (λ g. walk_handed g _ _ _ _ _ c.write_walk.ensures)
