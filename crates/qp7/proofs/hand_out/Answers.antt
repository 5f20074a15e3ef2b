-- `qp7::hand_out` meets its contract: it refuses for want of room, or writes all.
-- Assumes nothing.
use Rattle.qp7.proofs.Outcome.{few_records, few_segments, all_written}
use Rattle.qp7.proofs.hand_out.Goals as goal

pub returns-then-records-most : goal.returns-then-records-most
returns-then-records-most c =
    (few_records _ c.args.walk c.requires.counted _ _ c.if-records-most.true)

pub returns-then-segments-most : goal.returns-then-segments-most
returns-then-segments-most c =
    (few_segments _ c.args.walk c.requires.counted _ _ c.if-records-most.false c.if-segments-most.true)

pub returns : goal.returns
returns c =
    all_written _ c.args.walk c.requires.counted _ _ _ _ _ c.if-records-most.false c.if-segments-most.false c.walk_blocks.ensures
