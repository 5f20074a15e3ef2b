-- `entries::add_up` meets its contract: before each block so many entries and packets are counted.
-- Assumes nothing.
use Rattle.entries.proofs.Blockwise.{before_all, before_next}
use Rattle.entries.proofs.add_up.Goals as goal

pub loop-block-init : goal.loop-block-init
loop-block-init c = before_all _ _ _

pub loop-block-preserved : goal.loop-block-preserved
loop-block-preserved c =
    let l = c.loop-block in
    before_next _ _ _ l.block l.entries l.packets c.count_byte-count.result c.min-entries.result c.loop-block-test.true c.count_byte-count.ensures c.min-entries.ensures l.invariant
