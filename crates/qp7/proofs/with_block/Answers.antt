-- `qp7::with_block` meets its contract: by whether the block announces anything.
-- Assumes nothing.
use Rattle.qp7.proofs.Blockwise.{raised_stands, silent_goes_on, announcing_goes_on}
use Rattle.qp7.proofs.with_block.Goals as goal

pub returns-then-count-eq0-clause-on : goal.returns-then-count-eq0-clause-on
returns-then-count-eq0-clause-on c = let a = c.args in
    let p = c.requires in (λ g e.
    silent_goes_on a.file.now a.recording.start.0 a.recording.blocks a.block g a.most _ _ _ _ _ _
    c.count_byte-count.ensures.0 c.if-count-eq0.true (c.close-closed.ensures.closes g e) c.raise.ensures)

pub returns-clause-on : goal.returns-clause-on
returns-clause-on c = let a = c.args in
    let p = c.requires in (λ g e.
    announcing_goes_on a.file.now a.recording.start.0 a.recording.blocks a.block g a.most _ _ _ _ _ _
    c.count_byte-count.ensures.0 c.if-count-eq0.false c.block_start.ensures.0
    (c.read_records.ensures.on _ (raised_stands a.walk _ _ g e c.raise-raised.ensures)))
