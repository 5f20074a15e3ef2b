-- `entries::put_entries` meets its contract: before each block the entries of those before it are laid.
-- Assumes nothing.
use Rattle.entries.proofs.Blockwise.{laid_none, laid_silent, laid_next, laid_room}
use Rattle.entries.proofs.put_entries.Goals as goal

pub loop-block-init : goal.loop-block-init
loop-block-init c = laid_none _ _ _ _ _

pub loop-block-preserved-then-count-eq0 : goal.loop-block-preserved-then-count-eq0
loop-block-preserved-then-count-eq0 c =
    let l = c.loop-block in
    laid_silent _ _ _ _ _ l.block l.at l.first _ l.out c.loop-block-test.true c.count_byte-count.ensures l.invariant c.if-count-eq0.true

pub put_entry-requires : goal.put_entry-requires
put_entry-requires c =
    let l = c.loop-block in
    laid_room _ _ _ _ _ l.block l.at l.first _ l.out c.loop-block-test.true c.count_byte-count.ensures l.invariant c.if-count-eq0.false c.requires.room

pub loop-block-preserved : goal.loop-block-preserved
loop-block-preserved c =
    let l = c.loop-block in
    laid_next _ _ _ _ _ l.block l.at l.first _ l.out c.loop-block-test.true c.count_byte-count.ensures l.invariant c.if-count-eq0.false _ _ c.entry_of.ensures c.put_entry.ensures
