-- `tally::in_records::of_qp7` meets its contract: the walk stands for what the blocks so far gather, and the bytes are those of its records.
-- Assumes nothing.
use native.Mathlib.Omega.{arith}
use Rattle.std.proofs.lemmas.Result.{err_from_is_err_and}
use Rattle.qp7.proofs.Gathering.{gathering_goes_on, gathering_stops}
use Rattle.tally.proofs.Recordwise.{tallying_begins, tallying_goes_on, told_why, tallying_ends}
use Rattle.tally.proofs.in_records.of_qp7.Goals as goal

pub loop-block-init : goal.loop-block-init
loop-block-init c = (omega arith, tallying_begins _ _ _ _ _)

pub returns-in_err-walk : goal.returns-in_err-walk
returns-in_err-walk c =
    let p = err_from_is_err_and c.from_residual.result c.from_residual.ensures.1 in
    let stops =
    gathering_stops _ _ _ _ _ _ _ _ _ c.loop-block.invariant.1.so _ _ _ c.with_block.ensures.on _ c.in_err-walk.was
    c.loop-block-test.true in
    rw (p.1, p.2) (told_why _ _ _ stops.answer_is)

pub loop-block-preserved : goal.loop-block-preserved
loop-block-preserved c =
    let l = c.loop-block in
    let next =
    gathering_goes_on _ _ _ _ _ _ _ _ _ l.invariant.1.so _ _ _ c.with_block.ensures.on _ c.in_ok-walk.was
    c.with_block.ensures.near in
    (omega (arith, c.loop-block-test.true), tallying_goes_on l.invariant.1 next _ c.bytes_read.ensures)

pub returns : goal.returns
returns c =
    let l = c.loop-block in
    tallying_ends l.invariant.1 (omega (arith, l.invariant.0, c.loop-block-test.false))
