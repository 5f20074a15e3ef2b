-- `sp::write_dss` meets its contract: after b blocks their runs are written, and what they carry goes on.
-- Assumes nothing.
use native.Mathlib.Omega.{arith}
use Rattle.sp.proofs.Blockwise.{blocks_begin, blocks_go_on, block_fits_lem, block_near}
use Rattle.sp.proofs.write_dss.Goals as goal

pub loop-block-init : goal.loop-block-init
loop-block-init c = blocks_begin _ _ _ _ _ _ _

pub overflow_add-first : goal.overflow_add-first
overflow_add-first c =
    let l = c.loop-block in
    let pre = c.requires in
    let fits = block_fits_lem _ _ _ _ _ _ _ l.block l.first l.carry c.dss_run-run.result l.out l.counts c.loop-block-test.true c.dss_run-run.ensures.0 l.invariant in
    omega (arith, fits, pre.packets_few)

pub loop-block-preserved : goal.loop-block-preserved
loop-block-preserved c =
    let l = c.loop-block in
    blocks_go_on _ _ _ _ _ _ _ l.block l.first l.carry _ c.dss_run-run.result l.out _ l.counts _ c.loop-block-test.true c.dss_run-run.ensures.0 l.invariant c.write_run-carry.ensures

pub write_run-carry-requires-clause-near : goal.write_run-carry-requires-clause-near
write_run-carry-requires-clause-near c = let l = c.loop-block in
    let pre = c.requires in
    let is = c.dss_run-run.ensures.0 in
    let fits = block_fits_lem _ _ _ _ _ _ _ l.block l.first l.carry c.dss_run-run.result l.out l.counts c.loop-block-test.true is l.invariant in (block_near c.args.file.now c.args.recording.start.0 l.block c.dss_run-run.result (omega (arith, c.loop-block-test.true, pre.readable.blocks_few)) is, omega (arith, c.dss_run-run.ensures.1))

pub write_run-carry-requires-clause-room : goal.write_run-carry-requires-clause-room
write_run-carry-requires-clause-room c = let l = c.loop-block in
    let pre = c.requires in
    let is = c.dss_run-run.ensures.0 in
    let fits = block_fits_lem _ _ _ _ _ _ _ l.block l.first l.carry c.dss_run-run.result l.out l.counts c.loop-block-test.true is l.invariant in (omega (arith, fits, l.invariant.done.written.packets_are.long, pre.out_room), omega (arith, fits, l.invariant.done.written.counts_are.long, pre.counts_room))
