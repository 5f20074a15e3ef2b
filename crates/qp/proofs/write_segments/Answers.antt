-- `qp::write_segments` meets its contract: after b blocks the table holds what they have closed, and the end closes the last.
-- Assumes nothing.
use Prim.Native.Nat.{◌*◌}
use native.Mathlib.Omega.{arith}
use Rattle.whole.proofs.Admissions.{few_blocks}
use Rattle.qp.specs.Segments.{moved, gathered_to}
use Rattle.qp.proofs.Blockwise.{blocks_begin, blocks_go_on}
use Rattle.std.proofs.Common.{◌*◌}
use Rattle.qp.proofs.write_segments.Goals as goal

pub loop-block-init : goal.loop-block-init
loop-block-init c = blocks_begin _ _ _ _ _

pub add-gathering-requires : goal.add-gathering-requires
add-gathering-requires c =
    let few = few_blocks _ c.args.recording c.requires.sound in
    let near = c.arrive-arrived.ensures.near _ _ c.loop-block.invariant.near in
    let count = c.count_byte.ensures.1 in
    let below = c.loop-block-test.true in
    (omega (arith, near.place_is, near.start_in, near.frames_few, count, few, below), omega (arith, near.frames_few, count, few, below))

pub loop-block-preserved : goal.loop-block-preserved
loop-block-preserved c =
    let l = c.loop-block in
    let a = c.args in
    let g = gathered_to a.file.now a.recording.start.0 a.recording.blocks l.block in
    let moves = c.arrive-arrived.ensures.moves g l.invariant.is in
    blocks_go_on _ _ _ _ _ l.block _ _ l.gathering _ l.table _ c.arrive-arrived.result c.loop-block-test.true l.invariant c.block_start-at.ensures.0 c.count_byte.ensures.0 c.count_byte.ensures.1 moves (c.add-gathering.ensures.adds (moved (506 * a.recording.blocks) c.block_start-at.result.0 g) moves.gathering_is) (c.add-gathering.ensures.near _ _ _ (c.arrive-arrived.ensures.near _ _ l.invariant.near))
