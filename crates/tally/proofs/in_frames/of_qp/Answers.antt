-- `tally::in_frames::of_qp` meets its contract: it adds up the segments as the blocks close them, and then the open one.
-- Assumes nothing.
use Prim.Native.Nat.{◌*◌}
use native.Mathlib.Omega.{arith}
use Rattle.qp.specs.Segments.{moved, gathered_to}
use Rattle.qp.proofs.Blockwise.{blocks_begin, blocks_go_on}
use Rattle.tally.proofs.Segmentwise.{handing_begins, handing_goes_on, handing_ends}
use Rattle.tally.proofs.in_frames.of_qp.Goals as goal

pub loop-block-init : goal.loop-block-init
loop-block-init c = (blocks_begin _ _ _ _ _, handing_begins _ _ _)

pub loop-block-preserved : goal.loop-block-preserved
loop-block-preserved c =
    let l = c.loop-block in
    let a = c.args in
    let g = gathered_to a.file.now a.recording.start.0 a.recording.blocks l.block in
    let w = l.invariant.0 in
    let moves = c.arrive-arrived.ensures.moves g w.is in
    let next = c.add-gathering.ensures.adds (moved (506 * a.recording.blocks) c.block_start-at.result.0 g) moves.gathering_is in (
      blocks_go_on _ _ _ _ _ l.block _ _ l.gathering _ l.table _ c.arrive-arrived.result c.loop-block-test.true w
          c.block_start-at.ensures.0 c.count_byte.ensures.0 c.count_byte.ensures.1 moves next (c.add-gathering.ensures.near _ _ _ (c.arrive-arrived.ensures.near _ _ w.near)),
      handing_goes_on _ _ _ l.block l.gathering l.out w.is w.near.place_is l.invariant.1 _ _ _ _ c.block_start-at.ensures.0
          c.count_byte.ensures.1 (c.after_arrival-out.ensures g w.is l.invariant.1.out_is) next,
    )

pub returns : goal.returns
returns c =
    let l = c.loop-block in
    let a = c.args in
    let g = gathered_to a.file.now a.recording.start.0 a.recording.blocks l.block in
    let w = l.invariant.0 in
    handing_ends _ _ _ l.block l.gathering l.out w.is w.near.place_is l.invariant.1 _ _
    (omega (arith, w.below, c.loop-block-test.false)) (c.of_open.ensures.counted g w.is) c.together.ensures
