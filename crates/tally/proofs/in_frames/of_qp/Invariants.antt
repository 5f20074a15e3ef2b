-- `tally::in_frames::of_qp` meets its contract: it adds up the segments as the blocks close them, and then the open one.
-- Assumes nothing.
use Rattle.qp.proofs.Blockwise.{Blockwise}
use Rattle.tally.proofs.Segmentwise.{Handing}
use Rattle.tally.proofs.in_frames.of_qp.Given as goal

abbrev pub invariant-loop-block : goal.invariant-loop-block
invariant-loop-block l =
    Blockwise l.file l.recording.start.0 l.recording.blocks 0 l.initial.table l.block l.gathering l.table × Handing l.file l.recording.start.0 l.recording.blocks l.block l.gathering l.out
