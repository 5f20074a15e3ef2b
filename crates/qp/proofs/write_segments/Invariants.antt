-- `qp::write_segments` meets its contract: after b blocks the table holds what they have closed, and the end closes the last.
-- Assumes nothing.
use Rattle.qp.proofs.Blockwise.{Blockwise}
use Rattle.qp.proofs.write_segments.Given as goal

abbrev pub invariant-loop-block : goal.invariant-loop-block
invariant-loop-block l =
    Blockwise l.file l.recording.start.0 l.recording.blocks l.most l.initial.table l.block l.gathering l.table
