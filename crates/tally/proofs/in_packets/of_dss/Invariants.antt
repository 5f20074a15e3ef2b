-- `tally::in_packets::of_dss` meets its contract: after b blocks it has what their runs hand out.
-- Assumes nothing.
use Rattle.blocks.specs.Places.{stream_at}
use Rattle.tally.proofs.Runwise.{Runwise}
use Rattle.tally.proofs.in_packets.of_dss.Given as goal

abbrev pub invariant-loop-block : goal.invariant-loop-block
invariant-loop-block l =
    Runwise l.file l.recording.start.0 l.recording.blocks (stream_at l.file l.recording.start.0 l.recording.blocks) l.long l.block l.out l.sourced
