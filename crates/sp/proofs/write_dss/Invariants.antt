-- `sp::write_dss` meets its contract: after b blocks their runs are written, and what they carry goes on.
-- Assumes nothing.
use Prim.Native.Nat.{◌*◌}
use Rattle.blocks.specs.Places.{stream_at}
use Rattle.sp.proofs.Blockwise.{Blockwise}
use Rattle.sp.proofs.write_dss.Given as goal

abbrev pub invariant-loop-block : goal.invariant-loop-block
invariant-loop-block l =
    Blockwise l.file l.recording.start.0 l.recording.blocks (stream_at l.file l.recording.start.0 l.recording.blocks) (506 * l.recording.blocks) l.initial.out l.initial.counts l.block l.first l.carry l.out l.counts
