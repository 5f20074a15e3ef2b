-- `tally::in_records::of_qp7` meets its contract: the walk stands for what the blocks so far gather, and the bytes are those of its records.
-- Assumes nothing.
use Prim.Native.Nat.{◌≤◌}
use Rattle.tally.proofs.Recordwise.{Tallying}
use Rattle.tally.proofs.in_records.of_qp7.Given as goal

abbrev pub invariant-loop-block : goal.invariant-loop-block
invariant-loop-block l =
    (l.block ≤ l.recording.blocks) × Tallying l.file l.recording l.none l.initial.records l.records l.initial.segments l.segments l.walk l.block l.bytes
