-- `qp7::walk_blocks` meets its contract: the walk stands for what the blocks so far gather.
-- Assumes nothing.
use Prim.Native.Nat.{◌≤◌}
use mathlib.Core.Path.{◌≡◌}
use lib.ListN.{length}
use Rattle.qp7.proofs.Gathering.{Gathers}
use Rattle.qp7.proofs.walk_blocks.Given as goal

abbrev pub invariant-loop-block : goal.invariant-loop-block
invariant-loop-block l =
    (l.block ≤ l.recording.blocks) × (length l.records ≡ length l.initial.records) × (length l.segments ≡ length l.initial.segments)
    × Gathers l.file l.recording l.most l.initial.records l.records l.initial.segments l.segments l.walk l.block
