-- `detect::ds2::detect_ds2_format_type` meets its contract: the type of the file is that of the blocks still left.
-- Assumes nothing.
use Prim.Native.Nat.{◌-◌, ◌≤◌}
use mathlib.Core.Path.{◌≡◌}
use Rattle.detect.specs.Kinds.{format_type, first_type}
use Rattle.detect.proofs.ds2.detect_ds2_format_type.Given as goal

abbrev pub invariant-loop-block : goal.invariant-loop-block
invariant-loop-block l = (l.block ≤ l.blocks) × (format_type l.file l.header_size.0 ≡ first_type l.file l.header_size.0 (l.blocks - l.block) l.block)

abbrev pub decreases-loop-block : goal.decreases-loop-block
decreases-loop-block l = l.blocks - l.block
