-- `detect::ds2::detect_ds2_format_type` meets its contract: the type of the file is that of the blocks still left.
-- Assumes nothing.
use native.Mathlib.Nat.{sub-zero}
use Prim.Native.Nat.{suc, ◌+◌, ◌-◌}
use mathlib.Core.Path.{◌≡◌, sym, ◌∙◌}
use native.Mathlib.Omega.{arith}
use Rattle.detect.specs.Kinds.{format_type}
use Rattle.detect.proofs.Types.{type_none, type_here, type_later}
use borrow.Author.Rules.{rules}
use Rattle.std.proofs.Common.{rules, ◌≡◌, ◌-◌, ◌+◌}
use Rattle.detect.specs.Kinds.{format_type}
use Rattle.detect.proofs.ds2.detect_ds2_format_type.Goals as goal

pub loop-block-init : goal.loop-block-init
unfolding format_type
loop-block-init c = (search rules, rw (sub-zero, c.whole_blocks-blocks.ensures))

pub returns-then-count_byte-gt0 : goal.returns-then-count_byte-gt0
returns-then-count_byte-gt0 c =
    let more : c.whole_blocks-blocks.result - c.loop-block.block ≡ suc (c.whole_blocks-blocks.result - (c.loop-block.block + 1)) = omega arith in
    c.header_byte.ensures ∙ sym (c.loop-block.invariant.1 ∙ type_here _ _ _ _ _ more (omega arith))

pub loop-block-preserved : goal.loop-block-preserved
loop-block-preserved c =
    let more : c.whole_blocks-blocks.result - c.loop-block.block ≡ suc (c.whole_blocks-blocks.result - (c.loop-block.block + 1)) = omega arith in
    (omega arith, c.loop-block.invariant.1 ∙ type_later _ _ _ _ _ more (omega arith))

pub returns : goal.returns
returns c =
    sym (c.loop-block.invariant.1 ∙ type_none _ _ _ _ (omega arith))
