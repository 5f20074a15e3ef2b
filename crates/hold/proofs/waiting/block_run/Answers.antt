-- `hold::waiting::block_run` meets its contract: its fields are those of the block.
-- Assumes nothing.
use mathlib.Core.Path.{ap, ◌∙◌}
use native.Mathlib.Omega.{arith}
use Rattle.std.proofs.Common.{rules}
use Rattle.blocks.specs.Headers.{flag_of}
use Rattle.packets.proofs.Start.{start_most}
use Rattle.sp.proofs.ReadLists.{run_is}
use Rattle.blocks.specs.Headers.{flag_of}
use Rattle.hold.proofs.waiting.block_run.Goals as goal

pub returns : goal.returns
returns c =
    let a = c.args in (
      search rules,
      omega (arith, c.dss_start.ensures, start_most a.block c.from.result c.flag-swap.result),
      λ f at zero one two. run_is f at a.block c.from.result _ _ _ (c.from.ensures ∙ one) (c.flag-swap.ensures ∙ ap flag_of zero) c.dss_start.ensures (c.from-2.ensures ∙ two),
    )
