-- `blocks::announced` meets its contract: the sum so far is what the blocks so far announce.
-- Assumes nothing.
use native.Mathlib.Omega.{arith}
use Rattle.blocks.specs.Headers.{announced_in}
use Rattle.blocks.proofs.Headers.{announced_more}
use borrow.Author.Rules.{rules}
use Rattle.std.proofs.Common.{rules}
use Rattle.blocks.specs.Headers.{announced_in}
use Rattle.blocks.proofs.announced.Goals as goal

pub loop-block-init : goal.loop-block-init
unfolding announced_in
loop-block-init c = search rules

pub loop-block-preserved : goal.loop-block-preserved
loop-block-preserved c =
    (search rules, (rw announced_more (omega arith), search rules))
