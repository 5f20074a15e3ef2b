-- `blocks::announced` meets its contract: the sum so far is what the blocks so far announce.
-- Assumes nothing.
use Prim.Native.Nat.{◌*◌, ◌-◌, ◌≤◌}
use mathlib.Core.Path.{◌≡◌}
use Rattle.blocks.specs.Headers.{announced_in}
use Rattle.blocks.proofs.announced.Given as goal

abbrev pub invariant-loop-block : goal.invariant-loop-block
invariant-loop-block l = (l.block ≤ l.blocks) × ((l.sum ≡ announced_in l.file l.a.0 l.block) × (l.sum ≤ 255 * l.block))

abbrev pub decreases-loop-block : goal.decreases-loop-block
decreases-loop-block l = l.blocks - l.block
