-- `packets::dss_start` meets its contract: by the clamp at 0.
-- Assumes nothing.
use Rattle.packets.specs.Start.{dss_start}
use native.Mathlib.Omega.{arith}
use Rattle.packets.specs.Start.{dss_start}
use Rattle.packets.proofs.dss_start.Goals as goal

pub returns-then-far-lt6 : goal.returns-then-far-lt6
unfolding dss_start
returns-then-far-lt6 c = omega arith

pub returns : goal.returns
unfolding dss_start
returns c = omega arith
