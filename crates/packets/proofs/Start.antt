-- How far on in its block a DSS start can lie.
-- Assumes nothing.
use Prim.Native.Nat.{ℕ, ◌+◌, ◌*◌, ◌≤◌}
use mathlib.Core.Bool.{Bool}
use native.Mathlib.Omega.{arith}
use Rattle.packets.specs.Start.{dss_start}

pub start_most : (block first : ℕ) (swap : Bool) → dss_start block first swap ≤ 506 * block + 506
unfolding dss_start
start_most block first swap = omega arith
