-- A block's frames start in its own payload.
-- Assumes nothing.
use Prim.Native.Nat.{ℕ, ◌+◌, ◌*◌, ◌≤◌, ◌<◌}
use native.Mathlib.Omega.{arith}
use Rattle.frames.specs.Start.{frames_start}

pub starts_inside : (block byte1 : ℕ) → byte1 ≤ 255 → frames_start block byte1 < 506 * (block + 1)
unfolding frames_start
starts_inside block byte1 small = omega arith
