-- How far packets go: never far, and how many reads end at or before a place.
-- Assumes nothing.
use Prim.Native.Nat.{ℕ, ◌+◌, ◌*◌, ◌/◌, ◌%◌, ◌≤◌, ◌<◌}
use mathlib.Core.Bool.{Bool, true, false}
use native.Mathlib.Omega.{arith}
use Rattle.packets.specs.Packet.{read_size}
use Rattle.packets.specs.Walk.{reach}

pub reach_most : (swap : Bool) (k : ℕ) → reach swap k ≤ 42 * k
reach_most true k = omega arith
reach_most false k = omega arith

-- what is left of the bytes after pairs of reads is less than one read more, or is one read more
pub reads_even : (swap : Bool) (m : ℕ) → m % 82 < read_size swap
    → (reach swap (2 * (m / 82)) ≤ m) × (m < reach swap (2 * (m / 82) + 1)) × (2 * (m / 82) ≤ m)
reads_even true m h = (omega arith, omega arith, omega arith)
reads_even false m h = (omega arith, omega arith, omega arith)

pub reads_odd : (swap : Bool) (m : ℕ) → read_size swap ≤ m % 82
    → (reach swap (2 * (m / 82) + 1) ≤ m) × (m < reach swap (2 * (m / 82) + 1 + 1)) × (2 * (m / 82) + 1 ≤ m)
reads_odd true m h = (omega arith, omega arith, omega arith)
reads_odd false m h = (omega arith, omega arith, omega arith)
