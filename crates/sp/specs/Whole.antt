-- When a packet of a reading is whole: all the bytes of its read came from the file, and if it is swapped, the byte that is carried to it too.
-- It is said of readings that begin with nothing carried. Assumes nothing.
use Rattle.std.specs.Prelude.{ℕ, zero, suc, ◌+◌, ◌≤◌, ◌<◌, ◌≡◌, Bool, true, false, not, cond, ◌&&◌, ◌||◌, ltb}
use Rattle.packets.specs.Packet.{is_full}
use Rattle.sp.specs.Readings.{Reading, walk_at}

-- what is carried before packet k came from the file: byte 40 of the last unswapped read before it lies in the stream. Before any unswapped
-- read nothing did
unfoldable pub sourced_at : Reading → ℕ → Bool
sourced_at reading zero = false
sourced_at reading (suc k) =
    cond (walk_at reading k).swap (sourced_at reading k) (ltb ((walk_at reading k).place + 40) reading.long)

-- packet k is whole: its count is full, and it is unswapped, or what is carried to it came from the file. Otherwise it is short
unfoldable pub whole_at : Reading → ℕ → Bool
whole_at reading k =
    is_full reading.long (walk_at reading k).swap (walk_at reading k).place && (not (walk_at reading k).swap || sourced_at reading k)

-- packet j's read is the last unswapped one before packet k, and its byte 40, which is what it carries on, lies in the stream
pub record CarriedFrom (reading : Reading) (j k : ℕ) : Type 0 where
  pub before : j < k
  pub unswapped : (walk_at reading j).swap ≡ false
  pub last : (i : ℕ) → j < i → i < k → (walk_at reading i).swap ≡ true
  pub from_file : (walk_at reading j).place + 40 < reading.long

-- packet k and all before it are swapped: up to it there was no unswapped read
abbrev pub SwappedUpto : Reading → ℕ → Type 0
SwappedUpto reading k = (j : ℕ) → j ≤ k → (walk_at reading j).swap ≡ true
