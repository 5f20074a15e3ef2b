-- Two readings compared packet by packet.
-- Assumes nothing.
use Rattle.std.specs.Prelude.{ℕ, ◌<◌, ◌≡◌}
use Rattle.sp.specs.Readings.{Reading, total, packet_at, file_count_at}

-- packet k of the one reading is there in the other, under the same number, with the same bytes and the same count
pub record SameAt (one other : Reading) (k : ℕ) : Type 0 where
  pub there : k < total other
  pub bytes : packet_at one k ≡ packet_at other k
  pub count : file_count_at one k ≡ file_count_at other k
