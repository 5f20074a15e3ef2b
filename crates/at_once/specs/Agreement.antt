-- A packet at once in the words of the whole reading, which its own definition does without: what the call says, and when a packet is the
-- whole reading's. Assumes nothing.
use Rattle.std.specs.Prelude.{ℕ, ◌<◌, ◌≡◌, leb, ltb}
use Rattle.refusals.specs.Said.{Said, answers, demand, onward}
use Rattle.sp.specs.Readings.{Reading, total, packet_at, file_count_at}

-- what is said of packet k, with room for so many packets: what the whole reading is refused by, 18 with its total, 8 with 1, or one packet
abbrev pub said_at : Said Reading → ℕ → ℕ → Said ℕ
said_at whole k room =
    onward whole (λ r. demand (ltb k (total r)) 18 (total r) (demand (leb 1 room) 8 1 (answers 1)))

-- `one` has one packet, and that is packet k of r: with the same bytes and the same file-byte count
pub record OnePacket (one r : Reading) (k : ℕ) : Type 0 where
  pub alone : total one ≡ 1
  pub there : k < total r
  pub bytes : packet_at one 0 ≡ packet_at r k
  pub count : file_count_at one 0 ≡ file_count_at r k
