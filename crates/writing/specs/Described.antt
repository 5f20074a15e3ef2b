-- A written file as the rules describe it, block by block, in the words of reading: in which block a packet is counted, what the block's header
-- says of its first, and what lies behind the last. It does not speak of how the file is laid out. Assumes nothing.
use Rattle.std.specs.Prelude.{ℕ, ◌+◌, ◌*◌, ◌≤◌, ◌<◌, ◌≡◌, List, cond, false, length}
use Rattle.blocks.specs.Places.{whole_blocks, stream_at}
use Rattle.blocks.specs.Headers.{header_byte, first_of, count_of, announced_in}
use Rattle.packets.specs.Walk.{reach}
use Rattle.sp.specs.Readings.{Reading, total, walk_at}

-- how many blocks the file has
abbrev pub blocks_of : List ℕ → ℕ
blocks_of file = whole_blocks (length file) 1536

-- packet k's first byte falls in block b
abbrev pub BeginsIn : Reading → ℕ → ℕ → Type 0
BeginsIn reading b k = (506 * b ≤ (walk_at reading k).place) × ((walk_at reading k).place < 506 * (b + 1))

pub record Described (file : List ℕ) (reading : Reading) : Type 0 where
  -- the counts of the blocks before b add up to the number of the first packet that begins in b or later, so that b counts those that begin in it
  pub counted : (b k : ℕ) → b < blocks_of file → k < total reading → BeginsIn reading b k
      → (announced_in file 1536 b ≤ k) × (k < announced_in file 1536 (b + 1))
  pub only_counted : (b k : ℕ) → b < blocks_of file → announced_in file 1536 b ≤ k → k < announced_in file 1536 (b + 1) → BeginsIn reading b k
  -- byte 0 tells by which parity the first of them is read, byte 1 where
  pub first_flag : (b : ℕ) → b < blocks_of file → 0 < count_of file 1536 b
      → header_byte file 1536 b 0 ≡ cond (walk_at reading (announced_in file 1536 b)).swap 0x8F 0x0F
  pub first_place : (b : ℕ) → b < blocks_of file → 0 < count_of file 1536 b
      → 506 * b + 2 * first_of file 1536 b ≡ (walk_at reading (announced_in file 1536 b)).place + 6
  -- where none begins
  pub silent : (b : ℕ) → b < blocks_of file → count_of file 1536 b ≡ 0 → (header_byte file 1536 b 0 ≡ 0x0F) × (header_byte file 1536 b 1 ≡ 0)
  -- bytes 3 to 5
  pub marks : (b : ℕ) → b < blocks_of file
      → (header_byte file 1536 b 3 ≡ 0xFF) × (header_byte file 1536 b 4 ≡ 0) × (header_byte file 1536 b 5 ≡ 0xFF)
  -- no more blocks than the reads need, and zeros behind the last
  pub least : 506 * blocks_of file < reach false (total reading) + 506
  pub enough : reach false (total reading) ≤ 506 * blocks_of file
  pub padded : (q : ℕ) → reach false (total reading) ≤ q → stream_at file 1536 (blocks_of file) q ≡ 0
  -- an unswapped last packet carries 0
  pub last_carries : (k : ℕ) → k + 1 ≡ total reading → (walk_at reading k).swap ≡ false
      → stream_at file 1536 (blocks_of file) ((walk_at reading k).place + 40) ≡ 0
