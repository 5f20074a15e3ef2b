-- An SP packet: 42 bytes from one read of the payload stream, whose bytes c are a function of their number in the read.
-- Assumes nothing.
use Rattle.std.specs.Prelude.{ℕ, ◌+◌, ◌-◌, ◌%◌, min, ◌≡◌, Bool, cond, eqb}
use Rattle.tables.specs.Table.{table}
use Rattle.packets.specs.declared.Packet.{Packet}

-- an unswapped read takes 42 bytes, a swapped one 40
abbrev pub read_size : Bool → ℕ
read_size swap = cond swap 40 42

-- byte i of a swapped packet: c[i + 1] at even i, the carried byte at 1, and c[i - 3] at odd i from 3 on
abbrev pub swapped_byte : ℕ → (ℕ → ℕ) → ℕ → ℕ
swapped_byte carry c i = cond (eqb i 1) carry (cond (eqb (i % 2) 0) (c (i + 1)) (c (i - 3)))

-- byte i of a packet; byte 40 is 0
unfoldable pub packet_byte : Bool → ℕ → (ℕ → ℕ) → ℕ → ℕ
packet_byte swap carry c i = cond (eqb i 40) 0 (cond swap (swapped_byte carry c i) (c i))

-- what is carried after the read: an unswapped read's byte 40
unfoldable pub carry_after : Bool → ℕ → (ℕ → ℕ) → ℕ
carry_after swap carry c = cond swap carry (c 40)

-- the bytes of a stream from place q on
abbrev pub from : (ℕ → ℕ) → ℕ → ℕ → ℕ
from s q j = s (q + j)

-- how many bytes of a read at q came from a stream of n bytes
unfoldable pub file_count : ℕ → Bool → ℕ → ℕ
file_count n swap q = min (read_size swap) (n - q)

-- that count is full when it is the read size
unfoldable pub is_full : ℕ → Bool → ℕ → Bool
is_full n swap q = eqb (file_count n swap q) (read_size swap)

-- p is what a read at q of the stream s of n bytes gives
pub record IsPacket (s : ℕ → ℕ) (n : ℕ) (swap : Bool) (carry q : ℕ) (p : Packet) : Type 0 where
  pub bytes_are : p.bytes ≡ table 42 (packet_byte swap carry (from s q))
  pub count_is : p.count ≡ file_count n swap q
  pub carry_is : p.carry ≡ carry_after swap carry (from s q)
  pub next_is : p.next.0 ≡ q + read_size swap
