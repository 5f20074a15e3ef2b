-- A walk over the payload stream, packet after packet: parity flips after each, and the carry goes on.
-- Assumes nothing.
use Rattle.std.specs.Prelude.{ℕ, zero, suc, ◌+◌, ◌*◌, ◌-◌, ◌%◌, ◌≤◌, Bool, not, cond, eqb}
use Rattle.packets.specs.Packet.{read_size, packet_byte, carry_after, from, file_count}

-- where a walk stands: the next read's place, the carried byte, and whether that read is swapped
pub record Walk : Type 0 where
  pub place : ℕ
  pub carry : ℕ
  pub swap : Bool

-- after one packet more
abbrev pub step : (ℕ → ℕ) → Walk → Walk
step s w =
    record {
      place = w.place + read_size w.swap;
      carry = carry_after w.swap w.carry (from s w.place);
      swap = not w.swap;
    }

-- after k packets
unfoldable pub steps : (ℕ → ℕ) → Walk → ℕ → Walk
steps s w zero = w
steps s w (suc k) = step s (steps s w k)

-- byte i of the packet at which a walk stands, and its file-byte count
abbrev pub byte_of : (ℕ → ℕ) → Walk → ℕ → ℕ
byte_of s w i = packet_byte w.swap w.carry (from s w.place) i

abbrev pub count_at : ℕ → Walk → ℕ
count_at n w = file_count n w.swap w.place

-- that packet's read is complete in a stream of n bytes
abbrev pub Complete : ℕ → Walk → Type 0
Complete n w = w.place + read_size w.swap ≤ n

-- how far k packets go: a pair takes 82 bytes, whichever comes first
abbrev pub reach : Bool → ℕ → ℕ
reach swap k = cond swap (41 * k - k % 2) (41 * k + k % 2)

-- the parity after k packets
abbrev pub parity : Bool → ℕ → Bool
parity swap k = cond (eqb (k % 2) 0) swap (not swap)
