-- What only contracts of inner functions speak of: how a packet is gathered, from bytes that lie together or across the seam between two
-- blocks, the packets of a run joined, and its reads up to the last unswapped one. Assumes nothing.
use Rattle.std.specs.Prelude.{ℕ, ◌+◌, ◌-◌, ◌<◌, ◌/◌, ◌%◌, ◌≡◌, List, Bool, true, cond, length, get_or, eqb}
use Rattle.packets.specs.Packet.{packet_byte}
use Rattle.packets.specs.Walk.{Walk, steps, byte_of, parity}

-- a list as a function of its places
abbrev pub bytes_of : List ℕ → ℕ → ℕ
bytes_of l q = get_or l q 0

-- v has the carried byte at its place 1, the 40 bytes c from place 3 on, and 0 at place 44
pub record Shifted (carry : ℕ) (c : ℕ → ℕ) (v : List ℕ) : Type 0 where
  pub long : length v ≡ 52
  pub carried : get_or v 1 0 ≡ carry
  pub at : (k : ℕ) → k < 40 → get_or v (3 + k) 0 ≡ c k
  pub zero : get_or v 44 0 ≡ 0

-- x has what stands in v, 4 on at even places and as it stands at odd ones
pub record Blends (v x : List ℕ) : Type 0 where
  pub long : length x ≡ 48
  pub at : (k : ℕ) → k < 48 → get_or x k 0 ≡ cond (eqb (k % 2) 0) (get_or v (k + 4) 0) (get_or v k 0)

-- x begins with a swapped packet
pub record Blended (carry : ℕ) (c : ℕ → ℕ) (x : List ℕ) : Type 0 where
  pub long : length x ≡ 48
  pub packet : (k : ℕ) → k < 42 → get_or x k 0 ≡ packet_byte true carry c k

-- w is the 42 bytes of s from q on
pub record Window (s : ℕ → ℕ) (q : ℕ) (w : List ℕ) : Type 0 where
  pub long : length w ≡ 42
  pub at : (k : ℕ) → k < 42 → get_or w k 0 ≡ s (q + k)

-- byte j of the packets from w on, joined
unfoldable pub joined_at : (ℕ → ℕ) → Walk → ℕ → ℕ
joined_at s w j = byte_of s (steps s w (j / 42)) (j % 42)

-- how many of k reads there are up to the last unswapped one: all, if the next is swapped, and else all but the last
abbrev pub upto_unswapped : Bool → ℕ → ℕ
upto_unswapped swap k = cond (parity swap k) k (k - 1)
