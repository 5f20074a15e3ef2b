-- What only contracts of inner functions speak of: a swapped read gathered, one packet more in a file of so many, and what is asked
-- before a file is laid out.
-- Assumes nothing.
use Rattle.std.specs.Prelude.{ℕ, ◌+◌, ◌*◌, ◌<◌, ◌≤◌, ◌≡◌, List, length, get_or}
use Rattle.laying.specs.Laid.{size_for}
use Rattle.laying.specs.Inner.{Holds}
use Rattle.writing.specs.Reads.{swapped_read}
use Rattle.writing.specs.Laying.{part_laid, sp_laid, byte_in}

-- v has the packet's 42 bytes from place 1 on
pub record OneOn (x : ℕ → ℕ) (v : List ℕ) : Type 0 where
  pub long : length v ≡ 52
  pub at : (i : ℕ) → i < 42 → get_or v (1 + i) 0 ≡ x i

-- r begins with the packet's swapped read
pub record SwappedRead (x : ℕ → ℕ) (r : List ℕ) : Type 0 where
  pub long : length r ≡ 48
  pub read : (j : ℕ) → j < 40 → get_or r j 0 ≡ swapped_read x j

-- packet k, of the bytes x, is put and counted: whatever file of n packets e holds the first k of, e' holds one more of
pub record PutsPacket (e : List ℕ) (k : ℕ) (x : ℕ → ℕ) (e' : List ℕ) : Type 0 where
  pub long : length e' ≡ length e
  pub one_more : (d header : List ℕ) (n : ℕ) (p : ℕ → ℕ → ℕ) → k < n → ((i : ℕ) → i < 42 → p k i ≡ x i)
      → Holds d header (part_laid n p k) e → Holds d header (part_laid n p (k + 1)) e'

-- what is asked before a file is laid out: a header of its size, so many packets and no more, few enough for the limit, and room for it
pub record Ready (header packets : List ℕ) (many : ℕ) (out : List ℕ) : Type 0 where
  pub supplied : length header ≡ 1536
  pub all : length packets ≡ 42 * many
  pub few : many ≤ 6470444
  pub room : size_for (sp_laid many (byte_in packets)) ≤ length out
