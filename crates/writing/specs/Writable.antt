-- What may be written and what may not, in the words of reading: a header that makes a file be taken for DS2 with its audio at 1,536, packets
-- that have all their bytes and 0 at byte 40, a file within the limit, and room for it. It cites nothing of how a file is laid out or of how
-- a call decides. Assumes nothing.
use Rattle.std.specs.Prelude.{ℕ, ◌+◌, ◌*◌, ◌/◌, ◌≤◌, ◌<◌, ◌≡◌, List, false, length, get_or}
use Rattle.blocks.specs.Places.{limit}
use Rattle.packets.specs.Walk.{reach}
use Rattle.laying.specs.Header.{Header}

-- packet k of a list is sound: it has all its 42 bytes, and byte 40 is 0
abbrev pub Sound : List ℕ → ℕ → Type 0
Sound packets k = (42 * (k + 1) ≤ length packets) × (get_or packets (42 * k + 40) 0 ≡ 0)

-- every packet of which there is something is sound
abbrev pub AllSound : List ℕ → Type 0
AllSound packets = (k : ℕ) → 42 * k < length packets → Sound packets k

-- packet k is the first that is not: there is something of it, and all before it are sound
pub record FirstUnsound (packets : List ℕ) (k : ℕ) : Type 0 where
  pub before : (j : ℕ) → j < k → Sound packets j
  pub there : 42 * k < length packets
  pub unsound : Sound packets k → ⊥

-- how many bytes the file has: the header, and as many blocks as the packets' reads need
abbrev pub file_size : List ℕ → ℕ
file_size packets = 1536 + 512 * ((reach false (length packets / 42) + 505) / 506)

-- what may be written
pub record Writable (header packets : List ℕ) (room : ℕ) : Type 0 where
  pub supplied : Header header
  pub all_sound : AllSound packets
  pub small : file_size packets ≤ limit
  pub fits : file_size packets ≤ room

-- what may not, by the refusal's number and the number beside it: of several causes the first
pub data Unwritable (header packets : List ℕ) (room : ℕ) : ℕ → ℕ → Type 0 where
  no_header : (Header header → ⊥) → Unwritable header packets room 15 0
  bad_packet : {k : ℕ} → Header header → FirstUnsound packets k → Unwritable header packets room 16 k
  too_long : Header header → AllSound packets → limit < file_size packets → Unwritable header packets room 17 limit
  no_room : Header header → AllSound packets → file_size packets ≤ limit → room < file_size packets → Unwritable header packets room 8 (file_size packets)
