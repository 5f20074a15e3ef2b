-- Blocks and places: after the audio start a come blocks of 512 bytes, 6 of header and 506 of payload. A place in the file and a
-- place in the payload stream are counted apart, and `file_of` is the one way from the second to the first. Assumes nothing.
use Rattle.std.specs.Prelude.{ℕ, ◌+◌, ◌*◌, ◌-◌, ◌/◌, ◌%◌, ◌≤◌, List, cond, get_or, length, take, drop, ltb}

-- the most bytes that a file, or all pieces of one, may have
abbrev pub limit : ℕ
limit = 268435456

-- how many whole blocks a file of so many bytes has after a
abbrev pub whole_blocks : ℕ → ℕ → ℕ
whole_blocks long a = (long - a) / 512

-- n whole blocks from a on lie in the file f
abbrev pub Whole : List ℕ → ℕ → ℕ → Type 0
Whole f a n = a + 512 * n ≤ length f

-- where block b begins in the file
abbrev pub block_at : ℕ → ℕ → ℕ
block_at a b = a + 512 * b

-- the file place of the stream's place q
abbrev pub file_of : ℕ → ℕ → ℕ
file_of a q = a + 512 * (q / 506) + 6 + q % 506

-- the byte at place q of the payload stream of n whole blocks from a on, and 0 past its end
unfoldable pub stream_at : List ℕ → ℕ → ℕ → ℕ → ℕ
stream_at f a n q = cond (ltb q (506 * n)) (get_or f (file_of a q) 0) 0

-- the payload of block b: those 506 bytes of the file
abbrev pub payload_of : List ℕ → ℕ → ℕ → List ℕ
payload_of f a b = take 506 (drop (block_at a b + 6) f)
