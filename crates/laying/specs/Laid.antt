-- A file laid out from frames: a header of 1,536 bytes, then blocks, over whose payloads the frames' bytes run on. A frame is counted in the
-- block that its first byte falls in, and the last block is padded. Reading knows none of this: what is laid is read by the definitions
-- of blocks. Assumes nothing.
use Rattle.std.specs.Prelude.{ℕ, ◌+◌, ◌*◌, ◌-◌, ◌/◌, ◌%◌, List, Bool, cond, get_or, ltb, eqb}
use Rattle.tables.specs.Table.{table}
use Rattle.tables.specs.Counting.{how_many}

-- frames as they lie in the payload stream: how many, where each begins, which are swapped, the stream's bytes, where the last one ends; and
-- the type that every block has
pub record Laid : Type 0 where
  pub kind : ℕ
  pub many : ℕ
  pub at : ℕ → ℕ
  pub swap : ℕ → Bool
  pub stream : ℕ → ℕ
  pub end : ℕ

-- how many blocks they take, the last one perhaps not full; and how long the file is
abbrev pub blocks_for : Laid → ℕ
blocks_for l = (l.end + 505) / 506

abbrev pub size_for : Laid → ℕ
size_for l = 1536 + 512 * blocks_for l

-- the block that frame k begins in
abbrev pub block_of : Laid → ℕ → ℕ
block_of l k = l.at k / 506

-- how many frames begin in block b, and how many begin before it, which is the number of the first that begins in it
unfoldable pub count_in : Laid → ℕ → ℕ
count_in l b = how_many l.many (λ k. eqb (block_of l k) b)

unfoldable pub first_in : Laid → ℕ → ℕ
first_in l b = how_many l.many (λ k. ltb (block_of l k) b)

-- byte 0 is 8F if that frame is swapped, else 0F
abbrev pub flag_byte : Bool → ℕ
flag_byte swap = cond swap 0x8F 0x0F

-- byte 1 is 3 and half the frame's place in the payload
abbrev pub place_byte : ℕ → ℕ
place_byte q = 3 + q % 506 / 2

-- the six bytes of the header of block b: those two, or 0F and 0 where no frame begins, the count, FF, the type, FF
unfoldable pub head_byte : Laid → ℕ → ℕ → ℕ
head_byte l b i =
    cond (eqb i 0) (cond (ltb 0 (count_in l b)) (flag_byte (l.swap (first_in l b))) 0x0F)
    (cond (eqb i 1) (cond (ltb 0 (count_in l b)) (place_byte (l.at (first_in l b))) 0)
    (cond (eqb i 2) (count_in l b)
    (cond (eqb i 4) l.kind 0xFF)))

-- byte i of block b
unfoldable pub block_byte : Laid → ℕ → ℕ → ℕ
block_byte l b i = cond (ltb i 6) (head_byte l b i) (l.stream (506 * b + (i - 6)))

-- byte i of the file, and the file
unfoldable pub file_byte : List ℕ → Laid → ℕ → ℕ
file_byte header l i = cond (ltb i 1536) (get_or header i 0) (block_byte l ((i - 1536) / 512) ((i - 1536) % 512))

unfoldable pub laid_file : List ℕ → Laid → List ℕ
laid_file header l = table (size_for l) (file_byte header l)
