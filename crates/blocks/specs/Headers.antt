-- A block's header: byte 0 bit 7 is the swap flag, byte 1 gives the first frame's place, byte 2 is the count of announced frames,
-- byte 4 is the type. And the sum of the counts. Assumes nothing.
use Rattle.std.specs.Prelude.{ℕ, zero, suc, ◌+◌, ◌≤◌, List, Bool, get_or, leb}
use Rattle.blocks.specs.Places.{block_at}

-- a file is a list of bytes: so the language has it of every lent one
abbrev pub Bytes : List ℕ → Type 0
Bytes f = (i : ℕ) → get_or f i 0 ≤ 255

-- byte i of the header of block b
abbrev pub header_byte : List ℕ → ℕ → ℕ → ℕ → ℕ
header_byte f a b i = get_or f (block_at a b + i) 0

-- bit 7 of a byte
unfoldable pub flag_of : ℕ → Bool
flag_of x = leb 128 x

-- the fields of block b
abbrev pub swap_of : List ℕ → ℕ → ℕ → Bool
swap_of f a b = flag_of (header_byte f a b 0)

abbrev pub first_of : List ℕ → ℕ → ℕ → ℕ
first_of f a b = header_byte f a b 1

abbrev pub count_of : List ℕ → ℕ → ℕ → ℕ
count_of f a b = header_byte f a b 2

abbrev pub type_of : List ℕ → ℕ → ℕ → ℕ
type_of f a b = header_byte f a b 4

-- how many frames the first n blocks announce
unfoldable pub announced_in : List ℕ → ℕ → ℕ → ℕ
announced_in f a zero = 0
announced_in f a (suc b) = announced_in f a b + count_of f a b
