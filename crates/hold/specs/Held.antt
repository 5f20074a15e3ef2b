-- What is held between blocks: 12,288 bytes of the payload stream from a base on, and the headers of the blocks that wait.
-- Assumes nothing.
use Rattle.std.specs.Prelude.{ℕ, ◌+◌, ◌*◌, ◌/◌, ◌%◌, List, Bool, false, cond, leb, ltb, eqb}
use Rattle.tables.specs.Table.{table}
use Rattle.tables.specs.Leading.{leading}
use Rattle.blocks.specs.Places.{stream_at}
use Rattle.blocks.specs.Headers.{swap_of, header_byte}
use Rattle.packets.specs.Walk.{reach}
use Rattle.hold.specs.Ready.{front, ready}

-- the bytes of a stream from a base on
unfoldable pub held_from : (ℕ → ℕ) → ℕ → List ℕ
held_from s base = table 12288 (λ i. s (base + i))

-- where the hold begins after n blocks: DS2, at the next read; DSS, with the payload of the first block that waits
unfoldable pub base_at : Bool → List ℕ → ℕ → ℕ → ℕ
base_at dss f a n = cond dss (506 * front f a n) (reach (swap_of f a 0) (ready false f a n))

-- the bytes held after b blocks
abbrev pub hold_at : Bool → List ℕ → ℕ → ℕ → List ℕ
hold_at dss f a b = held_from (stream_at f a b) (base_at dss f a b)

-- block b can be added to what is held before it
abbrev pub block_fits : Bool → List ℕ → ℕ → ℕ → Bool
block_fits dss f a b = leb (506 * (b + 1)) (base_at dss f a b + 12288)

-- how many of n blocks can be added one after another, and whether all can
unfoldable pub fitting : Bool → List ℕ → ℕ → ℕ → ℕ
fitting dss f a n = leading (block_fits dss f a) n

abbrev pub fits : Bool → List ℕ → ℕ → ℕ → Bool
fits dss f a n = eqb (fitting dss f a n) n

-- bytes 0 to 2 of the headers of blocks j to n - 1, three for each block, and zeros after them: 22 blocks at most
unfoldable pub headers_from : List ℕ → ℕ → ℕ → ℕ → List ℕ
headers_from f a n j = table 66 (λ i. cond (ltb (j + i / 3) n) (header_byte f a (j + i / 3) (i % 3)) 0)

-- DSS: those of the blocks that wait. No DS2 block waits
unfoldable pub waiting_at : Bool → List ℕ → ℕ → ℕ → List ℕ
waiting_at dss f a n = headers_from f a n (cond dss (front f a n) n)

-- byte 0 of the first block, and 0 before there is one: its bit 7 is DS2's first parity
abbrev pub first_byte : List ℕ → ℕ → ℕ → ℕ
first_byte f a n = cond (eqb n 0) 0 (header_byte f a 0 0)
