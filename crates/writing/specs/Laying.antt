-- n SP packets laid into the payload stream: packet 0 unswapped, parity alternating, read after read. Byte i of packet k is p k i.
-- Assumes nothing.
use Rattle.std.specs.Prelude.{ℕ, ◌+◌, ◌*◌, ◌-◌, ◌/◌, ◌%◌, List, false, cond, length, get_or, ltb}
use Rattle.packets.specs.Walk.{reach, parity}
use Rattle.laying.specs.Laid.{Laid}
use Rattle.writing.specs.Reads.{read_byte}

-- what packet k carries on: byte 1 of the packet that follows, or 0 if none does
abbrev pub carried_on : ℕ → (ℕ → ℕ → ℕ) → ℕ → ℕ
carried_on n p k = cond (ltb (k + 1) n) (p (k + 1) 1) 0

-- byte j of the read laid for packet k; past the last packet there are zeros
unfoldable pub laid_read : ℕ → (ℕ → ℕ → ℕ) → ℕ → ℕ → ℕ
laid_read n p k j = cond (ltb k n) (read_byte (parity false k) (carried_on n p k) (p k) j) 0

-- the byte at place q of the stream: of every 82 bytes an unswapped read has the first 42, a swapped one the rest
unfoldable pub laid_at : ℕ → (ℕ → ℕ → ℕ) → ℕ → ℕ
laid_at n p q =
    cond (ltb (q % 82) 42) (laid_read n p (2 * (q / 82)) (q % 82)) (laid_read n p (2 * (q / 82) + 1) (q % 82 - 42))

-- the first k of n packets laid out, in as many blocks as all of them take: what stands in the file once k are written
abbrev pub part_laid : ℕ → (ℕ → ℕ → ℕ) → ℕ → Laid
part_laid n p k =
    record { kind = 0; many = k; at = reach false; swap = parity false; stream = laid_at k p; end = reach false n }

-- all of them
abbrev pub sp_laid : ℕ → (ℕ → ℕ → ℕ) → Laid
sp_laid n p = part_laid n p n

-- packets that are joined: how many, and their bytes
abbrev pub many_in : List ℕ → ℕ
many_in packets = length packets / 42

abbrev pub byte_in : List ℕ → ℕ → ℕ → ℕ
byte_in packets k i = get_or packets (42 * k + i) 0

abbrev pub list_laid : List ℕ → Laid
list_laid packets = sp_laid (many_in packets) (byte_in packets)
