-- The read that gives a packet: what the payload stream has for it. It is the inverse of `packet_byte`: a packet whose byte 40 is 0 is
-- what its read gives, and a read is what is laid for the packet that it gives. A packet x is a function of its bytes' numbers.
-- Assumes nothing.
use Rattle.std.specs.Prelude.{ℕ, ◌+◌, ◌-◌, ◌%◌, Bool, cond, eqb}

-- byte j of a swapped read: x[j + 3] at even j, x[j - 1] at odd j. Byte 1 of the packet is not in it: the read before has it
abbrev pub swapped_read : (ℕ → ℕ) → ℕ → ℕ
swapped_read x j = cond (eqb (j % 2) 0) (x (j + 3)) (x (j - 1))

-- byte j of an unswapped one, which has at byte 40 what it carries
abbrev pub plain_read : ℕ → (ℕ → ℕ) → ℕ → ℕ
plain_read carried x j = cond (eqb j 40) carried (x j)

-- byte j of either
unfoldable pub read_byte : Bool → ℕ → (ℕ → ℕ) → ℕ → ℕ
read_byte swap carried x j = cond swap (swapped_read x j) (plain_read carried x j)
