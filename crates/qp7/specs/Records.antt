-- A QP7 record: how long it is by its second byte, when it cannot be read, and how many bytes are absent then.
-- Assumes nothing.
use Rattle.std.specs.Prelude.{ℕ, ◌+◌, ◌-◌, cond, leb}
use Rattle.blocks.specs.Headers.{flag_of}
use Rattle.refusals.specs.Numbers.{lacking}
use Rattle.refusals.specs.Said.{Said, answers, demand_by}

-- 56 bytes if bit 7 of the second byte is 1, else 12
unfoldable pub record_size : ℕ → ℕ
record_size second = cond (flag_of second) 56 12

-- of n bytes from q on, so many are past the end of a stream of `long` bytes
abbrev pub absent_of : ℕ → ℕ → ℕ → ℕ
absent_of long q n = n - (long - q)

-- the size of the record at q in such a stream: refusal 4 if fewer than 2 bytes are left there, 5 if it runs past the end. Each has the place,
-- the record's size, which by 4 cannot be told and is 0, and how many bytes are absent: by 4 of the first 2, by 5 of the record's
unfoldable pub record_at : (ℕ → ℕ) → ℕ → ℕ → Said ℕ
record_at s long q =
    demand_by (leb (q + 2) long) (lacking 4 q 0 (absent_of long q 2))
    (demand_by (leb (q + record_size (s (q + 1))) long) (lacking 5 q (record_size (s (q + 1))) (absent_of long q (record_size (s (q + 1)))))
    (answers (record_size (s (q + 1)))))
