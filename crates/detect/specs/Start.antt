-- The audio start of a DS2 file: 0x600, but for a first byte 7, where the file is scanned.
-- Assumes nothing.
use Rattle.std.specs.Prelude.{ℕ, zero, suc, ◌+◌, ◌-◌, ◌/◌, min, List, cond, get_or, length, drop, leb, ltb, eqb}
use Rattle.detect.specs.Header.{good_header}

-- how many good headers stand in a row from p on, a block apart, at most k
unfoldable pub in_row : List ℕ → ℕ → ℕ → ℕ
in_row f p zero = 0
in_row f p (suc k) = cond (good_header (drop p f)) (1 + in_row f (p + 512) k) 0

-- a candidate's score
abbrev pub score : List ℕ → ℕ → ℕ
score f p = in_row f p 16

-- the scan of k candidates from p on, `best` with its score being the best so far: it stops at a score of four, and otherwise
-- a candidate that is better than the best takes its place
unfoldable pub scan : List ℕ → ℕ → ℕ → ℕ → ℕ → ℕ
scan f zero p best most = best
scan f (suc k) p best most =
    cond (leb 4 (score f p)) p
    (cond (ltb most (score f p)) (scan f k (p + 512) p (score f p)) (scan f k (p + 512) best most))

-- the candidates are 512, 1024, .. up to the smaller of 0x10000 and the length less 6; with none good the start is 0x1000
unfoldable pub scanned : List ℕ → ℕ
scanned f = scan f (min 0x10000 (length f - 6) / 512) 512 0x1000 0

-- by the first byte; an empty file has none
unfoldable pub audio_start : List ℕ → ℕ
audio_start f = cond (eqb (get_or f 0 0) 7) (scanned f) 0x600
