-- How many of the first n numbers are such.
-- Assumes nothing.
use Rattle.std.specs.Prelude.{ℕ, zero, suc, ◌+◌, Bool, cond}

-- how many of the first n are such
unfoldable pub how_many : ℕ → (ℕ → Bool) → ℕ
how_many zero such = 0
how_many (suc k) such = how_many k such + cond (such k) 1 0
