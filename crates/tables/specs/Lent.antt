-- What a call leaves in a lent buffer: some places have a function's values, and every other place is as it was.
-- Assumes nothing.
use Rattle.std.specs.Prelude.{ℕ, ◌+◌, ◌≤◌, ◌<◌, ◌≡◌, List, cond, length, get_or, ltb}
use Rattle.tables.specs.Table.{table}

-- e is d but for n places from a on, which have f's values
pub record Leaves (d : List ℕ) (a n : ℕ) (f : ℕ → ℕ) (e : List ℕ) : Type 0 where
  pub long : length e ≡ length d
  pub new : (k : ℕ) → k < n → get_or e (a + k) 0 ≡ f k
  pub low : (k : ℕ) → k < a → get_or e k 0 ≡ get_or d k 0
  pub high : (k : ℕ) → a + n ≤ k → get_or e k 0 ≡ get_or d k 0

-- d with its first n elements replaced by f's values
unfoldable pub over : ℕ → (ℕ → ℕ) → List ℕ → List ℕ
over n f d = table (length d) (λ k. cond (ltb k n) (f k) (get_or d k 0))
