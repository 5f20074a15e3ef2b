-- Counting from the front, as far as a test holds.
-- Assumes nothing.
use Rattle.std.specs.Prelude.{ℕ, zero, suc, Bool, cond}

-- how many of 0, 1, .., n - 1 are such, up to the first that is not
unfoldable pub leading : (ℕ → Bool) → ℕ → ℕ
leading such zero = 0
leading such (suc n) = cond (such 0) (suc (leading (λ k. such (suc k)) n)) 0
