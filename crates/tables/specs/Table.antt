-- A list written from a function of its places; the sum of a list, and of a number for each thing in one; and what holds of each.
-- Assumes nothing.
use Rattle.std.specs.Prelude.{ℕ, zero, suc, ◌+◌, List, [], ◌∷◌}

-- f 0, f 1, .., f (n - 1)
unfoldable pub table : ℕ → (ℕ → ℕ) → List ℕ
table zero f = []
table (suc n) f = f zero ∷ table n (λ k. f (suc k))

-- all elements added up
unfoldable pub sum : List ℕ → ℕ
sum [] = 0
sum (x ∷ rest) = x + sum rest

-- a number of each thing in a list, added up
unfoldable pub sum_of : {A : Type 0} → (A → ℕ) → List A → ℕ
sum_of number [] = 0
sum_of number (x ∷ rest) = number x + sum_of number rest

-- each thing in a list is such
unfoldable pub Each : {A : Type 0} → (A → Type 0) → List A → Type 0
Each Such [] = Unit
Each Such (x ∷ rest) = Such x × Each Such rest
