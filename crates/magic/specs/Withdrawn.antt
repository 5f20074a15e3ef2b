-- What is withdrawn: a file with the four bytes of the encrypted recorders. No definition and no call knows of it; theorems do.
-- Assumes nothing.
use Rattle.std.specs.Prelude.{ℕ, List, ◌∷◌}

-- 3, then `enc`, 101, 110, 99, and whatever follows
abbrev pub encrypted : List ℕ → List ℕ
encrypted rest = 3 ∷ 101 ∷ 110 ∷ 99 ∷ rest
