-- How a file begins: a first byte, then `dss` or `ds2`, and whatever follows. No definition and no call knows of these; theorems do.
-- Assumes nothing.
use Rattle.std.specs.Prelude.{ℕ, List, ◌∷◌}

-- `dss` is 100, 115, 115
abbrev pub dss_file : ℕ → List ℕ → List ℕ
dss_file first rest = first ∷ 100 ∷ 115 ∷ 115 ∷ rest

-- `ds2` is 100, 115, 50
abbrev pub ds2_file : ℕ → List ℕ → List ℕ
ds2_file first rest = first ∷ 100 ∷ 115 ∷ 50 ∷ rest
