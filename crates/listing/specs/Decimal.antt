-- A number as text: its decimal digits in ASCII, the most significant first, with no zeros in front.
-- Assumes nothing.
use Rattle.std.specs.Prelude.{ℕ, zero, suc, ◌+◌, ◌/◌, ◌%◌, List, [], ◌∷◌, ◌++◌, cond, ltb}

-- the digit d: `0` is 48
abbrev pub digit : ℕ → ℕ
digit d = 48 + d

-- one digit for a number below 10, and else the digits of a tenth of it and then the last; at most k
unfoldable pub decimal_in : ℕ → ℕ → List ℕ
decimal_in zero n = []
decimal_in (suc k) n = cond (ltb n 10) (digit n ∷ []) (decimal_in k (n / 10) ++ (digit (n % 10) ∷ []))

-- every number of 64 bits has at most 20
abbrev pub decimal : ℕ → List ℕ
decimal n = decimal_in 20 n
