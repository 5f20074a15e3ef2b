-- The magic: a file's first four bytes. One definition, which detection and every whole call go by.
-- Assumes nothing.
use Rattle.std.specs.Prelude.{ℕ, List, Bool, cond, ◌&&◌, ◌||◌, get_or, length, ltb, eqb}
use Rattle.magic.specs.declared.Magic.{Magic}
use Rattle.magic.specs.declared.Magic.TheVariants.{Dss, Ds2, Grundig, Other}

-- bytes 1 to 3 of the file
unfoldable pub spells : List ℕ → ℕ → ℕ → ℕ → Bool
spells f x y z = eqb (get_or f 1 0) x && eqb (get_or f 2 0) y && eqb (get_or f 3 0) z

-- they are `dss`: 100, 115, 115
unfoldable pub names_dss : List ℕ → Bool
names_dss f = spells f 100 115 115

-- 2 or 3 and `dss` is DSS, 6 and `dss` is Grundig's
unfoldable pub dss_by : ℕ → Magic
dss_by first = cond (eqb first 2 || eqb first 3) Dss (cond (eqb first 6) Grundig Other)

-- 1, 3 or 7 and `ds2` is DS2
unfoldable pub ds2_by : ℕ → Magic
ds2_by first = cond (eqb first 1 || eqb first 3 || eqb first 7) Ds2 Other

-- what the first four bytes say; under 4 bytes say nothing. `dss` is 100, 115, 115, and `ds2` is 100, 115, 50
unfoldable pub magic_of : List ℕ → Magic
magic_of f =
    cond (ltb (length f) 4) Other
    (cond (spells f 100 115 115) (dss_by (get_or f 0 0))
    (cond (spells f 100 115 50) (ds2_by (get_or f 0 0))
    Other))
