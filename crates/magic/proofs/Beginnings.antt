-- The six magics that there are.
-- Assumes nothing.
use Prim.Native.Nat.{ℕ}
use mathlib.Core.Path.{◌≡◌}
use mathlib.Core.List.{List}
use native.Mathlib.Omega.{arith}
use borrow.Author.Tests.{le-ltb}
use lib.ListN.{length}
use Rattle.magic.specs.declared.Magic.TheVariants.{Dss, Ds2, Grundig}
use Rattle.magic.specs.Magics.{spells, dss_by, ds2_by, magic_of}
use Rattle.magic.specs.Beginnings.{dss_file, ds2_file}

module _ (first : ℕ) (rest : List ℕ) where
  by_dss : magic_of (dss_file first rest) ≡ dss_by first
  unfolding magic_of spells
  by_dss = simp (le-ltb (length (dss_file first rest)) 4 (omega arith))

  by_ds2 : magic_of (ds2_file first rest) ≡ ds2_by first
  unfolding magic_of spells
  by_ds2 = simp (le-ltb (length (ds2_file first rest)) 4 (omega arith))

-- 2 or 3 and `dss` is DSS, 6 and `dss` is Grundig's, 1, 3 or 7 and `ds2` is DS2, whatever follows.
module _ (rest : List ℕ) where
  pub dss_magics : (magic_of (dss_file 2 rest) ≡ Dss) × (magic_of (dss_file 3 rest) ≡ Dss) × (magic_of (dss_file 6 rest) ≡ Grundig)
  unfolding dss_by
  dss_magics = (by_dss 2 rest, by_dss 3 rest, by_dss 6 rest)

  pub ds2_magics : (magic_of (ds2_file 1 rest) ≡ Ds2) × (magic_of (ds2_file 3 rest) ≡ Ds2) × (magic_of (ds2_file 7 rest) ≡ Ds2)
  unfolding ds2_by
  ds2_magics = (by_ds2 1 rest, by_ds2 3 rest, by_ds2 7 rest)
