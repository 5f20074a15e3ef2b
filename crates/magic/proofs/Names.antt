-- What the magic says of bytes 1 to 3: DSS has `dss` there, and DS2 has not: it has `ds2`, behind one of its first bytes.
-- Assumes nothing.
use Prim.Native.Nat.{ℕ}
use mathlib.Core.Path.{◌≡◌, refl, ap}
use mathlib.Core.List.{List}
use mathlib.Core.Bool.{Bool, true, false, cond, ◌||◌}
use native.Mathlib.Omega.{arith}
use lib.ListN.{get_or, length}
use lib.Dec.{ltb, eqb}
use Rattle.tables.proofs.Cases.{by_test}
use Rattle.magic.specs.declared.Magic.{Magic}
use Rattle.magic.specs.declared.Magic.TheVariants.{Dss, Ds2, Grundig, Other}
use Rattle.magic.specs.Magics.{spells, names_dss, dss_by, ds2_by, magic_of}

-- a number for each, by which they are told apart
abbrev number : Magic → ℕ
number Dss = 0
number Ds2 = 1
number Grundig = 2
number Other = 3

-- with `dss` there, too few bytes or another first one
by_dss : (few two six : Bool) → (number (cond few Other (cond two Dss (cond six Grundig Other))) ≡ 1) → ⊥
by_dss true two six e = omega (arith, e)
by_dss false true six e = omega (arith, e)
by_dss false false true e = omega (arith, e)
by_dss false false false e = omega (arith, e)

-- without it
abbrev others : Bool → Bool → Bool → ℕ
others few ds2 one = number (cond few Other (cond ds2 (cond one Ds2 Other) Other))

by_others : (few ds2 one : Bool) → (others few ds2 one ≡ 0 → ⊥) × (others few ds2 one ≡ 1 → (ds2 ≡ true) × (one ≡ true))
by_others true ds2 one = (λ e. omega (arith, e), λ e. absurd (omega (arith, e)))
by_others false true true = (λ e. omega (arith, e), λ e. (refl, refl))
by_others false true false = (λ e. omega (arith, e), λ e. absurd (omega (arith, e)))
by_others false false one = (λ e. omega (arith, e), λ e. absurd (omega (arith, e)))

module _ (f : List ℕ) where
  -- `ds2`, and DS2's first bytes
  abbrev spelt : Bool
  spelt = spells f 100 115 50

  abbrev first : Bool
  first = eqb (get_or f 0 0) 1 || eqb (get_or f 0 0) 3 || eqb (get_or f 0 0) 7

  without : (others (ltb (length f) 4) spelt first ≡ 0 → ⊥) × (others (ltb (length f) 4) spelt first ≡ 1 → (spelt ≡ true) × (first ≡ true))
  without = by_others (ltb (length f) 4) spelt first

  pub dss_named : magic_of f ≡ Dss → names_dss f ≡ true
  unfolding magic_of names_dss ds2_by
  dss_named e = by_test (names_dss f) (λ h. h) (λ h. absurd (without.0 (ap number (rw h at e))))

  pub ds2_not_named : magic_of f ≡ Ds2 → names_dss f ≡ false
  unfolding magic_of names_dss dss_by
  ds2_not_named e = by_test (names_dss f) (λ h. absurd (
      by_dss (ltb (length f) 4) (eqb (get_or f 0 0) 2 || eqb (get_or f 0 0) 3) (eqb (get_or f 0 0) 6) (ap number (rw h at e)))) (λ h. h)

  pub ds2_spelt : magic_of f ≡ Ds2 → (spells f 100 115 50 ≡ true) × ((eqb (get_or f 0 0) 1 || eqb (get_or f 0 0) 3 || eqb (get_or f 0 0) 7) ≡ true)
  unfolding magic_of names_dss ds2_by
  ds2_spelt e = let h = ds2_not_named e in without.1 (ap number (rw h at e))
