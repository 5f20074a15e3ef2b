-- Two numbers are in one order or the other, and equal or not, and a test holds or fails: what a proof by cases goes by.
-- Assumes nothing.
use Prim.Native.Nat.{ℕ, ◌≤◌, ◌<◌}
use mathlib.Core.Path.{◌≡◌, refl, sym, ◌∙◌}
use mathlib.Core.Bool.{Bool, true, false, cond}
use native.Mathlib.Decide.{dec_le, ℕ_discrete}
use native.Mathlib.Nat.{lt_of_not-le}
use native.Mathlib.Omega.{arith}

pub by_order {ℓ} : {X : Type ℓ} (a b : ℕ) → (a < b → X) → (b ≤ a → X) → X
by_order a b below above = elim (dec_le b a) [ yes h ↦ above h | no h ↦ below (lt_of_not-le h) ]

pub by_equal {ℓ} : {X : Type ℓ} (a b : ℕ) → (a ≡ b → X) → ((a ≡ b → ⊥) → X) → X
by_equal a b same other = elim (ℕ_discrete a b) [ yes e ↦ same e | no e ↦ other e ]

pub by_test {ℓ} : {X : Type ℓ} (test : Bool) → (test ≡ true → X) → (test ≡ false → X) → X
by_test true held failed = held refl
by_test false held failed = failed refl

-- a test that holds does not fail
pub never : {test : Bool} → test ≡ true → test ≡ false → ⊥
never {test} p q = let z : ◌≡◌ {A = Bool} true false = sym p ∙ q in let y : ◌≡◌ {A = ℕ} 0 1 = cc in omega arith

-- a choice of two numbers that are both at most n
pub either_most : (test : Bool) {x y n : ℕ} → x ≤ n → y ≤ n → cond test x y ≤ n
either_most true p q = p
either_most false p q = q
