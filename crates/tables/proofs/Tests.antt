-- Laws of tests: what a chain of tests comes to, step by step, as code takes it.
-- Assumes nothing.
use Prim.Native.Nat.{ℕ, ◌<◌}
use mathlib.Core.Path.{◌≡◌, refl, sym, ◌∙◌}
use mathlib.Core.Bool.{Bool, true, false, ◌&&◌}
use native.Mathlib.Omega.{arith}
use borrow.Author.Tests.{lt-ltb, le-ltb}
use lib.Dec.{ltb}
use Rattle.tables.proofs.Cases.{by_order}

-- two tests hold
pub both : {a b : Bool} → a ≡ true → b ≡ true → (a && b) ≡ true
both p q = rw p q

-- both of two tests that hold together
pub both_hold : (a b : Bool) → (a && b) ≡ true → (a ≡ true) × (b ≡ true)
both_hold true b e = (refl, e)
both_hold false b e = (e, cc)

-- two tests of which each holds if the other does are the same
pub same_tests : (a b c d : ℕ) → (a < b → c < d) → (c < d → a < b) → ltb a b ≡ ltb c d
same_tests a b c d there back =
    by_order a b (λ h. lt-ltb a b h ∙ sym (lt-ltb c d (there h)))
    (λ h. le-ltb a b h ∙ sym (le-ltb c d (by_order c d (λ l. absurd (omega (arith, back l))) (λ l. l))))

-- two things said of one value
pub told {ℓ} : {A : Type ℓ} {x y z : A} → x ≡ y → x ≡ z → y ≡ z
told p q = sym p ∙ q
