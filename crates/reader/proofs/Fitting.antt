-- The blocks of an input fit exactly when there are no more of them than fit of any longer input.
-- Assumes nothing.
use Prim.Native.Nat.{ℕ, ◌≤◌, min}
use mathlib.Core.Path.{◌≡◌, sym, ap, ◌∙◌}
use mathlib.Core.List.{List, ◌++◌}
use mathlib.Core.Bool.{Bool}
use native.Mathlib.Omega.{arith}
use borrow.Author.Tests.{le-leb, lt-leb, eq-eqb, ne_eqb}
use lib.ListN.{length, length-append}
use lib.Dec.{eqb, leb}
use Rattle.tables.proofs.Cases.{by_order}
use Rattle.tables.proofs.Leading.{leading_fewer}
use Rattle.blocks.specs.Places.{whole_blocks}
use Rattle.hold.specs.Held.{block_fits, fitting, fits}
use Rattle.hold.proofs.Front.{each_fits}
use Rattle.hold.proofs.Longer.{fitting_kept}

-- that the smaller of two numbers is the first says that the first is no more than the second
least_is_first : (n most : ℕ) → eqb (min n most) n ≡ leb n most
least_is_first n most =
    by_order most n (λ less. ne_eqb (min n most) n (λ e. omega arith) ∙ sym (lt-leb n most less))
    (λ no_less. let least : min n most ≡ n = omega arith in eq-eqb (min n most) n least ∙ sym (le-leb n most no_less))

fitting_fewer : (dss : Bool) (f : List ℕ) (a m n : ℕ) → m ≤ n → fitting dss f a m ≡ min m (fitting dss f a n)
unfolding fitting
fitting_fewer dss f a m n fewer = leading_fewer (block_fits dss f a) m n fewer

pub fits_same : (dss : Bool) (f rest : List ℕ) (a : ℕ)
    → fits dss f a (whole_blocks (length f) a) ≡ leb (whole_blocks (length f) a) (fitting dss (f ++ rest) a (whole_blocks (length (f ++ rest)) a))
fits_same dss f rest a =
    let n = whole_blocks (length f) a in
    let m = whole_blocks (length (f ++ rest)) a in
    by_order (length f) a
    (λ short.
    each_fits dss f a n (λ b h. absurd (omega arith)) ∙ sym (le-leb n (fitting dss (f ++ rest) a m) (omega arith)))
    (λ full.
    ap (λ (k : ℕ). eqb k n)
    (fitting_kept dss f rest a n (omega arith) ∙ fitting_fewer dss (f ++ rest) a n m (omega (arith, length-append f rest)))
    ∙ least_is_first n (fitting dss (f ++ rest) a m))
