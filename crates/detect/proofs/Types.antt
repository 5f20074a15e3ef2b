-- The type block by block; that SP is types 0 to 5, and that types 8 to 255 are reported otherwise than they are read.
-- Assumes nothing.
use Prim.Native.Nat.{ℕ, suc, ◌+◌, ◌≤◌}
use mathlib.Core.Path.{◌≡◌, refl}
use mathlib.Core.List.{List}
use mathlib.Core.Bool.{true}
use borrow.Author.Tests.{le-ltb, lt-ltb, eq-eqb, ne_eqb}
use native.Mathlib.Omega.{arith}
use lib.Dec.{ltb}
use Rattle.tables.proofs.Cases.{by_order, by_equal}
use Rattle.blocks.specs.Headers.{count_of, type_of}
use Rattle.detect.specs.declared.Kind.{Kind}
use Rattle.detect.specs.declared.Kind.TheVariants.{Sp, Qp, Qp7}
use Rattle.detect.specs.declared.AudioFormat.TheVariants.{Ds2Sp}
use Rattle.detect.specs.Kinds.{first_type, kind_of, same_kind, read_as, format_of}

-- types 8 to 255 are reported as SP although they read as QP
pub reported_otherwise : (t : ℕ) → 8 ≤ t → (format_of t ≡ Ds2Sp) × (kind_of t ≡ Qp)
unfolding format_of kind_of
reported_otherwise t h =
    let six : t ≡ 6 → ⊥ = λ e. omega arith in
    let seven : t ≡ 7 → ⊥ = λ e. omega arith in
    (simp (ne_eqb t 7 seven, ne_eqb t 6 six), simp (le-ltb t 6 (omega arith), ne_eqb t 7 seven))

-- SP is types 0 to 5
pub sp_is_0_to_5 : (t : ℕ) → read_as t Sp ≡ ltb t 6
unfolding kind_of
sp_is_0_to_5 t =
    by_order t 6 (λ h. simp (lt-ltb t 6 h))
    (λ h.
    by_equal t 7 (λ e. simp (le-ltb t 6 h, eq-eqb t 7 e)) (λ e. simp (le-ltb t 6 h, ne_eqb t 7 e)))

-- a kind is the same as itself
pub itself : (kind : Kind) → same_kind kind kind ≡ true
itself Sp = refl
itself Qp = refl
itself Qp7 = refl

pub type_none : (f : List ℕ) (a n b : ℕ) → n ≡ 0 → first_type f a n b ≡ 0
unfolding first_type
type_none f a n b e = rw e

pub type_here : (f : List ℕ) (a n b k : ℕ) → n ≡ suc k → 1 ≤ count_of f a b → first_type f a n b ≡ type_of f a b
unfolding first_type
type_here f a n b k e h = rw e (simp (lt-ltb 0 (count_of f a b) h))

pub type_later : (f : List ℕ) (a n b k : ℕ) → n ≡ suc k → count_of f a b ≤ 0 → first_type f a n b ≡ first_type f a k (b + 1)
unfolding first_type
type_later f a n b k e h = rw e (simp (le-ltb 0 (count_of f a b) h))
