-- Laws of how many of the first n are such.
-- Assumes nothing.
use Prim.Native.Nat.{ℕ, zero, suc, ◌+◌, ◌≤◌, ◌<◌}
use mathlib.Core.Path.{◌≡◌, refl}
use mathlib.Core.Bool.{Bool, true, false, not}
use native.Mathlib.Nat.{not-suc-le-zero}
use native.Mathlib.Omega.{arith}
use Rattle.tables.proofs.Cases.{by_order, by_equal, by_test}
use Rattle.tables.specs.Counting.{how_many}

-- each of the first n is such or is not
pub all_counted : (n : ℕ) (such : ℕ → Bool) → how_many n (λ k. not (such k)) + how_many n such ≡ n
unfolding how_many
all_counted zero such = refl
all_counted (suc n) such =
    let before = all_counted n such in
    by_test (such n) (λ h. simp h (omega arith)) (λ h. simp h (omega arith))

-- which of the first n are such decides
pub same_many : (n : ℕ) (such other : ℕ → Bool) → ((k : ℕ) → k < n → such k ≡ other k) → how_many n such ≡ how_many n other
unfolding how_many
same_many zero such other same = refl
same_many (suc n) such other same =
    let before = same_many n such other (λ k h. same k (omega arith)) in
    let last : such n ≡ other n = same n (omega arith) in
    rw (before, last)

-- they are those of the first m, and those of the n after them
pub many_parts : (m n : ℕ) (such : ℕ → Bool) → how_many (m + n) such ≡ how_many m such + how_many n (λ k. such (m + k))
unfolding how_many
many_parts m zero such = let all : m + 0 ≡ m = omega arith in rw all (omega arith)
many_parts m (suc n) such = let number : m + suc n ≡ suc (m + n) = omega arith in rw number (omega (arith, many_parts m n such))

-- none of the first n is such
pub none_such : (n : ℕ) (such : ℕ → Bool) → ((k : ℕ) → k < n → such k ≡ false) → how_many n such ≡ 0
unfolding how_many
none_such zero such none = refl
none_such (suc n) such none =
    let before = none_such n such (λ k h. none k (omega arith)) in
    let last : such n ≡ false = none n (omega arith) in
    simp (before, last)

pub none_counted : (n : ℕ) (such : ℕ → Bool) → how_many n such ≡ 0 → (k : ℕ) → k < n → such k ≡ false
unfolding how_many
none_counted zero such none k h = absurd (not-suc-le-zero h)
none_counted (suc n) such none k h =
    by_test (such n)
    (λ last. absurd (omega (arith, rw last at none)))
    (λ last. by_equal k n (λ same. rw same last) (λ other. none_counted n such (omega (arith, rw last at none)) k (omega arith)))

-- the first m of them are such, and no other
pub first_such : (m n : ℕ) (such : ℕ → Bool) → m ≤ n → ((k : ℕ) → k < m → such k ≡ true) → ((k : ℕ) → m ≤ k → k < n → such k ≡ false)
    → how_many n such ≡ m
unfolding how_many
first_such m zero such upto are are-not = omega arith
first_such m (suc n) such upto are are-not =
    by_order n m
    (λ inside.
    let before = first_such n n such (omega arith) (λ k h. are k (omega arith)) (λ k l h. absurd (omega arith)) in
    let last : such n ≡ true = are n inside in
    simp (before, last) (omega arith))
    (λ past.
    let before = first_such m n such past are (λ k l h. are-not k l (omega arith)) in
    let last : such n ≡ false = are-not n past (omega arith) in
    simp (before, last) (omega arith))

-- one of the first n is such, and no other
pub one_such : (n : ℕ) (such : ℕ → Bool) (j : ℕ) → j < n → such j ≡ true → ((k : ℕ) → (k ≡ j → ⊥) → such k ≡ false) → how_many n such ≡ 1
unfolding how_many
one_such zero such j there is others = absurd (not-suc-le-zero there)
one_such (suc n) such j there is others =
    by_equal n j
    (λ e.
    let before = none_such n such (λ k h. others k (λ (same : k ≡ j). omega arith)) in
    let last : such n ≡ true = rw e is in
    simp (before, last))
    (λ e.
    let before = one_such n such j (omega arith) is others in
    let last : such n ≡ false = others n e in
    simp (before, last))
