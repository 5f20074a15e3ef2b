-- Of finitely many numbers some is the first that is large enough, or none is; and some is the first of the largest.
-- Assumes nothing.
use Prim.Native.Nat.{ℕ, zero, suc, ◌≤◌, ◌<◌}
use mathlib.Core.Path.{◌≡◌, ap}
use mathlib.Core.Logic.{◌⊎◌, inl, inr, ⊎_elim}
use native.Mathlib.Nat.{not-suc-le-zero}
use native.Mathlib.Omega.{arith}
use Rattle.tables.proofs.Cases.{by_order, by_equal}

-- of the first k values of g, j is the first that is m or more
pub record First (g : ℕ → ℕ) (m k j : ℕ) : Type 0 where
  pub inside : j < k
  pub enough : m ≤ g j
  pub before : (i : ℕ) → i < j → g i < m

-- of the first k values of g, none is more than j's, and those before it are less
pub record Top (g : ℕ → ℕ) (k j : ℕ) : Type 0 where
  pub inside : j < k
  pub before : (i : ℕ) → i < j → g i < g j
  pub all : (i : ℕ) → i < k → g i ≤ g j

-- what holds of each index below k, and of k
pub one_more : {P : ℕ → Type 0} (k : ℕ) → ((i : ℕ) → i < k → P i) → P k → (i : ℕ) → i < suc k → P i
one_more {P} k below here i h = by_equal i k (λ e. rw e here) (λ e. below i (omega arith))

pub first_or_none : (g : ℕ → ℕ) (m k : ℕ) → ((j : ℕ) × First g m k j) ⊎ ((i : ℕ) → i < k → g i < m)
first_or_none g m zero = inr (λ i h. absurd (not-suc-le-zero h))
first_or_none g m (suc k) =
    ⊎_elim
    (λ w. inl (w.0, record { inside = omega (arith, w.1.inside); enough = w.1.enough; before = w.1.before }))
    (λ none.
    by_order (g k) m (λ h. inr (one_more {P = λ i. g i < m} k none h))
    (λ h. inl (k, record { inside = omega arith; enough = h; before = none })))
    (first_or_none g m k)

pub top_one : (g : ℕ → ℕ) (k : ℕ) → (j : ℕ) × Top g (suc k) j
top_one g zero = (
  0,
  record {
    inside = omega arith;
    before = λ i h. absurd (not-suc-le-zero h);
    all = λ i h. let e : i ≡ 0 = omega arith in omega (arith, ap g e);
  },
)
top_one g (suc k) =
    let w = top_one g k in
    by_order (g w.0) (g (suc k))
    (λ h. (
      suc k,
      record {
        inside = omega arith;
        before = λ i l. omega (arith, w.1.all i l);
        all = one_more {P = λ i. g i ≤ g (suc k)} (suc k) (λ i l. omega (arith, w.1.all i l)) (omega arith);
      },
    ))
    (λ h. (
      w.0,
      record {
        inside = omega (arith, w.1.inside);
        before = w.1.before;
        all = one_more {P = λ i. g i ≤ g w.0} (suc k) w.1.all h;
      },
    ))
