-- Where a test first fails: what `leading` counts to, that no other number is that place, and two tests compared.
-- Assumes nothing.
use Prim.Native.Nat.{ℕ, zero, suc, ◌≤◌, ◌<◌, min}
use mathlib.Core.Path.{◌≡◌, refl, sym, ap, ◌∙◌}
use mathlib.Core.Bool.{Bool, true, false}
use native.Mathlib.Nat.{le_of_suc-le-suc, not-suc-le-zero}
use native.Mathlib.Omega.{arith}
use Rattle.tables.proofs.Cases.{by_order, by_test, never}
use Rattle.tables.specs.Leading.{leading}

-- j is where a test first fails among 0, 1, .., n - 1, or n
pub record Leads (such : ℕ → Bool) (n j : ℕ) : Type 0 where
  pub within : j ≤ n
  pub before : (i : ℕ) → i < j → such i ≡ true
  pub stops : j < n → such j ≡ false

-- one more in front of those that lead
leads_more : {such : ℕ → Bool} {n j : ℕ} → such 0 ≡ true → Leads (λ k. such (suc k)) n j → Leads such (suc n) (suc j)
leads_more {such} {n} {j} first v =
    record { within = omega (arith, v.within); before = all; stops = λ h. v.stops (le_of_suc-le-suc h) }
  where
    all : (i : ℕ) → i < suc j → such i ≡ true
    all zero h = first
    all (suc i) h = v.before i (le_of_suc-le-suc h)

leads_none : {such : ℕ → Bool} {n : ℕ} → (0 < n → such 0 ≡ false) → Leads such n 0
leads_none stops = record { within = omega arith; before = λ i h. absurd (not-suc-le-zero h); stops = stops }

pub leading_leads : (such : ℕ → Bool) (n : ℕ) → Leads such n (leading such n)
unfolding leading
leading_leads such zero = leads_none (λ h. absurd (not-suc-le-zero h))
leading_leads such (suc n) =
    let rest = leading_leads (λ k. such (suc k)) n in
    by_test (such 0) (λ e. rw e (leads_more e rest)) (λ e. rw e (leads_none (λ h. e)))

-- of two tests, the second holding wherever the first does, the second leads at least as far
pub leads_further : {such other : ℕ → Bool} {m n j k : ℕ} → m ≤ n → ((i : ℕ) → i < m → such i ≡ true → other i ≡ true)
    → Leads such m j → Leads other n k → j ≤ k
leads_further {such} {other} {m} {n} {j} {k} more implied p q =
    by_order k j
    (λ l.
    let inside : k < m = omega (arith, p.within) in
    absurd (never (implied k inside (p.before k l)) (q.stops (omega arith))))
    (λ l. l)

-- one test, or two that agree, have one such place
pub leads_same : {such other : ℕ → Bool} {n j k : ℕ} → ((i : ℕ) → i < n → such i ≡ other i) → Leads such n j → Leads other n k → j ≡ k
leads_same {such} {other} {n} {j} {k} agree p q =
    let whole : n ≤ n = omega arith in
    omega
    (arith, leads_further whole (λ i h e. sym (agree i h) ∙ e) p q, leads_further whole (λ i h e. agree i h ∙ e) q p)

pub leads_only : {such : ℕ → Bool} {n j k : ℕ} → Leads such n j → Leads such n k → j ≡ k
leads_only p q = leads_same (λ i h. refl) p q

pub leading_same : (such other : ℕ → Bool) (n : ℕ) → ((i : ℕ) → i < n → such i ≡ other i) → leading such n ≡ leading other n
leading_same such other n agree = leads_same agree (leading_leads such n) (leading_leads other n)

-- of fewer numbers, the same place or all
pub leading_fewer : (such : ℕ → Bool) (m n : ℕ) → m ≤ n → leading such m ≡ min m (leading such n)
leading_fewer such m n less =
    let v = leading_leads such n in
    leads_only (leading_leads such m)
    (record {
      within = omega arith;
      before = λ i h. v.before i (omega arith);
      stops = λ h. let there : leading such n ≡ min m (leading such n) = omega arith in ap such (sym there) ∙ v.stops (omega arith);
    })
