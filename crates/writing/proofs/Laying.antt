-- Where packets' reads lie in the stream that is laid, and what one packet more changes of it.
-- Assumes nothing.
use Prim.Native.Nat.{ℕ, ◌+◌, ◌*◌, ◌-◌, ◌/◌, ◌%◌, ◌≤◌, ◌<◌}
use mathlib.Core.Path.{◌≡◌, refl, sym, ap, ◌∙◌}
use mathlib.Core.Bool.{Bool, true, false}
use native.Mathlib.Omega.{arith}
use borrow.Author.Tests.{eq-eqb, ne_eqb, lt-ltb, le-ltb}
use Rattle.tables.proofs.Cases.{by_equal, by_order, never}
use Rattle.packets.specs.Packet.{read_size}
use Rattle.packets.specs.Walk.{reach, parity}
use Rattle.packets.proofs.Walk.{reach_more}
use Rattle.laying.proofs.Frames.{Apart}
use Rattle.writing.specs.Reads.{read_byte}
use Rattle.writing.specs.Laying.{carried_on, laid_read, laid_at}

-- parity is that of the number
pub even_is : (k : ℕ) → k % 2 ≡ 0 → parity false k ≡ false
even_is k e = simp (eq-eqb (k % 2) 0 e)

pub odd_is : (k : ℕ) → (k % 2 ≡ 0 → ⊥) → parity false k ≡ true
odd_is k e = simp (ne_eqb (k % 2) 0 e)

pub reads_apart : Apart (reach false)
reads_apart = record { next = λ k. omega arith }

-- every place of the stream lies in one read
pub in_read : {X : Type 0} (q : ℕ) → ((k j : ℕ) → j < read_size (parity false k) → q ≡ reach false k + j → X) → X
in_read q there =
    by_order (q % 82) 42
    (λ first.
    there (2 * (q / 82)) (q % 82) (omega (arith, ap read_size (even_is (2 * (q / 82)) (omega arith)))) (omega arith))
    (λ second.
    there (2 * (q / 82) + 1) (q % 82 - 42) (omega (arith, ap read_size (odd_is (2 * (q / 82) + 1) (λ e. omega arith)))) (omega arith))

module _ (n : ℕ) (p : ℕ → ℕ → ℕ) where
  laid_even : (k j : ℕ) → k % 2 ≡ 0 → j < 42 → laid_at n p (reach false k + j) ≡ laid_read n p k j
  unfolding laid_at
  laid_even k j even h =
      let pair : (41 * k + k % 2 + j) / 82 ≡ k / 2 = omega arith in
      let left : (41 * k + k % 2 + j) % 82 ≡ j = omega arith in
      let number : 2 * (k / 2) ≡ k = omega arith in
      rw (pair, left) (simp (lt-ltb j 42 h) (ap (λ (m : ℕ). laid_read n p m j) number))

  laid_odd : (k j : ℕ) → (k % 2 ≡ 0 → ⊥) → j < 40 → laid_at n p (reach false k + j) ≡ laid_read n p k j
  unfolding laid_at
  laid_odd k j odd h =
      let pair : (41 * k + k % 2 + j) / 82 ≡ k / 2 = omega arith in
      let left : (41 * k + k % 2 + j) % 82 ≡ 42 + j = omega arith in
      let number : 2 * (k / 2) + 1 ≡ k = omega arith in
      let back : 42 + j - 42 ≡ j = omega arith in
      rw (pair, left, number, back) (simp (le-ltb (42 + j) 42 (omega arith)))

  -- packet k's read lies where the walk comes to
  pub laid_in : (k j : ℕ) → j < read_size (parity false k) → laid_at n p (reach false k + j) ≡ laid_read n p k j
  laid_in k j h =
      by_equal (k % 2) 0 (λ even. laid_even k j even (omega (arith, ap read_size (even_is k even))))
      (λ odd. laid_odd k j odd (omega (arith, ap read_size (odd_is k odd))))

  pub read_is : (k j : ℕ) → k < n → laid_read n p k j ≡ read_byte (parity false k) (carried_on n p k) (p k) j
  unfolding laid_read
  read_is k j h = simp (lt-ltb k n h)

  -- byte 40 of an unswapped read is byte 1 of the packet that follows
  pub carried_is : (k : ℕ) → k + 1 < n → k % 2 ≡ 0 → laid_read n p k 40 ≡ p (k + 1) 1
  unfolding laid_read read_byte
  carried_is k h even = simp (lt-ltb k n (omega arith), eq-eqb (k % 2) 0 even, lt-ltb (k + 1) n h)

-- what is carried stands at byte 40 of an unswapped read and nowhere else
any_carry : (swap : Bool) (a b : ℕ) (x : ℕ → ℕ) (j : ℕ) → (j ≡ 40 → swap ≡ false → ⊥) → read_byte swap a x j ≡ read_byte swap b x j
unfolding read_byte
any_carry true a b x j other = refl
any_carry false a b x j other = let forty : j ≡ 40 → ⊥ = λ e. other e refl in simp (ne_eqb j 40 forty)

-- one packet more
module _ (p : ℕ → ℕ → ℕ) (k : ℕ) where
  read_kept : (m j : ℕ) → (m ≡ k → ⊥) → (m + 1 ≡ k → j ≡ 40 → parity false m ≡ false → ⊥) → laid_read (k + 1) p m j ≡ laid_read k p m j
  unfolding laid_read
  read_kept m j other carried =
      by_order m k
      (λ before.
      simp (lt-ltb m (k + 1) (omega arith), lt-ltb m k before)
      (by_equal (m + 1) k (λ next. any_carry (parity false m) (carried_on (k + 1) p m) (carried_on k p m) (p m) j (carried next))
      (λ later. simp (lt-ltb (m + 1) (k + 1) (omega arith), lt-ltb (m + 1) k (omega arith)))))
      (λ behind.
      let past : k + 1 ≤ m = omega (arith, other) in
      simp (le-ltb m (k + 1) past, le-ltb m k behind))

  -- changes its read, and byte 40 of the read before a swapped one; all else is as it was
  pub stream_kept : (q : ℕ) → (reach false k ≤ q → q < reach false k + read_size (parity false k) → ⊥)
      → (parity false k ≡ true → q + 2 ≡ reach false k → ⊥) → laid_at (k + 1) p q ≡ laid_at k p q
  stream_kept q outside carried =
      in_read q
      (λ m j h is.
      rw is
      (laid_in (k + 1) p m j h
      ∙ read_kept m j (λ same. outside (omega (arith, ap (reach false) same)) (omega (arith, is, ap (λ (i : ℕ). reach false i + read_size (parity false i)) same)))
      (λ next forty plain.
      carried (odd_is k (λ even. omega (arith, next, even_number m plain))) (omega (arith, is, reach_more false m, ap (reach false) next, ap read_size plain)))
      ∙ sym (laid_in k p m j h)))
    where
      even_number : (m : ℕ) → parity false m ≡ false → m % 2 ≡ 0
      even_number m plain =
          by_equal (m % 2) 0 (λ even. even) (λ odd. absurd (never (odd_is m odd) plain))

  -- its read, with nothing carried on yet
  pub read_put : (swap : Bool) → parity false k ≡ swap → (i : ℕ) → i < read_size swap → laid_at (k + 1) p (reach false k + i) ≡ read_byte swap 0 (p k) i
  read_put swap is i h =
      laid_in (k + 1) p k i (omega (arith, ap read_size is))
      ∙ read_is (k + 1) p k i (omega arith)
      ∙ simp (is, le-ltb (k + 1) (k + 1) (omega arith))

  -- and a swapped one's byte 1, two places before
  pub carried_put : (k % 2 ≡ 0 → ⊥) → laid_at (k + 1) p (reach false k - 2) ≡ p k 1
  carried_put odd =
      let number : k - 1 + 1 ≡ k = omega arith in
      let even : (k - 1) % 2 ≡ 0 = omega arith in
      let there : reach false k - 2 ≡ reach false (k - 1) + 40 = omega arith in
      ap (laid_at (k + 1) p) there
      ∙ laid_in (k + 1) p (k - 1) 40 (omega (arith, ap read_size (even_is (k - 1) even)))
      ∙ carried_is (k + 1) p (k - 1) (omega arith) even
      ∙ ap (λ (m : ℕ). p m 1) number
