-- A walk packet by packet; and its place and parity with no walk.
-- Assumes nothing.
use Prim.Native.Nat.{ℕ, zero, suc, ◌+◌, ◌*◌, ◌-◌, ◌/◌, ◌%◌, ◌≤◌, ◌<◌}
use mathlib.Core.Path.{◌≡◌, refl, sym, ap, ◌∙◌}
use mathlib.Core.Bool.{Bool, true, false, not, not-not}
use native.Mathlib.Numerals.{add-one}
use native.Mathlib.Omega.{arith}
use borrow.Author.Tests.{eq-eqb, ne_eqb, not-true}
use Rattle.tables.proofs.Cases.{by_equal}
use Rattle.packets.specs.Packet.{read_size, carry_after}
use Rattle.packets.specs.Walk.{Walk, step, steps, byte_of, reach, parity}
use Rattle.packets.specs.Inner.{joined_at}

pub steps_none : (s : ℕ → ℕ) (w : Walk) → steps s w 0 ≡ w
unfolding steps
steps_none s w = refl

pub steps_more : (s : ℕ → ℕ) (w : Walk) (k : ℕ) → steps s w (k + 1) ≡ step s (steps s w k)
unfolding steps
steps_more s w k = ap (steps s w) (add-one k)

pub joined_is : (s : ℕ → ℕ) (w : Walk) (j : ℕ) → joined_at s w j ≡ byte_of s (steps s w (j / 42)) (j % 42)
unfolding joined_at
joined_is s w j = refl

pub joined_in : (s : ℕ → ℕ) (w : Walk) (n i : ℕ) → i < 42 → byte_of s (steps s w n) i ≡ joined_at s w (42 * n + i)
unfolding joined_at
joined_in s w n i h =
    let number : (42 * n + i) / 42 ≡ n = omega arith in
    let byte : (42 * n + i) % 42 ≡ i = omega arith in
    rw (number, byte)

pub reach_none : (swap : Bool) → reach swap 0 ≡ 0
reach_none true = refl
reach_none false = refl

pub parity_flips : (swap : Bool) (k : ℕ) → parity swap (suc k) ≡ not (parity swap k)
parity_flips swap k =
    by_equal (k % 2) 0
    (λ even. let odd : suc k % 2 ≡ 0 → ⊥ = λ e. omega arith in simp (eq-eqb _ _ even, ne_eqb _ _ odd))
    (λ odd. let even : suc k % 2 ≡ 0 = omega arith in simp (ne_eqb _ _ odd, eq-eqb _ _ even, not-not))

-- one packet further
pub reach_more : (swap : Bool) (k : ℕ) → reach swap (suc k) ≡ reach swap k + read_size (parity swap k)
reach_more true k =
    by_equal (k % 2) 0 (λ even. simp (eq-eqb _ _ even) (omega arith)) (λ odd. simp (ne_eqb _ _ odd) (omega arith))
reach_more false k =
    by_equal (k % 2) 0 (λ even. simp (eq-eqb _ _ even) (omega arith)) (λ odd. simp (ne_eqb _ _ odd) (omega arith))

-- parity and place after k packets, with no walk
pub steps_swap : (s : ℕ → ℕ) (w : Walk) (k : ℕ) → (steps s w k).swap ≡ parity w.swap k
unfolding steps
steps_swap s w zero = refl
steps_swap s w (suc k) = ap not (steps_swap s w k) ∙ sym (parity_flips w.swap k)

pub steps_place : (s : ℕ → ℕ) (w : Walk) (k : ℕ) → (steps s w k).place ≡ w.place + reach w.swap k
unfolding steps
steps_place s w zero = omega (arith, reach_none w.swap)
steps_place s w (suc k) =
    omega (arith, steps_place s w k, ap read_size (steps_swap s w k), reach_more w.swap k)

-- what is carried to a swapped packet, with no walk: byte 40 of the read before it
pub steps_carry : (s : ℕ → ℕ) (w : Walk) (k : ℕ) → parity w.swap (suc k) ≡ true
    → (steps s w (suc k)).carry ≡ s (w.place + reach w.swap k + 40)
unfolding steps carry_after
steps_carry s w k swapped =
    let before : (steps s w k).swap ≡ false =
    steps_swap s w k ∙ not-true (parity w.swap k) (sym (parity_flips w.swap k) ∙ swapped) in
    rw (before, steps_place s w k)

-- which stands two places before its own
pub carry_two_before : (s : ℕ → ℕ) (w : Walk) (k : ℕ) → parity w.swap (suc k) ≡ true
    → (steps s w (suc k)).carry ≡ s ((steps s w (suc k)).place - 2)
carry_two_before s w k swapped =
    let plain : parity w.swap k ≡ false = not-true (parity w.swap k) (sym (parity_flips w.swap k) ∙ swapped) in
    let there : w.place + reach w.swap k + 40 ≡ (steps s w (suc k)).place - 2 =
    omega (arith, steps_place s w (suc k), reach_more w.swap k, ap read_size plain) in
    steps_carry s w k swapped ∙ ap s there

-- a walk does not go back
reach_upto : (swap : Bool) (j k : ℕ) → j ≤ k → reach swap j ≤ reach swap k
reach_upto true j k h = omega arith
reach_upto false j k h = omega arith

pub steps_upto : (s : ℕ → ℕ) (w : Walk) (j k : ℕ) → j ≤ k → (steps s w j).place ≤ (steps s w k).place
steps_upto s w j k h = omega (arith, steps_place s w j, steps_place s w k, reach_upto w.swap j k h)
