-- The reads up to the last unswapped one, and what is carried past them: that one's byte 40, and before any what was given.
-- Assumes nothing.
use Prim.Native.Nat.{ℕ, zero, suc, ◌+◌, ◌-◌, ◌≤◌}
use mathlib.Core.Path.{◌≡◌, refl, ap, ◌∙◌, subst, sym}
use mathlib.Core.Bool.{Bool, true, false, not}
use native.Mathlib.Omega.{arith}
use Rattle.tables.proofs.Cases.{by_test, either_most}
use Rattle.packets.specs.Packet.{read_size, carry_after}
use Rattle.packets.specs.Walk.{Walk, steps, reach, parity}
use Rattle.packets.specs.Inner.{upto_unswapped}
use Rattle.packets.proofs.Walk.{parity_flips, reach_more, steps_swap, steps_carry}

-- none of no reads, and of some by the parity of the last
pub upto_none : (swap : Bool) → upto_unswapped swap 0 ≡ 0
upto_none true = refl
upto_none false = omega arith

pub upto_plain : (swap : Bool) (n : ℕ) → parity swap n ≡ false → upto_unswapped swap (suc n) ≡ suc n
upto_plain swap n plain = let next : parity swap (suc n) ≡ true = parity_flips swap n ∙ ap not plain in rw next

pub upto_swapped : (swap : Bool) (n : ℕ) → parity swap n ≡ true → upto_unswapped swap (suc n) ≡ n
upto_swapped swap n swapped =
    let next : parity swap (suc n) ≡ false = parity_flips swap n ∙ ap not swapped in
    rw next (omega arith)

pub upto_most : (swap : Bool) (n : ℕ) → upto_unswapped swap n ≤ n
upto_most swap n = either_most (parity swap n) {x = n} {y = n - 1} (omega arith) (omega arith)

module _ (s : ℕ → ℕ) (w : Walk) where
  -- what is carried past k reads, of which u go up to the last unswapped one
  pub record Carries (k u : ℕ) : Type 0 where
    pub kept : u ≡ 0 → (steps s w k).carry ≡ w.carry
    pub last : (u ≡ 0 → ⊥) → (steps s w k).carry ≡ s (w.place + reach w.swap u - 2)

  pub carries : (k : ℕ) → Carries k (upto_unswapped w.swap k)
  unfolding steps carry_after
  carries zero =
      let none = upto_none w.swap in
      record { kept = λ _. refl; last = λ some. absurd (some none) }
  carries (suc k) =
      by_test (parity w.swap k)
      (λ swapped.
      let same : upto_unswapped w.swap k ≡ upto_unswapped w.swap (suc k) = rw swapped (sym (upto_swapped w.swap k swapped)) in
      let on : (steps s w (suc k)).carry ≡ (steps s w k).carry = rw (steps_swap s w k ∙ swapped) in
      let before = subst (Carries k) same (carries k) in
      record { kept = λ none. on ∙ before.kept none; last = λ some. on ∙ before.last some })
      (λ plain.
      let all : suc k ≡ upto_unswapped w.swap (suc k) = sym (upto_plain w.swap k plain) in
      let next : parity w.swap (suc k) ≡ true = parity_flips w.swap k ∙ ap not plain in
      let there : w.place + reach w.swap k + 40 ≡ w.place + reach w.swap (suc k) - 2 =
      omega (arith, reach_more w.swap k, ap read_size plain) in
      subst (Carries (suc k)) all
      (record { kept = λ none. absurd (omega arith); last = λ some. steps_carry s w k next ∙ ap s there }))
