-- Bytes that move up to the front of a list, one by one; and what a list is when its front is dropped.
-- Assumes nothing.
use Prim.Native.Nat.{ℕ, ◌+◌, ◌-◌, ◌≤◌, ◌<◌}
use mathlib.Core.Path.{◌≡◌, refl, sym, ap, ◌∙◌}
use mathlib.Core.List.{List}
use native.Mathlib.Omega.{arith}
use lib.ListN.{length, get_or, set}
use Rattle.tables.specs.Lent.{Leaves}
use Rattle.tables.proofs.Cases.{by_order}
use Rattle.tables.proofs.Table.{is_table}
use Rattle.tables.proofs.Lent.{leaves_next, leaves_at}
use Rattle.hold.specs.Inner.{Dropped}

-- one byte more: it is read where nothing has changed yet
pub move_one : (d : List ℕ) (by k : ℕ) (e : List ℕ) → k < length d → Leaves d 0 k (λ i. get_or d (by + i) 0) e
    → Leaves d 0 (k + 1) (λ i. get_or d (by + i) 0) (set e k (get_or e (by + k) 0))
move_one d by k e room w = leaves_next d k _ e (get_or e (by + k) 0) room (w.high (by + k) (omega arith)) w

-- nothing is dropped
pub drop_none : (d : List ℕ) (by held : ℕ) → by ≡ 0 → Dropped d by held d
drop_none d by held none =
    record {
      long = refl;
      is = λ zeros.
          is_table (length d) (λ i. get_or d (by + i) 0) d refl (λ k h. let place : k ≡ by + k = omega arith in ap (λ (i : ℕ). get_or d i 0) place);
    }

-- what is left moves, and zeros follow
pub drop_some : (d : List ℕ) (by held : ℕ) (d₁ d₂ : List ℕ) → by ≤ held → Leaves d 0 (held - by) (λ i. get_or d (by + i) 0) d₁
    → Leaves d₁ (held - by) by (λ i. 0) d₂ → Dropped d by held d₂
drop_some d by held d₁ d₂ h moved zeros =
    record { long = long; is = λ none. is_table (length d) (λ i. get_or d (by + i) 0) d₂ long (λ k l. value none k) }
  where
    long : length d₂ ≡ length d
    long = zeros.long ∙ moved.long

    value : ((i : ℕ) → held ≤ i → get_or d i 0 ≡ 0) → (k : ℕ) → get_or d₂ k 0 ≡ get_or d (by + k) 0
    value none k =
        by_order k (held - by) (λ l. zeros.low k l ∙ leaves_at moved k l)
        (λ l.
        by_order k held
        (λ near.
        let place : k ≡ held - by + (k - (held - by)) = omega arith in
        ap (λ (i : ℕ). get_or d₂ i 0) place ∙ zeros.new (k - (held - by)) (omega arith) ∙ sym (none (by + k) (omega arith)))
        (λ far. zeros.high k (omega arith) ∙ moved.high k (omega arith) ∙ none k far ∙ sym (none (by + k) (omega arith))))
