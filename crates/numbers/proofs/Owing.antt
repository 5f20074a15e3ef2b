-- The numbers of a reader's call: the second is the frames owed, whatever was said.
-- Assumes nothing.
use Prim.Native.Nat.{ℕ}
use mathlib.Core.Path.{◌≡◌, sym, ap, subst}
use Rattle.refusals.specs.Said.{Said, answers, refusal}
use Rattle.numbers.specs.declared.Answer.{Answer}
use Rattle.numbers.specs.Numbers.{owing_numbers}

pub second_is : (owed : ℕ) (said : Said ℕ) {r : Answer} → r ≡ owing_numbers owed said → owed ≡ r.second
second_is owed (answers n) p = sym (ap (λ a. a.second) p)
second_is owed (refusal why) p = sym (ap (λ a. a.second) p)

-- so the numbers can be told from the second of them, and what is owed is
pub by_second : (owed : ℕ) (said : Said ℕ) {r : Answer} → r ≡ owing_numbers owed said → r ≡ owing_numbers r.second said
by_second owed said {r = r} p = subst (λ n. r ≡ owing_numbers n said) (second_is owed said p) p

pub owed_by_second : (such : ℕ → Type 0) (owed : ℕ) (said : Said ℕ) {r : Answer} → r ≡ owing_numbers owed said → such owed → such r.second
owed_by_second such owed said p = subst such (second_is owed said p)
