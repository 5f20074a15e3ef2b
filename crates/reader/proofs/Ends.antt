-- The ends of a reader: what the strict end says, step by step; what an end says by which of the two is meant; what is owed.
-- Assumes nothing.
use Prim.Native.Nat.{ℕ, ◌+◌, ◌-◌, ◌%◌, ◌≤◌, min}
use mathlib.Core.Path.{◌≡◌, sym, ◌∙◌, subst}
use mathlib.Core.Bool.{true, false, not, cond}
use native.Mathlib.Omega.{arith}
use borrow.Author.Tests.{eq-eqb, ne_eqb, eqb-true}
use lib.Dec.{eqb}
use Rattle.tables.proofs.Cases.{by_test, by_equal}
use Rattle.blocks.specs.Places.{limit}
use Rattle.refusals.specs.Said.{Said, answers, refuses, demand}
use Rattle.refusals.proofs.Said.{not_both, passed}
use Rattle.reader.specs.declared.Reader.{Reader}
use Rattle.reader.specs.State.{State, is_kind, owed, reader_of, header_full, Reached}
use Rattle.reader.specs.Calls.{in_block, strict_by, lenient_by, strict, lenient, end_by}

-- no more packets are handed out than are announced
pub reached_among : {r : Reader} → Reached r → r.ready + r.drained ≤ r.announced
reached_among v = subst (λ (r : Reader). r.ready + r.drained ≤ r.announced) (sym v.is) v.sound.among

pub reached_kind : {r : Reader} → Reached r → is_kind r.kind ≡ true
reached_kind v = subst (λ (r : Reader). is_kind r.kind ≡ true) (sym v.is) v.sound.kind_is

pub reached_small : {r : Reader} → Reached r → r.taken ≤ limit
reached_small v = subst (λ (r : Reader). r.taken ≤ limit) (sym v.is) v.sound.small

pub owed_is : (s : State) (r : Reader) → r ≡ reader_of s → r.announced - r.ready - r.drained ≡ owed s
owed_is s r is = rw is (omega arith)

module _ (phase a long owed : ℕ) where
  pub strict_drains : phase ≡ 1 → strict_by phase a long owed ≡ refuses 6 0
  unfolding strict_by
  strict_drains drains = simp (eq-eqb phase 1 drains)

  module _ (takes : phase ≡ 1 → ⊥) where
    pub strict_ended : phase ≡ 2 → strict_by phase a long owed ≡ answers 0
    unfolding strict_by
    strict_ended ended = simp (ne_eqb phase 1 takes, eq-eqb phase 2 ended)

    module _ (not-ended : phase ≡ 2 → ⊥) where
      pub strict_cut : header_full a long ≡ false → strict_by phase a long owed ≡ refuses 3 a
      unfolding strict_by
      strict_cut cut = simp (ne_eqb phase 1 takes, ne_eqb phase 2 not-ended, cut)

      module _ (full : header_full a long ≡ true) (past : ℕ) (is : past ≡ long - a) where
        pub strict_inside : (past % 512 ≡ 0 → ⊥) → strict_by phase a long owed ≡ refuses 13 (past % 512)
        unfolding strict_by
        strict_inside inside = simp (ne_eqb phase 1 takes, ne_eqb phase 2 not-ended, full, ← is, ne_eqb (past % 512) 0 inside)

        module _ (whole : past % 512 ≡ 0) where
          pub strict_owes : (owed ≡ 0 → ⊥) → strict_by phase a long owed ≡ refuses 14 owed
          unfolding strict_by
          strict_owes owes =
              simp (ne_eqb phase 1 takes, ne_eqb phase 2 not-ended, full, ← is, eq-eqb (past % 512) 0 whole, ne_eqb owed 0 owes)

          pub strict_ends : owed ≡ 0 → strict_by phase a long owed ≡ answers 0
          unfolding strict_by
          strict_ends none = simp (ne_eqb phase 1 takes, ne_eqb phase 2 not-ended, full, ← is, eq-eqb (past % 512) 0 whole, eq-eqb owed 0 none)

-- who was not refused is answered no packets, and had ended already, or has a full header and whole blocks and owes nothing
pub strict_passed : {X : Type 0} (phase a long owed n : ℕ) → strict_by phase a long owed ≡ answers n → (n ≡ 0 → phase ≡ 2 → X)
    → (n ≡ 0 → header_full a long ≡ true → in_block a long ≡ 0 → owed ≡ 0 → X) → X
unfolding strict_by
strict_passed phase a long owed n said ended ends =
    let takes = passed (not (eqb phase 1)) 6 0 (cond (eqb phase 2) (answers 0) header) said in
    by_test (eqb phase 2) (λ e. let none : n ≡ 0 = cc (rw e at takes.1) in ended none (eqb-true phase 2 e))
    (λ e.
    let full = passed (header_full a long) 3 a inside (rw e at takes.1) in
    let whole = passed (eqb (in_block a long) 0) 13 (in_block a long) owing full.1 in
    let nothing = passed (eqb owed 0) 14 owed (answers 0) whole.1 in
    let none : n ≡ 0 = cc nothing.1 in
    ends none full.0 (eqb-true (in_block a long) 0 whole.0) (eqb-true owed 0 nothing.0))
  where
    owing : Said ℕ
    owing = demand (eqb owed 0) 14 owed (answers 0)

    inside : Said ℕ
    inside = demand (eqb (in_block a long) 0) 13 (in_block a long) owing

    header : Said ℕ
    header = demand (header_full a long) 3 a inside

-- what the lenient end says
module _ (a long owed room : ℕ) where
  pub lenient_cut : header_full a long ≡ false → lenient_by a long owed room ≡ refuses 3 a
  unfolding lenient_by
  lenient_cut cut = simp cut

  pub lenient_ends : header_full a long ≡ true → lenient_by a long owed room ≡ answers (min room owed)
  unfolding lenient_by
  lenient_ends full = simp full

-- which of the two ends is meant, if either
pub by_choice : {X : Type 0} (choice : ℕ) → (choice ≡ strict → X) → (choice ≡ lenient → X)
    → ((choice ≡ strict → ⊥) → (choice ≡ lenient → ⊥) → X) → X
by_choice choice strictly leniently neither =
    by_equal choice strict strictly (λ not-strict. by_equal choice lenient leniently (λ not-lenient. neither not-strict not-lenient))

-- what an end says, by that
module _ (choice phase a long owed room : ℕ) where
  pub chosen_strict : choice ≡ strict → end_by choice phase a long owed room ≡ strict_by phase a long owed
  chosen_strict is = simp (eq-eqb choice strict is)

  pub chosen_lenient : choice ≡ lenient → end_by choice phase a long owed room ≡ lenient_by a long owed room
  chosen_lenient is = simp (ne_eqb choice strict (λ e. omega arith), eq-eqb choice lenient is)

  pub chosen_neither : (choice ≡ strict → ⊥) → (choice ≡ lenient → ⊥) → end_by choice phase a long owed room ≡ refuses 22 0
  chosen_neither not-strict not-lenient = simp (ne_eqb choice strict not-strict, ne_eqb choice lenient not-lenient)

  -- and by that, what is known of one that was not refused
  pub end_passed : {X : Type 0} {n : ℕ} → end_by choice phase a long owed room ≡ answers n
      → (choice ≡ strict → strict_by phase a long owed ≡ answers n → X)
      → (choice ≡ lenient → header_full a long ≡ true → min room owed ≡ n → X) → X
  unfolding lenient_by
  end_passed said strictly leniently =
      by_choice choice (λ is. strictly is (sym (chosen_strict is) ∙ said))
      (λ is.
      let full = passed (header_full a long) 3 a (answers (min room owed)) (sym (chosen_lenient is) ∙ said) in
      leniently is full.0 (cc full.1))
      (λ not-strict not-lenient. absurd (not_both (sym (chosen_neither not-strict not-lenient) ∙ said)))
