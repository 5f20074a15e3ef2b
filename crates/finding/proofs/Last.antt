-- The last entry that begins at or before a packet: it is that of the packet's block, and where the numbers cross the packet's.
-- Assumes nothing.
use Prim.Native.Nat.{ℕ, zero, suc, ◌+◌, ◌≤◌, ◌<◌}
use mathlib.Core.Path.{◌≡◌, refl, ap, ◌∙◌}
use mathlib.Core.List.{List, [], ◌∷◌, ◌++◌}
use mathlib.Core.Bool.{cond}
use native.Mathlib.Nat.{not-suc-le-zero}
use native.Mathlib.Numerals.{add-one}
use native.Mathlib.Omega.{arith}
use borrow.Author.Tests.{le-leb, lt-leb}
use lib.ListN.{length, get_or}
use lib.Dec.{leb}
use Rattle.tables.proofs.Cases.{by_order}
use Rattle.blocks.specs.Headers.{count_of, announced_in}
use Rattle.blocks.proofs.Headers.{announced_none, announced_more, announced_upto}
use Rattle.entries.specs.declared.Entry.{Entry}
use Rattle.entries.specs.Entries.{entry_of, entries_in}
use Rattle.entries.proofs.Entries.{entries_more, entries_same, entries_count, entry_there, each_stands}
use Rattle.finding.specs.Finding.{last_upto, last_in}

-- with one entry more at the end
last_more : (p : ℕ) (before : Entry) (xs : List Entry) (e : Entry)
    → last_upto p before (xs ++ (e ∷ [])) ≡ cond (leb e.first p) e (last_upto p before xs)
unfolding last_upto
last_more p before [] e = refl
last_more p before (x ∷ xs) e = last_more p (cond (leb x.first p) x before) xs e

-- entries that all begin after p change nothing
last_stays : (p : ℕ) (before none : Entry) (xs : List Entry) → ((i : ℕ) → i < length xs → p < (get_or xs i none).first)
    → last_upto p before xs ≡ before
unfolding last_upto
last_stays p before none [] after = refl
last_stays p before none (x ∷ xs) after =
    simp (lt-leb x.first p (after 0 (omega arith))) (last_stays p before none xs (λ i h. after (suc i) (omega arith)))

-- it is one that begins at or before p, where all after it begin after p
pub last_is : (p : ℕ) (before none : Entry) (xs : List Entry) (r : ℕ) → r < length xs → (get_or xs r none).first ≤ p
    → ((i : ℕ) → r < i → i < length xs → p < (get_or xs i none).first) → last_upto p before xs ≡ get_or xs r none
unfolding last_upto
last_is p before none [] r h begins after = absurd (not-suc-le-zero h)
last_is p before none (x ∷ xs) zero h begins after =
    simp (le-leb x.first p begins) (last_stays p x none xs (λ i l. after (suc i) (omega arith) (omega arith)))
last_is p before none (x ∷ xs) (suc r) h begins after =
    last_is p (cond (leb x.first p) x before) none xs r (omega arith) begins (λ i l m. after (suc i) (omega arith) (omega arith))

module _ (f : List ℕ) (a : ℕ) where
  -- the block that has a packet, and its entry
  pub record FoundAt (n p : ℕ) (entry : Entry) : Type 0 where
    pub block : ℕ
    pub there : block < n
    pub from : announced_in f a block ≤ p
    pub below : p < announced_in f a block + count_of f a block
    pub is : entry ≡ entry_of f a block

  pub found_at : (n p : ℕ) → p < announced_in f a n → FoundAt n p (last_in p (entries_in f a n))
  found_at zero p h = absurd (omega (arith, announced_none f a))
  found_at (suc n) p h =
      let more = announced_more f a n in
      let fewer : p < announced_in f a (n + 1) = rw (add-one n) h in
      rw (← add-one n)
      (by_order p (announced_in f a n)
      (λ l.
      let w = found_at n p l in
      record {
        block = w.block;
        there = omega (arith, w.there);
        from = w.from;
        below = w.below;
        is =
            by_order 0 (count_of f a n)
            (λ some. ap (last_in p) (entries_more f a n some) ∙ last_more p _ (entries_in f a n) (entry_of f a n) ∙ simp (lt-leb (announced_in f a n) p l) w.is)
            (λ none. ap (last_in p) (entries_same f a n none) ∙ w.is);
      })
      (λ l.
      record {
        block = n;
        there = omega arith;
        from = l;
        below = omega (arith, more);
        is =
            ap (last_in p) (entries_more f a n (omega (arith, more)))
            ∙ last_more p _ (entries_in f a n) (entry_of f a n)
            ∙ simp (le-leb (announced_in f a n) p l);
      }))

  module _ (n : ℕ) (none : Entry) where
    abbrev entries : List Entry
    entries = entries_in f a n

    -- no entry begins before one that stands before it
    pub entries_rise : (i j : ℕ) → i ≤ j → j < length entries → (get_or entries i none).first ≤ (get_or entries j none).first
    entries_rise i j l h =
        let one = each_stands f a n none i (omega arith) in
        let other = each_stands f a n none j h in
        let order : one.of.block ≤ other.of.block =
        by_order other.of.block one.of.block
        (λ back.
        let more = (entry_there f a other.of.block one.of.block none back other.of.announces).0 in
        absurd (omega (arith, more, one.number, other.number)))
        (λ on. on) in
        omega (
          arith,
          ap (λ (e : Entry). e.first) one.of.is,
          ap (λ (e : Entry). e.first) other.of.is,
          announced_upto f a one.of.block other.of.block order,
        )

  -- where there are packets there is an entry, and the first begins with packet 0
  pub entries_some : (n : ℕ) → 0 < announced_in f a n → 0 < length (entries_in f a n)
  entries_some zero h = absurd (omega (arith, announced_none f a))
  entries_some (suc n) h =
      let here : 0 < announced_in f a (n + 1) = rw (add-one n) h in
      rw (← add-one n)
      (by_order 0 (announced_in f a n) (λ l. omega (arith, entries_some n l, entries_count f a n))
      (λ l. omega (arith, announced_more f a n, entries_count f a n)))

  pub first_begins : (n : ℕ) (none : Entry) → 0 < length (entries_in f a n) → (get_or (entries_in f a n) 0 none).first ≡ 0
  first_begins n none h =
      let o = each_stands f a n none 0 h in
      ap (λ (e : Entry). e.first) o.of.is
      ∙ by_order 0 (announced_in f a o.of.block) (λ some. absurd (omega (arith, entries_some o.of.block some, o.number))) (λ zero. omega arith)
