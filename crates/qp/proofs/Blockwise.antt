-- Segments gathered block by block: what holds after b blocks, how the next block goes on from there, and what holds at the end.
-- Assumes nothing.
use Prim.Native.Nat.{ℕ, zero, suc, ◌+◌, ◌*◌, ◌≤◌, ◌<◌}
use mathlib.Core.Path.{◌≡◌, refl, sym, ap, ◌∙◌, subst}
use mathlib.Core.List.{List}
use native.Mathlib.Omega.{arith}
use native.Mathlib.Numerals.{add-one}
use borrow.Author.Tests.{ne_eqb}
use lib.ListN.{length}
use Rattle.tables.proofs.Cases.{by_equal}
use Rattle.tables.proofs.Entries.{fronts_begin}
use Rattle.blocks.specs.Headers.{first_of, count_of}
use Rattle.frames.specs.Start.{frames_start}
use Rattle.qp.specs.declared.Gathering.{Gathering}
use Rattle.qp.specs.Segments.{Gathered, nothing, closed, moved, arrived, counted, gathered_to}
use Rattle.qp.specs.Outcome.{width, entry_of}
use Rattle.qp.specs.Inner.{numbers_of, Near, Holds, Closes, Moves}
use Rattle.qp.proofs.Gathers.{near_within}

-- before the first block nothing is gathered, so that block 0 arrives like any other
moved_first : (long q : ℕ) → moved long q nothing ≡ arrived long 0 q nothing
unfolding moved closed
moved_first long q = by_equal q 0 (λ e. simp e) (λ e. simp (ne_eqb q 0 e))

pub moved_is_arrived : (f : List ℕ) (a n b long q : ℕ) → moved long q (gathered_to f a n b) ≡ arrived long b q (gathered_to f a n b)
unfolding gathered_to
moved_is_arrived f a n zero long q = moved_first long q
moved_is_arrived f a n (suc b) long q = refl

-- one block more
pub gathered_more : (f : List ℕ) (a n b : ℕ)
    → gathered_to f a n (b + 1) ≡ counted (count_of f a b) (moved (506 * n) (frames_start b (first_of f a b)) (gathered_to f a n b))
unfolding gathered_to
gathered_more f a n b =
    ap (gathered_to f a n) (add-one b)
    ∙ ap (counted (count_of f a b)) (sym (moved_is_arrived f a n b (506 * n) (frames_start b (first_of f a b))))

pub gathered_none : (f : List ℕ) (a n : ℕ) → gathered_to f a n 0 ≡ nothing
unfolding gathered_to
gathered_none f a n = refl

-- after b blocks
pub record Blockwise (f : List ℕ) (a n most : ℕ) (table₀ : List ℕ) (b : ℕ) (gathering : Gathering) (table : List ℕ) : Type 0 where
  pub below : b ≤ n
  pub is : gathering ≡ numbers_of (gathered_to f a n b)
  pub near : Near (506 * n) (255 * b) b gathering
  pub holds : Holds most (gathered_to f a n b).kept table₀ table

module _ (f : List ℕ) (a n most : ℕ) (table₀ : List ℕ) where
  pub blocks_begin : Blockwise f a n most table₀ 0 (numbers_of nothing) table₀
  blocks_begin =
      record {
        below = omega arith;
        is = ap numbers_of (sym (gathered_none f a n));
        near = record { start_in = omega arith; place_is = omega arith; frames_few = omega arith; kept_few = omega arith };
        holds = subst (λ (g : Gathered). Holds most g.kept table₀ table₀) (sym (gathered_none f a n)) (fronts_begin entry_of table₀ (width * most));
      }

  pub blocks_go_on : (b q count : ℕ) (gathering next : Gathering) (table table' : List ℕ) (came : Gathering) → b < n
      → Blockwise f a n most table₀ b gathering table → q ≡ frames_start b (first_of f a b) → count ≡ count_of f a b → count ≤ 255
      → Moves (506 * n) q most (gathered_to f a n b) table table' came
      → next ≡ numbers_of (counted count (moved (506 * n) q (gathered_to f a n b))) → Near (506 * n) (255 * b + count) (b + 1) next
      → Blockwise f a n most table₀ (b + 1) next table'
  blocks_go_on b q count gathering next table table' came inside w at is few m next_is near =
      let same : counted count (moved (506 * n) q (gathered_to f a n b)) ≡ gathered_to f a n (b + 1) =
      ap (λ (x : ℕ). counted x (moved (506 * n) q (gathered_to f a n b))) is
      ∙ ap (λ (x : ℕ). counted (count_of f a b) (moved (506 * n) x (gathered_to f a n b))) at
      ∙ sym (gathered_more f a n b) in
      record {
        below = omega arith;
        is = next_is ∙ ap numbers_of same;
        near = near_within (506 * n) (255 * b + count) (b + 1) next near (255 * (b + 1)) (b + 1) (omega arith) (omega arith);
        holds = subst (λ (g : Gathered). Holds most g.kept table₀ table') same (m.written table₀ w.holds);
      }

  -- the end of the blocks closes the last segment
  pub blocks_end : (b kept : ℕ) (gathering : Gathering) (table table' : List ℕ) → n ≤ b → Blockwise f a n most table₀ b gathering table
      → Closes (506 * n) most (gathered_to f a n b) table table' kept
      → (kept ≡ length (closed (506 * n) (gathered_to f a n n))) × Holds most (closed (506 * n) (gathered_to f a n n)) table₀ table'
  blocks_end b kept gathering table table' done w c =
      let all : b ≡ n = omega (arith, w.below) in
      subst (λ (x : ℕ). (kept ≡ length (closed (506 * n) (gathered_to f a n x))) × Holds most (closed (506 * n) (gathered_to f a n x)) table₀ table') all
      (c.kept_is, c.written table₀ w.holds)
