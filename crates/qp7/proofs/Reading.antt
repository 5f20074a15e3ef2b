-- Records are read one after another: after some of them, what is left computes the rest.
-- Assumes nothing.
use Prim.Native.Nat.{ℕ, zero, suc, ◌+◌, ◌-◌, ◌≤◌, ◌<◌}
use mathlib.Core.Path.{◌≡◌, refl, sym, ap, ◌∙◌, subst}
use mathlib.Core.List.{List, [], ◌∷◌}
use native.Mathlib.Nat.{sub-zero}
use native.Mathlib.Omega.{arith}
use lib.ListN.{length, length-append}
use Rattle.tables.specs.Inner.{Puts}
use Rattle.tables.proofs.Entries.{fronts_more}
use Rattle.refusals.specs.declared.Refusal.{Refusal}
use Rattle.refusals.specs.Numbers.{in_numbers}
use Rattle.refusals.specs.Said.{Said, answers, onward, refusal}
use Rattle.refusals.proofs.Said.{not_both, went_on, for_the_answer}
use Rattle.qp7.specs.declared.Walk.{Walk}
use Rattle.qp7.specs.Records.{record_at}
use Rattle.qp7.specs.Walk.{Gathered, noted, reads}
use Rattle.qp7.specs.Inner.{numbers_of, numbers_at, RecordsHold, ReadsOn}
use Rattle.qp7.proofs.Standing.{stands_by}
use Rattle.std.specs.Prelude.{Ok, Err}

-- k of `count` records were read from g on, the last up to `place`: what was gathered, and what is left of it to be read
pub record Came (s : ℕ → ℕ) (long count most : ℕ) (g : Gathered) (records records' : List ℕ) (place k : ℕ) : Type 0 where
  pub here : Gathered
  pub left : reads s long count g ≡ reads s long (count - k) here
  pub place_is : here.place ≡ place
  pub many : length here.records ≡ length g.records + k
  pub closed_same : here.closed ≡ g.closed
  pub first_same : here.first ≡ g.first
  pub held : (d : List ℕ) → RecordsHold most g d records → RecordsHold most here d records'
  pub untouched : most ≡ 0 → records' ≡ records

-- no record is left to be read
reads_none : (s : ℕ → ℕ) (long n : ℕ) (g : Gathered) → n ≡ 0 → reads s long n g ≡ answers g
unfolding reads
reads_none s long n g none = rw none

-- at least one is
pub reads_more : (s : ℕ → ℕ) (long n m : ℕ) (g : Gathered) → n ≡ suc m
    → reads s long n g ≡ onward (record_at s long g.place) (λ size. reads s long m (noted size g))
unfolding reads
reads_more s long n m g some = rw some

-- what one record more keeps, the reading of any number keeps
pub reads_keep : {P : Gathered → Type 0} (s : ℕ → ℕ) (long : ℕ)
    → ((g : Gathered) (size : ℕ) → record_at s long g.place ≡ answers size → P g → P (noted size g))
    → (n : ℕ) (g g' : Gathered) → reads s long n g ≡ answers g' → P g → P g'
unfolding reads
reads_keep {P} s long kept zero g g' e p = for_the_answer P e p
reads_keep {P} s long kept (suc n) g g' e p =
    let w = went_on (record_at s long g.place) (λ size. reads s long n (noted size g)) e in
    reads_keep {P = P} s long kept n (noted w.0 g) g' w.2 (kept g w.0 w.1 p)

-- no segment is closed by it
pub same_segments : (s : ℕ → ℕ) (long n : ℕ) (g g' : Gathered) → reads s long n g ≡ answers g' → g'.closed ≡ g.closed
same_segments s long n g g' e =
    reads_keep {P = λ x. x.closed ≡ g.closed} s long (λ x size found same. same) n g g' e refl

module _ (s : ℕ → ℕ) (long count most : ℕ) (g : Gathered) (records : List ℕ) where
  -- before the first record
  pub reading_begins : (place : ℕ) → place ≡ g.place → Came s long count most g records records place 0
  reading_begins place is =
      record {
        here = g;
        left = ap (λ (n : ℕ). reads s long n g) (sym (sub-zero count));
        place_is = sym is;
        many = omega arith;
        closed_same = refl;
        first_same = refl;
        held = λ d w. w;
        untouched = λ none. refl;
      }

  module _ (records' : List ℕ) (place k : ℕ) (came : Came s long count most g records records' place k) where
    -- what is left, where one more record is to be read
    next_is : k < count → reads s long count g
        ≡ onward (record_at s long place) (λ size. reads s long (count - (k + 1)) (noted size came.here))
    next_is h =
        came.left
        ∙ reads_more s long (count - k) (count - (k + 1)) came.here (omega arith)
        ∙ ap (λ (q : ℕ). onward (record_at s long q) (λ size. reads s long (count - (k + 1)) (noted size came.here))) came.place_is

    -- one record more
    pub reading_goes_on : (size number : ℕ) (records'' : List ℕ) → k < count → answers size ≡ record_at s long place
        → number ≡ length g.records + k → Puts records' number most (place ∷ []) records''
        → Came s long count most g records records'' (place + size) (k + 1)
    reading_goes_on size number records'' h found is p =
        record {
          here = noted size at;
          left = next_is h ∙ ap (λ (said : Said ℕ). onward said (λ size. reads s long (count - (k + 1)) (noted size at))) (sym found);
          place_is = ap (λ (q : ℕ). q + size) came.place_is;
          many = omega (arith, length-append at.records (at.place ∷ []), came.many);
          closed_same = came.closed_same;
          first_same = came.first_same;
          held = λ d w. fronts_more 1 (length at.records) most at.records (at.place ∷ []) (omega arith) refl (came.held d w) entry;
          untouched = λ none. p.left_out (omega (arith, none)) ∙ came.untouched none;
        }
      where
        at : Gathered
        at = came.here

        there : Puts records' (length at.records) most (place ∷ []) records''
        there = subst (λ (n : ℕ). Puts records' n most (place ∷ []) records'') (is ∙ sym came.many) p

        entry : Puts records' (length at.records) most (at.place ∷ []) records''
        entry = subst (λ (q : ℕ). Puts records' (length at.records) most (q ∷ []) records'') (sym came.place_is) there

    -- a record that cannot be read
    pub reading_stops : (why : Refusal) → k < count → refusal (in_numbers why) ≡ record_at s long place
        → ReadsOn s long count most g records records' (Err why)
    reading_stops why h refused =
        record {
          answer_is = sym (ap numbers_at rest);
          written = λ d g' e w. absurd (not_both (sym rest ∙ e));
          untouched = came.untouched;
        }
      where
        rest : reads s long count g ≡ refusal (in_numbers why)
        rest = next_is h ∙ ap (λ (said : Said ℕ). onward said (λ size. reads s long (count - (k + 1)) (noted size came.here))) (sym refused)

    -- all records are read
    pub reading_ends : (walk : Walk) → k ≡ count → walk.place.0 ≡ place → walk.records ≡ length g.records + count
        → walk.segments ≡ length g.closed → walk.first ≡ g.first → ReadsOn s long count most g records records' (Ok walk)
    reading_ends walk all place_is many segments first =
        record {
          answer_is = ap answers stands ∙ sym (ap numbers_at rest);
          written = λ d g' e w. for_the_answer (λ (x : Gathered). RecordsHold most x d records') (sym rest ∙ e) (came.held d w);
          untouched = came.untouched;
        }
      where
        rest : reads s long count g ≡ answers came.here
        rest = came.left ∙ reads_none s long (count - k) came.here (omega (arith, all))

        stands : walk ≡ numbers_of came.here
        stands =
            stands_by walk came.here (place_is ∙ sym came.place_is) (omega (arith, many, all, came.many))
            (segments ∙ ap length (sym came.closed_same)) (first ∙ sym came.first_same)

-- where the walk is then
pub near_after : {long n m : ℕ} (v w : Walk) → answers v ≡ answers w → v.place.0 ≤ long → v.records ≡ n → v.segments ≡ m
    → (w.place.0 ≤ long) × (w.records ≡ n) × (w.segments ≡ m)
near_after {long} {n} {m} v w e place records segments =
    for_the_answer (λ (u : Walk). (u.place.0 ≤ long) × (u.records ≡ n) × (u.segments ≡ m)) e (place, records, segments)
