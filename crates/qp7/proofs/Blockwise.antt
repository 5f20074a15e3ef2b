-- The walk goes on with a block: a silent one closes a segment, another is read.
-- Assumes nothing.
use Prim.Native.Nat.{ℕ, ◌+◌, ◌*◌, ◌≤◌, ◌<◌, max}
use mathlib.Core.Path.{◌≡◌, refl, sym, ap, ◌∙◌, subst}
use mathlib.Core.List.{List}
use native.Mathlib.Omega.{arith}
use borrow.Author.Tests.{eq-eqb, ne_eqb}
use Rattle.tables.specs.Entries.{in_turn}
use Rattle.tables.specs.Inner.{Fronts}
use Rattle.blocks.specs.Places.{stream_at}
use Rattle.blocks.specs.Headers.{first_of, count_of}
use Rattle.refusals.specs.Said.{answers}
use Rattle.refusals.proofs.Said.{for_the_answer}
use Rattle.frames.specs.Start.{frames_start}
use Rattle.qp7.specs.declared.Segment.{Segment}
use Rattle.qp7.specs.declared.Totals.{Totals}
use Rattle.qp7.specs.declared.Walk.{Walk}
use Rattle.qp7.specs.Walk.{Gathered, raised, closing, reads, with_block}
use Rattle.qp7.specs.Outcome.{width, entry_of}
use Rattle.qp7.specs.Inner.{numbers_of, numbers_at, Near, RecordsHold, SegmentsHold, ReadsOn, Closes, GoesOn}
use Rattle.qp7.proofs.Standing.{stands_by}
use Rattle.qp7.proofs.Closing.{closing_records, closes_unwritten}
use Rattle.qp7.proofs.Reading.{same_segments}
use Rattle.std.specs.Prelude.{Result, Ok}
use Rattle.refusals.specs.declared.Refusal.{Refusal}

-- the read place of a walk was raised, and nothing else of it changed
abbrev pub Raised : Walk → ℕ → Walk → Type 0
Raised walk q r =
    (r.place.0 ≡ max walk.place.0 q) × (r.records ≡ walk.records) × (r.segments ≡ walk.segments) × (r.first ≡ walk.first)

-- where such a walk stands
pub raised_stands : (walk : Walk) (q : ℕ) (r : Walk) (g : Gathered) → walk ≡ numbers_of g → Raised walk q r → r ≡ numbers_of (raised q g)
raised_stands walk q r g e up =
    stands_by r (raised q g) (up.0 ∙ ap (λ (w : Walk). max w.place.0 q) e) (up.1 ∙ ap (λ (w : Walk). w.records) e)
    (up.2 ∙ ap (λ (w : Walk). w.segments) e) (up.3 ∙ ap (λ (w : Walk). w.first) e)

module _ (f : List ℕ) (a n b : ℕ) (g : Gathered) where
  -- a block that announces nothing
  pub silent_is : count_of f a b ≡ 0 → with_block f a n b g ≡ answers (raised (506 * (b + 1)) (closing g))
  unfolding with_block
  silent_is h = simp (eq-eqb (count_of f a b) 0 h)

  -- a block that announces something
  pub announcing_is : (count_of f a b ≡ 0 → ⊥)
      → with_block f a n b g ≡ reads (stream_at f a n) (506 * n) (count_of f a b) (raised (frames_start b (first_of f a b)) g)
  unfolding with_block
  announcing_is h = simp (ne_eqb (count_of f a b) 0 h)

  -- what a silent block leaves
  pub silent_goes_on : (most : Totals) (closed r : Walk) (records segments segments' : List ℕ) (count : ℕ) → count ≡ count_of f a b → count ≡ 0
      → Closes most.segments g segments segments' closed → Raised closed (506 * (b + 1)) r
      → GoesOn most g (with_block f a n b g) records records segments segments' (Ok r)
  silent_goes_on most closed r records segments segments' count is none c up =
      record {
        answer_is = ap answers (raised_stands closed (506 * (b + 1)) r (closing g) c.walk_is up) ∙ sym (ap numbers_at to);
        records_written = λ d g' e w.
            for_the_answer (λ (x : Gathered). RecordsHold most.records x d records) (sym to ∙ e) (kept d w);
        segments_written = λ d g' e w.
            for_the_answer (λ (x : Gathered). SegmentsHold most.segments x d segments') (sym to ∙ e) (c.written d w);
        untouched = λ p q. (refl, closes_unwritten c q);
      }
    where
      to : with_block f a n b g ≡ answers (raised (506 * (b + 1)) (closing g))
      to = silent_is (sym is ∙ none)

      kept : (d : List ℕ) → RecordsHold most.records g d records → RecordsHold most.records (closing g) d records
      kept d w = subst (λ (words : List ℕ). Fronts d (1 * most.records) words records) (sym (closing_records g)) w

  -- what another leaves
  pub announcing_goes_on : (most : Totals) (records records' segments : List ℕ) (count q : ℕ) (r : Result Walk Refusal) → count ≡ count_of f a b
      → (count ≡ 0 → ⊥) → q ≡ frames_start b (first_of f a b)
      → ReadsOn (stream_at f a n) (506 * n) count most.records (raised q g) records records' r
      → GoesOn most g (with_block f a n b g) records records' segments segments r
  announcing_goes_on most records records' segments count q r is some start on =
      record {
        answer_is = on.answer_is ∙ sym (ap numbers_at to);
        records_written = λ d g' e w. on.written d g' (sym to ∙ e) w;
        segments_written = λ d g' e w.
            subst (λ (x : List Segment). Fronts d (width * most.segments) (in_turn entry_of x) segments)
            (sym (same_segments (stream_at f a n) (506 * n) count (raised q g) g' (sym to ∙ e))) w;
        untouched = λ p z. (on.untouched p, refl);
      }
    where
      to : with_block f a n b g ≡ reads (stream_at f a n) (506 * n) count (raised q g)
      to = announcing_is (λ z. some (is ∙ z)) ∙ cc

-- the walk is near after a silent block
pub near_silent : (n b : ℕ) (walk closed r w : Walk) → b < n → Near n b walk
    → (closed.place.0 ≡ walk.place.0) × (closed.records ≡ walk.records) × (closed.segments ≤ walk.segments + 1)
    → Raised closed (506 * (b + 1)) r → answers r ≡ answers w → Near n (b + 1) w
near_silent n b walk closed r w h near c up e =
    for_the_answer (Near n (b + 1)) e
    (record {
      place_in = omega (arith, near.place_in, c.0, up.0);
      records_few = omega (arith, near.records_few, c.1, up.1);
      segments_few = omega (arith, near.segments_few, c.2, up.2);
    })

-- and after one that was read
pub near_read : (n b count q : ℕ) (walk r w : Walk) → count ≤ 255 → Near n b walk → Raised walk q r
    → (w.place.0 ≤ 506 * n) × (w.records ≡ r.records + count) × (w.segments ≡ r.segments) → Near n (b + 1) w
near_read n b count q walk r w few near up e =
    record {
      place_in = e.0;
      records_few = omega (arith, near.records_few, up.1, e.1);
      segments_few = omega (arith, near.segments_few, up.2, e.2);
    }
