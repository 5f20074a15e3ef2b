-- The walk over the blocks: after some of them it stands for what they gather, and the tables hold that.
-- Assumes nothing.
use Prim.Native.Nat.{ℕ, zero, suc, ◌+◌, ◌*◌, ◌≤◌, ◌<◌}
use mathlib.Core.Path.{◌≡◌, refl, sym, ap, ◌∙◌, subst}
use mathlib.Core.List.{List}
use native.Mathlib.Numerals.{add-one}
use native.Mathlib.Omega.{arith}
use Rattle.tables.specs.Inner.{Fronts}
use Rattle.tables.proofs.Cases.{by_order}
use Rattle.refusals.specs.declared.Numbers.{Numbers}
use Rattle.refusals.specs.Numbers.{in_numbers}
use Rattle.refusals.specs.Said.{Said, answers, refusal, onward, result_says}
use Rattle.refusals.proofs.Said.{not_both, went_on, for_the_answer}
use Rattle.whole.specs.declared.Recording.{Recording}
use Rattle.qp7.specs.declared.Totals.{Totals}
use Rattle.qp7.specs.declared.Walk.{Walk}
use Rattle.qp7.specs.Walk.{Gathered, nothing, closing, with_block, gathered_to, gathered_from}
use Rattle.qp7.specs.Inner.{numbers_of, numbers_at, Near, RecordsHold, SegmentsHold, Closes, GoesOn}
use Rattle.qp7.proofs.Closing.{closing_records, closes_unwritten}
use Rattle.std.specs.Prelude.{Result, Ok, Err}
use Rattle.refusals.specs.declared.Refusal.{Refusal}

-- one block more
pub gathered_more : (f : List ℕ) (a n b : ℕ) → gathered_to f a n (b + 1) ≡ onward (gathered_to f a n b) (with_block f a n b)
unfolding gathered_to
gathered_more f a n b = ap (gathered_to f a n) (add-one b)

-- a refusal at a block stays
gathered_stays : (f : List ℕ) (a n b m : ℕ) {why : Numbers} → b ≤ m → gathered_to f a n b ≡ refusal why
    → gathered_to f a n m ≡ refusal why
unfolding gathered_to
gathered_stays f a n b zero h e = let none : b ≡ 0 = omega arith in ap (gathered_to f a n) (sym none) ∙ e
gathered_stays f a n b (suc m) h e =
    by_order m b (λ l. let all : suc m ≡ b = omega arith in ap (gathered_to f a n) all ∙ e)
    (λ l. ap (λ (said : Said Gathered). onward said (with_block f a n m)) (gathered_stays f a n b m l e))

-- what the first b blocks of a recording gather, and what block b makes of that
abbrev pub up_to : List ℕ → Recording → ℕ → Said Gathered
up_to f rec b = gathered_to f rec.start.0 rec.blocks b

abbrev pub gone_on : List ℕ → Recording → ℕ → Gathered → Said Gathered
gone_on f rec b g = with_block f rec.start.0 rec.blocks b g

-- the walk over the first b blocks: what it has gathered, and what the tables hold of it
pub record Gathers (f : List ℕ) (rec : Recording) (most : Totals) (records records' segments segments' : List ℕ) (walk : Walk) (b : ℕ) : Type 0 where
  pub here : Gathered
  pub so_far : up_to f rec b ≡ answers here
  pub stands : walk ≡ numbers_of here
  pub near : Near rec.blocks b walk
  pub records_held : (d : List ℕ) → RecordsHold most.records nothing d records → RecordsHold most.records here d records'
  pub segments_held : (d : List ℕ) → SegmentsHold most.segments nothing d segments → SegmentsHold most.segments here d segments'
  pub untouched : most.records ≡ 0 → most.segments ≡ 0 → (records' ≡ records) × (segments' ≡ segments)

-- where what is gathered stands
pub stands_answered : (said : Said Gathered) (walk : Walk) → answers walk ≡ numbers_at said
    → (g : Gathered) × (said ≡ answers g) × (walk ≡ numbers_of g)
stands_answered said walk e =
    let w = went_on said (λ g. answers (numbers_of g)) (sym e) in
    (w.0, w.1, for_the_answer (λ (v : Walk). v ≡ numbers_of w.0) w.2 refl)

pub stands_refused : (said : Said Gathered) {why : Numbers} → refusal why ≡ numbers_at said → said ≡ refusal why
stands_refused (answers g) e = absurd (not_both e)
stands_refused (refusal why) e = cc

-- all blocks, and their end
pub gathered_from_lem : (f : List ℕ) (rec : Recording)
    → gathered_from f rec ≡ onward (up_to f rec rec.blocks) (λ g. answers (closing g))
unfolding gathered_from
gathered_from_lem f rec = refl

module _ (f : List ℕ) (rec : Recording) (most : Totals) (records segments : List ℕ) where
  -- before the first block
  pub gathering_begins : Gathers f rec most records records segments segments (numbers_of nothing) 0
  unfolding gathered_to
  gathering_begins =
      record {
        here = nothing;
        so_far = refl;
        stands = refl;
        near = record { place_in = omega arith; records_few = omega arith; segments_few = omega arith };
        records_held = λ d w. w;
        segments_held = λ d w. w;
        untouched = λ p q. (refl, refl);
      }

  module _ (records' segments' : List ℕ) (walk : Walk) (b : ℕ)
      (so : Gathers f rec most records records' segments segments' walk b) where
    -- what the next block gathers
    next_is : up_to f rec (b + 1) ≡ gone_on f rec b so.here
    next_is =
        gathered_more f rec.start.0 rec.blocks b
        ∙ ap (λ (said : Said Gathered). onward said (gone_on f rec b)) so.so_far

    module _ (records'' segments'' : List ℕ) (came : Result Walk Refusal)
        (on : (g : Gathered) → walk ≡ numbers_of g → GoesOn most g (gone_on f rec b g) records' records'' segments' segments'' came) where
      -- one block more
      pub gathering_goes_on : (next : Walk) → came ≡ Ok next → ((w : Walk) → result_says came ≡ answers w → Near rec.blocks (b + 1) w)
          → Gathers f rec most records records'' segments segments'' next (b + 1)
      gathering_goes_on next is near =
          record {
            here = there.0;
            so_far = next_is ∙ there.1;
            stands = there.2;
            near = near next (ap result_says is);
            records_held = λ d w. step.records_written d there.0 there.1 (so.records_held d w);
            segments_held = λ d w. step.segments_written d there.0 there.1 (so.segments_held d w);
            untouched = λ p q. ((step.untouched p q).0 ∙ (so.untouched p q).0, (step.untouched p q).1 ∙ (so.untouched p q).1);
          }
        where
          step : GoesOn most so.here (gone_on f rec b so.here) records' records'' segments' segments'' came
          step = on so.here so.stands

          there : (g : Gathered) × (gone_on f rec b so.here ≡ answers g) × (next ≡ numbers_of g)
          there = stands_answered (gone_on f rec b so.here) next (ap result_says (sym is) ∙ step.answer_is)

      -- a block that is refused
      pub gathering_stops : (why : Refusal) → came ≡ Err why → b < rec.blocks
          → GoesOn most nothing (gathered_from f rec) records records'' segments segments'' (Err why)
      gathering_stops why is h =
          record {
            answer_is = sym (ap numbers_at to);
            records_written = λ d g' e w. absurd (not_both (sym to ∙ e));
            segments_written = λ d g' e w. absurd (not_both (sym to ∙ e));
            untouched = λ p q. ((step.untouched p q).0 ∙ (so.untouched p q).0, (step.untouched p q).1 ∙ (so.untouched p q).1);
          }
        where
          step : GoesOn most so.here (gone_on f rec b so.here) records' records'' segments' segments'' came
          step = on so.here so.stands

          refused : up_to f rec (b + 1) ≡ refusal (in_numbers why)
          refused = next_is ∙ stands_refused (gone_on f rec b so.here) (ap result_says (sym is) ∙ step.answer_is)

          all : up_to f rec rec.blocks ≡ refusal (in_numbers why)
          all = gathered_stays f rec.start.0 rec.blocks (b + 1) rec.blocks (omega arith) refused

          to : gathered_from f rec ≡ refusal (in_numbers why)
          to = gathered_from_lem f rec ∙ ap (λ (said : Said Gathered). onward said (λ g. answers (closing g))) all

    -- all blocks, and the last segment closed
    pub gathering_ends : (segments'' : List ℕ) (r : Walk) → rec.blocks ≡ b
        → ((g : Gathered) → walk ≡ numbers_of g → Closes most.segments g segments' segments'' r)
        → GoesOn most nothing (gathered_from f rec) records records' segments segments'' (Ok r)
    gathering_ends segments'' r done on =
        record {
          answer_is = ap answers last.walk_is ∙ sym (ap numbers_at to);
          records_written = λ d g' e w.
              for_the_answer (λ (x : Gathered). RecordsHold most.records x d records') (sym to ∙ e)
              (subst (λ (words : List ℕ). Fronts d (1 * most.records) words records') (sym (closing_records so.here)) (so.records_held d w));
          segments_written = λ d g' e w.
              for_the_answer (λ (x : Gathered). SegmentsHold most.segments x d segments'') (sym to ∙ e) (last.written d (so.segments_held d w));
          untouched = λ p q. ((so.untouched p q).0, closes_unwritten last q ∙ (so.untouched p q).1);
        }
      where
        last : Closes most.segments so.here segments' segments'' r
        last = on so.here so.stands

        all : up_to f rec rec.blocks ≡ answers so.here
        all = ap (up_to f rec) done ∙ so.so_far

        to : gathered_from f rec ≡ answers (closing so.here)
        to = gathered_from_lem f rec ∙ ap (λ (said : Said Gathered). onward said (λ g. answers (closing g))) all
