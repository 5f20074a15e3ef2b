-- The ways of the QP call: it refuses and leaves everything, or has room and writes.
-- Assumes nothing.
use Prim.Native.Nat.{ℕ, ◌+◌, ◌*◌, ◌/◌, ◌≤◌, ◌<◌}
use mathlib.Core.Path.{◌≡◌, refl, sym, ap, ◌∙◌}
use mathlib.Core.List.{List}
use mathlib.Core.Bool.{true, false, cond}
use mathlib.Core.Logic.{◌⊎◌, inl, inr, ⊎_elim}
use native.Mathlib.Omega.{arith}
use borrow.Author.Tests.{le-leb, lt-leb, leb-true, le-ltb, lt-ltb}
use lib.ListN.{length}
use lib.Dec.{leb, ltb}
use Rattle.tables.specs.Entries.{fronted}
use Rattle.tables.proofs.Cases.{by_order}
use Rattle.tables.proofs.Entries.{in_turn_long, fronts_all, fronts_nothing}
use Rattle.refusals.specs.Said.{Said, answers, refusal, result_says}
use Rattle.refusals.proofs.Said.{went_on, asked_of}
use Rattle.whole.specs.declared.Recording.{Recording}
use Rattle.detect.specs.declared.Kind.TheVariants.{Qp}
use Rattle.whole.specs.Admissions.{announced_by, ds2_admission}
use Rattle.qp.specs.declared.Totals.{Totals}
use Rattle.qp.specs.Segments.{Reading, reading_of, segments_from, qp_reading}
use Rattle.qp.specs.Outcome.{width, entry_of, words, in_room, in_table, totals_of, Demuxes}
use Rattle.qp.specs.Inner.{Holds}
use Rattle.std.specs.Prelude.{Result, Ok, Err}
use Rattle.refusals.specs.declared.Refusal.{Refusal}
use Rattle.refusals.specs.Numbers.{in_numbers}
use Rattle.refusals.specs.declared.Refusal.TheVariants.{Segments}
use Rattle.refusals.proofs.Results.{only_result}

-- the entries that are written at once, which are all that can be or none, and the rest
module _ (f : List ℕ) (rec : Recording) (room written needed : ℕ) (is : needed ≡ length (segments_from f rec)) (table between : List ℕ)
    (roomy : room ≡ length table / width) (at_once : written ≡ cond (ltb rec.blocks room) room 0) (few : needed ≤ rec.blocks + 1)
    (first : Holds written (segments_from f rec) table between) where
  -- where not all were written at once, none was
  none_yet : (room < needed) ⊎ (written < needed) → written ≡ 0
  none_yet short =
      by_order rec.blocks room
      (λ h. let all : written ≡ room = at_once ∙ simp (lt-ltb rec.blocks room h) in absurd (⊎_elim (λ l. omega arith) (λ l. omega (arith, all)) short))
      (λ h. at_once ∙ simp (le-ltb rec.blocks room h))

  unwritten : written ≡ 0 → between ≡ table
  unwritten none = fronts_nothing (width * written) (words (segments_from f rec)) (omega (arith, none)) first

  pub no_room : room < needed → Demuxes (answers (reading_of f rec)) table between (Err (Segments needed))
  unfolding in_room
  no_room full =
      let over : leb (length (segments_from f rec)) (length table / width) ≡ false = lt-leb (length (segments_from f rec)) (length table / width) (omega (arith, full, is, roomy)) in
      record { answer_is = simp (over, is); table_is = simp over (unwritten (none_yet (inl full))) }

  pub with_room : (announced : ℕ) (table' : List ℕ) → announced ≡ announced_by f rec → needed ≤ room → (needed ≤ written → table' ≡ between)
      → (written < needed → Holds needed (segments_from f rec) between table')
      → Demuxes (answers (reading_of f rec)) table table' (Ok (record { segments = needed; announced = announced }))
  unfolding in_room
  with_room announced table' sum fits kept rest =
      let can : leb (length (segments_from f rec)) (length table / width) ≡ true = le-leb (length (segments_from f rec)) (length table / width) (omega (arith, fits, is, roomy)) in
      record { answer_is = simp (can, is, sum); table_is = simp can all }
    where
      many : length (words (segments_from f rec)) ≡ width * needed
      many = in_turn_long entry_of width (λ x. refl) (segments_from f rec) ∙ omega (arith, is)

      all : table' ≡ fronted (words (segments_from f rec)) table
      all =
          by_order written needed
          (λ h.
          fronts_all (width * needed) (words (segments_from f rec)) (omega (arith, many)) (rest h)
          ∙ ap (fronted (words (segments_from f rec))) (unwritten (none_yet (inr h))))
          (λ h. kept h ∙ fronts_all (width * written) (words (segments_from f rec)) (omega (arith, many)) first)

-- what was admitted: a refusal is passed on, and a recording goes on to be read
module _ (f : List ℕ) (table : List ℕ) where
  pub not_taken : (why : Refusal) → refusal (in_numbers why) ≡ ds2_admission f Qp
      → Demuxes (qp_reading f) table table (Err why)
  unfolding qp_reading in_room
  not_taken why e = rw (← e) (record { answer_is = refl; table_is = refl })

  pub taken : (rec : Recording) (table' : List ℕ) (answer : Result Totals Refusal) → answers rec ≡ ds2_admission f Qp
      → Demuxes (answers (reading_of f rec)) table table' answer → Demuxes (qp_reading f) table table' answer
  unfolding qp_reading
  taken rec table' answer e d = rw (← e) d

-- what is seen of an outcome
abbrev pub Seen : Type 0
Seen = Result Totals Refusal × List ℕ

pub only_outcome : {reading : Said Reading} {table one' other' : List ℕ} {one other : Result Totals Refusal} → Demuxes reading table one' one
    → Demuxes reading table other' other → ◌≡◌ {A = Seen} (one, one') (other, other')
only_outcome {reading} {table} {one'} {other'} {one} {other} d e =
    let answer : one ≡ other = only_result one other _ d.answer_is e.answer_is in
    cc (answer, d.table_is, e.table_is)

-- what an accepted call has read
pub accepted_read : (reading : Said Reading) (table table' : List ℕ) (answer : Result Totals Refusal) → Demuxes reading table table' answer
    → (totals : Totals) → result_says answer ≡ answers totals
    → (r : Reading) × (reading ≡ answers r) × (totals_of r ≡ totals) × (length r.segments ≤ length table / width)
    × (in_table reading table ≡ answers r)
unfolding in_room
accepted_read reading table table' answer d totals e =
    let w = went_on (in_table reading table) (λ r. answers (totals_of r)) (sym d.answer_is ∙ e) in
    let v = asked_of reading (λ r. leb (length r.segments) (length table / width)) 9 (λ r. length r.segments) w.0 w.1 in
    let many : totals_of w.0 ≡ totals = cc in
    (w.0, v.0, many, leb-true (length w.0.segments) (length table / width) v.1, w.1)
