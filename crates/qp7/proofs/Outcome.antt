-- The ways of the QP7 call: it refuses and leaves everything, or has room and writes both tables.
-- Assumes nothing.
use Prim.Native.Nat.{ℕ, ◌*◌, ◌/◌, ◌≤◌, ◌<◌}
use mathlib.Core.Path.{◌≡◌, refl, sym, ap, ◌∙◌, subst}
use mathlib.Core.List.{List}
use native.Mathlib.Omega.{arith}
use borrow.Author.Tests.{le-leb, lt-leb, leb-true}
use lib.ListN.{length}
use lib.Dec.{leb}
use Rattle.tables.specs.Entries.{fronted}
use Rattle.tables.proofs.Entries.{in_turn_long, fronts_none, fronts_begin, fronts_all}
use Rattle.refusals.specs.Said.{Said, answers, refuses, refusal, demand, result_says}
use Rattle.refusals.proofs.Said.{passed, went_on, for_the_answer}
use Rattle.whole.specs.declared.Recording.{Recording}
use Rattle.detect.specs.declared.Kind.TheVariants.{Qp7}
use Rattle.whole.specs.Admissions.{ds2_admission}
use Rattle.qp7.specs.declared.Totals.{Totals}
use Rattle.qp7.specs.declared.Walk.{Walk}
use Rattle.qp7.specs.Walk.{Gathered, nothing, gathered_from, qp7_reading}
use Rattle.qp7.specs.Outcome.{width, entry_of, record_words, segment_words, in_room, in_tables, totals_of, answered, records_after, segments_after, Demuxes}
use Rattle.qp7.specs.Inner.{numbers_at, GoesOn}
use Rattle.qp7.proofs.Gathering.{stands_answered, stands_refused}
use Rattle.std.specs.Prelude.{Result, Ok, Err}
use Rattle.refusals.specs.declared.Refusal.{Refusal}
use Rattle.refusals.specs.Numbers.{in_numbers}
use Rattle.refusals.specs.declared.Refusal.TheVariants.{Room, Segments}
use Rattle.refusals.proofs.Results.{only_result_with}

-- a segment has three words
pub segment_words_lem : (g : Gathered) → length (segment_words g) ≡ width * length g.closed
segment_words_lem g = in_turn_long entry_of width (λ x. refl) g.closed

-- a refusal is passed on
passed_on : (why : Refusal) (records segments : List ℕ)
    → Demuxes (refusal (in_numbers why)) records records segments segments (Err why)
unfolding in_room
passed_on why records segments = record { answer_is = refl; records_are = refl; segments_are = refl }

-- the same outcome under other names
outcome_as : {said said' : Said Gathered} {records records' segments segments' : List ℕ} {answer answer' : Result Totals Refusal} → said ≡ said'
    → answer ≡ answer' → Demuxes said' records records' segments segments' answer' → Demuxes said records records' segments segments' answer
outcome_as p q d = rw (p, q) d

-- what was gathered, with room for so many records and segments
module _ (g : Gathered) (forRecords forSegments : ℕ) where
  -- too few for its records
  pub room_8 : forRecords < length g.records → in_room (answers g) forRecords forSegments ≡ refuses 8 (length g.records)
  unfolding in_room
  room_8 h = simp (lt-leb (length g.records) forRecords h)

  -- too few for its segments
  pub room_9 : length g.records ≤ forRecords → forSegments < length g.closed
      → in_room (answers g) forRecords forSegments ≡ refuses 9 (length g.closed)
  unfolding in_room
  room_9 l h = simp (le-leb (length g.records) forRecords l, lt-leb (length g.closed) forSegments h)

  -- enough for both
  pub room_for_all : length g.records ≤ forRecords → length g.closed ≤ forSegments → in_room (answers g) forRecords forSegments ≡ answers g
  unfolding in_room
  room_for_all l h = simp (le-leb (length g.records) forRecords l, le-leb (length g.closed) forSegments h)

-- an outcome by what comes of the room
outcome_by : {reading : Said Gathered} {records records' segments segments' : List ℕ} {answer : Result Totals Refusal} (in-room : Said Gathered)
    → in_tables reading records segments ≡ in-room → result_says answer ≡ answered in-room → records' ≡ records_after in-room records
    → segments' ≡ segments_after in-room segments → Demuxes reading records records' segments segments' answer
outcome_by {reading} {records} {records'} {segments} {segments'} {answer} in-room e answer_is records_are segments_are =
    record {
      answer_is = answer_is ∙ ap answered (sym e);
      records_are = records_are ∙ ap (λ (said : Said Gathered). records_after said records) (sym e);
      segments_are = segments_are ∙ ap (λ (said : Said Gathered). segments_after said segments) (sym e);
    }

-- what a call does with a recording that was counted
module _ (said : Said Gathered) (walk : Walk) (counted : answers walk ≡ numbers_at said) (records segments : List ℕ) where
  -- too little room for its records
  pub few_records : length records < walk.records → Demuxes said records records segments segments (Err (Room walk.records))
  few_records h =
      let w = stands_answered said walk counted in
      let many : walk.records ≡ length w.0.records = ap (λ (v : Walk). v.records) w.2 in
      outcome_as w.1 (ap (λ (n : ℕ). Err (Room n)) many)
      (outcome_by (refuses 8 (length w.0.records))
      (room_8 w.0 (length records) (length segments / width) (omega (arith, h, many))) refl refl refl)

  -- too little room for its segments
  pub few_segments : walk.records ≤ length records → length segments / width < walk.segments
      → Demuxes said records records segments segments (Err (Segments walk.segments))
  few_segments l h =
      let w = stands_answered said walk counted in
      let many : walk.segments ≡ length w.0.closed = ap (λ (v : Walk). v.segments) w.2 in
      let places : walk.records ≡ length w.0.records = ap (λ (v : Walk). v.records) w.2 in
      outcome_as w.1 (ap (λ (n : ℕ). Err (Segments n)) many)
      (outcome_by (refuses 9 (length w.0.closed))
      (room_9 w.0 (length records) (length segments / width) (omega (arith, l, places)) (omega (arith, h, many))) refl refl refl)

  -- room for all
  pub all_written : (records' segments' : List ℕ) (r : Result Walk Refusal) → walk.records ≤ length records → walk.segments ≤ length segments / width
      → GoesOn (record { records = walk.records; segments = walk.segments }) nothing said records records' segments segments' r
      → Demuxes said records records' segments segments' (Ok (record { records = walk.records; segments = walk.segments }))
  all_written records' segments' r l h on =
      let w = stands_answered said walk counted in
      let g = w.0 in
      let places : walk.records ≡ length g.records = ap (λ (v : Walk). v.records) w.2 in
      let entries : walk.segments ≡ length g.closed = ap (λ (v : Walk). v.segments) w.2 in
      let front : records' ≡ fronted (record_words g) records =
      fronts_all (1 * walk.records) (record_words g) (omega (arith, places))
      (on.records_written records g w.1 (fronts_none records (1 * walk.records))) in
      let table : segments' ≡ fronted (segment_words g) segments =
      fronts_all (width * walk.segments) (segment_words g) (omega (arith, entries, segment_words_lem g))
      (on.segments_written segments g w.1 (fronts_begin entry_of segments (width * walk.segments))) in
      outcome_as w.1 (ap (λ (v : Walk). Ok (record { records = v.records; segments = v.segments })) w.2)
      (outcome_by (answers g) (room_for_all g (length records) (length segments / width) (omega (arith, l, places)) (omega (arith, h, entries)))
      refl front table)

-- what the counting pass says and leaves
module _ (said : Said Gathered) (records records' segments segments' : List ℕ) (r : Result Walk Refusal)
    (on : GoesOn (record { records = 0; segments = 0 }) nothing said records records' segments segments' r) where
  -- its refusal is the call's, and it has changed nothing
  pub counting_refused : (why : Refusal) → r ≡ Err why → Demuxes said records records' segments segments' (Err why)
  counting_refused why is =
      let to : said ≡ refusal (in_numbers why) = stands_refused said (ap result_says (sym is) ∙ on.answer_is) in
      let kept = on.untouched refl refl in
      rw (to, kept.0, kept.1) (passed_on why records segments)

  -- it has changed nothing before the tables are written
  pub counting_kept : (records'' segments'' : List ℕ) (answer : Result Totals Refusal) → Demuxes said records' records'' segments' segments'' answer
      → Demuxes said records records'' segments segments'' answer
  counting_kept records'' segments'' answer d =
      let kept = on.untouched refl refl in
      subst (λ (l : List ℕ). Demuxes said records records'' l segments'' answer) kept.1
      (subst (λ (l : List ℕ). Demuxes said l records'' segments' segments'' answer) kept.0 d)

-- what comes of the admission
module _ (f : List ℕ) (records segments : List ℕ) where
  -- a refusal is passed on
  pub not_taken : (why : Refusal) → refusal (in_numbers why) ≡ ds2_admission f Qp7
      → Demuxes (qp7_reading f) records records segments segments (Err why)
  unfolding qp7_reading
  not_taken why e = rw (← e) (passed_on why records segments)

  -- a recording goes on to be read
  pub taken : (rec : Recording) (records' segments' : List ℕ) (answer : Result Totals Refusal) → answers rec ≡ ds2_admission f Qp7
      → Demuxes (gathered_from f rec) records records' segments segments' answer → Demuxes (qp7_reading f) records records' segments segments' answer
  unfolding qp7_reading
  taken rec records' segments' answer e d = rw (← e) d

-- what an accepted call has read, and that there was room for it
pub accepted_read : {reading : Said Gathered} {records records' segments segments' : List ℕ} {answer : Result Totals Refusal}
    → Demuxes reading records records' segments segments' answer → (totals : Totals) → result_says answer ≡ answers totals
    → (g : Gathered) × (reading ≡ answers g) × (totals ≡ totals_of g) × (length g.records ≤ length records)
    × (length g.closed ≤ length segments / width) × (in_tables reading records segments ≡ answers g)
unfolding in_room
accepted_read {reading} {records} {records'} {segments} {segments'} {answer} d totals e =
    let w = went_on (in_tables reading records segments) (λ g. answers (totals_of g)) (sym d.answer_is ∙ e) in
    let v =
    went_on reading
    (λ g.
    demand (leb (length g.records) (length records)) 8 (length g.records)
    (demand (leb (length g.closed) (length segments / width)) 9 (length g.closed) (answers g)))
    w.1 in
    let g = v.0 in
    let places = passed (leb (length g.records) (length records)) 8 (length g.records) _ v.2 in
    let entries = passed (leb (length g.closed) (length segments / width)) 9 (length g.closed) (answers g) places.1 in (
      g,
      v.1,
      for_the_answer (λ (x : Gathered). totals ≡ totals_of x) (sym entries.1) (for_the_answer (λ (t : Totals). t ≡ totals_of w.0) w.2 refl),
      leb-true (length g.records) (length records) places.0,
      leb-true (length g.closed) (length segments / width) entries.0,
      w.1 ∙ sym entries.1,
    )

-- what is seen of an outcome
abbrev pub Seen : Type 0
Seen = Result Totals Refusal × List ℕ × List ℕ

-- two outcomes for one reading and the same tables are the same
pub only_outcome : {reading : Said Gathered} {records records₁ records₂ segments segments₁ segments₂ : List ℕ} {one other : Result Totals Refusal}
    → Demuxes reading records records₁ segments segments₁ one → Demuxes reading records records₂ segments segments₂ other
    → ◌≡◌ {A = Seen} (one, records₁, segments₁) (other, records₂, segments₂)
only_outcome d e = only_result_with d.answer_is e.answer_is d.records_are e.records_are d.segments_are e.segments_are
