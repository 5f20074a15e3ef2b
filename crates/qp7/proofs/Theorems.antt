-- What holds of `demux_ds2_qp7` for every file and all lent memory, beyond the contract or drawn from it. Each statement stands under a
-- sentence that says it; the laws that carry them are in the files beside this one. Assumes nothing.
use Prim.Native.Nat.{ℕ, ◌+◌, ◌*◌, ◌≤◌, ◌<◌, min}
use mathlib.Core.Path.{◌≡◌, refl, sym, ap, ◌∙◌}
use mathlib.Core.List.{List}
use mathlib.Core.Logic.{⊎_elim}
use native.Mathlib.Omega.{arith}
use lib.ListN.{length, take, drop}
use lib.Dec.{leb}
use Rattle.tables.specs.Settled.{SettledAs}
use Rattle.tables.specs.Entries.{fronted}
use Rattle.blocks.specs.Places.{stream_at}
use Rattle.blocks.specs.Stream.{joined}
use Rattle.blocks.specs.Headers.{Bytes}
use Rattle.refusals.specs.declared.Numbers.{Numbers}
use Rattle.refusals.specs.Numbers.{numbered, OfRecord}
use Rattle.refusals.specs.Said.{Said, answers, refuses, refusal, is_among, result_says}
use Rattle.refusals.proofs.Said.{not_both, by_refusal, by_onward, for_the_answer}
use Rattle.refusals.proofs.Numbered.{not_of_record}
use Rattle.whole.specs.declared.Recording.{Recording}
use Rattle.detect.specs.declared.Kind.TheVariants.{Qp7}
use Rattle.whole.specs.Admissions.{ds2_admission, announced_by}
use Rattle.whole.proofs.Admissions.{ds2_admitted}
use Rattle.whole.proofs.Refusing.{ds2_admitting}
use Rattle.frames.specs.Cut.{fetched_bytes}
use Rattle.frames.proofs.Shown.{can_be_fetched}
use Rattle.frames.proofs.Theorems.{fill_then_show_joined}
use Rattle.qp7.specs.declared.Totals.{Totals}
use Rattle.qp7.specs.Walk.{Gathered, gathered_from, qp7_reading, place_at, size_at, segment_at, records_before}
use Rattle.qp7.specs.Lacking.{Lacks}
use Rattle.qp7.specs.Outcome.{record_words, segment_words, in_room, in_tables, totals_of, answered, records_after, segments_after, Demuxes, TablesHold}
use Rattle.qp7.proofs.Records.{size_bounds}
use Rattle.qp7.proofs.Keeping.{records_many, admitted_first}
use Rattle.qp7.proofs.Lying.{gathered_lie}
use Rattle.qp7.proofs.Stopping.{gathered_lacks}
use Rattle.qp7.proofs.Shares.{gathered_shared}
use Rattle.qp7.proofs.Words.{tables_by}
use Rattle.qp7.proofs.Outcome.{segment_words_lem, room_8, room_9, room_for_all, accepted_read, Seen, only_outcome}
use Rattle.qp7.proofs.demux_ds2_qp7.Kinds as qp7
use Rattle.qp7.proofs.demux_ds2_qp7.Reads as qp7-reads
use Rattle.std.specs.Prelude.{Result}
use Rattle.refusals.specs.declared.Refusal.{Refusal}

-- The records of an accepted file are as many as the count bytes of all whole blocks add up to.
pub records_announced : (f : List ℕ) (g : Gathered) → qp7_reading f ≡ answers g
    → (rec : Recording) × (ds2_admission f Qp7 ≡ answers rec) × (length g.records ≡ announced_by f rec)
records_announced f g e =
    let r = admitted_first f g e in (r.0, r.1, records_many f r.0 g r.2)

module _ (f : List ℕ) (g : Gathered) (e : qp7_reading f ≡ answers g) where
  -- The segments have as many records together as there are.
  pub segments_share_the_records : records_before g.closed (length g.closed) ≡ length g.records
  segments_share_the_records = (gathered_shared f g e).0.all ∙ (gathered_shared f g e).1

  -- Each segment begins where the one before it ends: the number of its first record is how many records the segments before it have.
  pub segments_follow_one_another : (i : ℕ) → i < length g.closed
      → (segment_at g.closed i).first ≡ records_before g.closed i
  segments_follow_one_another i h = ((gathered_shared f g e).0.each i h).begins

  -- Every segment has at least one record.
  pub no_segment_is_empty : (i : ℕ) → i < length g.closed → 1 ≤ (segment_at g.closed i).records
  no_segment_is_empty i h = ((gathered_shared f g e).0.each i h).some

  -- Reset is 0 for the first segment and 1 for every other.
  pub reset_but_first : (i : ℕ) → i < length g.closed → (segment_at g.closed i).reset ≡ min 1 i
  reset_but_first i h = ((gathered_shared f g e).0.each i h).resets

  module _ (rec : Recording) (taken : ds2_admission f Qp7 ≡ answers rec) where
    -- Every record, as long as the byte after its place says, ends in the payload stream, which has 506 bytes for each whole block.
    pub records_lie_in_the_stream : (i : ℕ) → i < length g.records
        → place_at g i + size_at (stream_at f rec.start.0 rec.blocks) g i ≤ 506 * rec.blocks
    records_lie_in_the_stream i h = (gathered_lie f g e rec taken).inside i h

    -- No two records overlap: each ends where a later one begins, or before that.
    pub records_lie_apart : (i j : ℕ) → i < j → j < length g.records
        → place_at g i + size_at (stream_at f rec.start.0 rec.blocks) g i ≤ place_at g j
    records_lie_apart i j h l = (gathered_lie f g e rec taken).apart i j h l

    -- Every record can be fetched by its place and size, with a scratch of at least 56 bytes and whatever that holds: `fill` and then `show`
    -- give its bytes, a part of all payloads joined, which `Ds2QpStreamDemuxer` hands out for it.
    pub records_are_fetched : (i : ℕ) (scratch : List ℕ) → i < length g.records → 56 ≤ length scratch
        → fetched_bytes f (place_at g i) (size_at (stream_at f rec.start.0 rec.blocks) g i) scratch
        ≡ take (size_at (stream_at f rec.start.0 rec.blocks) g i) (drop (place_at g i) (joined f rec.start.0 rec.blocks))
    records_are_fetched i scratch h roomy =
        let s = stream_at f rec.start.0 rec.blocks in
        let small = size_bounds (s (place_at g i + 1)) in
        fill_then_show_joined f rec (place_at g i) (size_at s g i) scratch
        (can_be_fetched f rec (place_at g i) (size_at s g i) (length scratch) (ds2_admitted f Qp7 rec taken).0 small.0 small.1 (records_lie_in_the_stream i h) roomy)

-- A file that is refused by 4 or 5 was admitted, and the refusal says how much is missing at the place where the walk stops. By 5: the record's
-- size, by the byte after its place; and the bytes by which it would end past the stream's end, 506 bytes for each whole block. By 4: size 0,
-- and 2 bytes absent, the place being the stream's end.
pub record_lacks : (f : List ℕ) → Bytes f → (why : Numbers) → qp7_reading f ≡ refusal why → OfRecord why.number
    → (rec : Recording) × (ds2_admission f Qp7 ≡ answers rec) × Lacks f rec why
unfolding qp7_reading is_among
record_lacks f bytes why e of-record =
    by_onward (ds2_admission f Qp7) (gathered_from f) e
    (λ turned. absurd (not_of_record (ds2_admitting f Qp7) refl refl turned of-record))
    (λ rec taken rest. (rec, taken, gathered_lacks f rec bytes rest))

module _ (reading : Said Gathered) (records records' segments segments' : List ℕ) (answer : Result Totals Refusal)
    (d : Demuxes reading records records' segments segments' answer) where
  -- A refused call changes nothing.
  pub refused_changes_nothing : (why : Numbers) → result_says answer ≡ refusal why → (records' ≡ records) × (segments' ≡ segments)
  refused_changes_nothing why e =
      let kept = refused (in_tables reading records segments) (sym d.answer_is ∙ e) in
      (d.records_are ∙ kept.0, d.segments_are ∙ kept.1)
    where
      refused : (said : Said Gathered) → answered said ≡ refusal why
          → (records_after said records ≡ records) × (segments_after said segments ≡ segments)
      refused (answers g) e = absurd (not_both (sym e))
      refused (refusal why) e = (refl, refl)

  -- A call that is refused by 4 or 5 is refused as its reading is: with the place, the record's size and the bytes that are absent.
  pub refused_as_read : (why : Numbers) → result_says answer ≡ refusal why → OfRecord why.number → reading ≡ refusal why
  unfolding in_room
  refused_as_read why e of-record =
      by_onward (in_tables reading records segments) _ (sym d.answer_is ∙ e)
      (λ turned.
      by_onward reading _ turned (λ here. here)
      (λ g read full.
      by_refusal (leb (length g.records) (length records)) full
      (λ fits also. by_refusal (leb (length g.closed) _) also (λ room r. absurd (not_both (sym r))) (λ over is. absurd (not_of_room (omega arith) is)))
      (λ over is. absurd (not_of_room (omega arith) is))))
      (λ g came r. absurd (not_both (sym r)))
    where
      not_of_room : {number beside : ℕ} → 8 ≤ number → numbered number beside ≡ why → ⊥
      not_of_room high is =
          let same = ap (λ (w : Numbers). w.number) is in
          ⊎_elim (λ four. omega (arith, high, same, four)) (λ five. omega (arith, high, same, five)) of-record

  -- An accepted call answers how many records and segments were gathered, and leaves their words over the fronts of the two tables, in
  -- which there is room for them.
  pub accepted_writes : (totals : Totals) → result_says answer ≡ answers totals
      → (g : Gathered) × (reading ≡ answers g) × (totals ≡ totals_of g) × (records' ≡ fronted (record_words g) records)
      × (segments' ≡ fronted (segment_words g) segments) × (length (record_words g) ≤ length records)
      × (length (segment_words g) ≤ length segments)
  accepted_writes totals e =
      let w = accepted_read d totals e in (
        w.0,
        w.1,
        w.2,
        d.records_are ∙ ap (λ (said : Said Gathered). records_after said records) w.5,
        d.segments_are ∙ ap (λ (said : Said Gathered). segments_after said segments) w.5,
        w.3,
        omega (arith, w.4, segment_words_lem w.0),
      )

  -- Where they stand: word k of the record table is record k's place, and words 3 i, 3 i + 1 and 3 i + 2 of the segment table are segment
  -- i's first record, how many it has and its reset. Every other word of both is as it was, and so are the lengths.
  pub tables_hold : (totals : Totals) (g : Gathered) → result_says answer ≡ answers totals → reading ≡ answers g
      → TablesHold g records records' segments segments'
  tables_hold totals g e is =
      let w = accepted_writes totals e in
      for_the_answer (λ (x : Gathered). TablesHold x records records' segments segments') (sym w.1 ∙ is)
      (tables_by w.0 records records' segments segments' w.5 (omega (arith, w.6, segment_words_lem w.0)) w.3 w.4)

-- What was gathered is handed out exactly if there is room for all its records and for all its segments. Otherwise it is refused by 8
-- with the records needed if those do not fit, and else by 9 with the segments needed.
pub room_decides : (g : Gathered) (forRecords forSegments : ℕ)
    → (length g.records ≤ forRecords → length g.closed ≤ forSegments
    → answered (in_room (answers g) forRecords forSegments) ≡ answers (totals_of g))
    × (forRecords < length g.records → answered (in_room (answers g) forRecords forSegments) ≡ refuses 8 (length g.records))
    × (length g.records ≤ forRecords → forSegments < length g.closed
    → answered (in_room (answers g) forRecords forSegments) ≡ refuses 9 (length g.closed))
room_decides g forRecords forSegments = (
  (λ fits room. ap answered (room_for_all g forRecords forSegments fits room)),
  (λ full. ap answered (room_8 g forRecords forSegments full)),
  (λ fits full. ap answered (room_9 g forRecords forSegments fits full)),
)

-- Two outcomes of `demux_ds2_qp7` that its contract allows for the same arguments are equal: answer and both tables. The contract is the
-- one in the source, as the check reads it.
pub demux_ds2_qp7_settled : SettledAs 3 qp7.ps qp7.r (λ κs. Seen) (λ κs x s. (x, s.1.0.now, s.1.1.0.now)) qp7-reads.Post
demux_ds2_qp7_settled κs a x y s t p q = only_outcome p q
