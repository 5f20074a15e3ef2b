-- What holds of `demux_ds2_qp` and of its segments and frames for every file and all lent memory, beyond the contract or drawn from it.
-- Each statement stands under a sentence that says it; the laws that carry them are in the files beside this one. Assumes nothing.
use Prim.Native.Nat.{ℕ, ◌+◌, ◌*◌, ◌/◌, ◌%◌, ◌≤◌, ◌<◌, min}
use mathlib.Core.Path.{◌≡◌, refl, sym, ap, ◌∙◌, subst}
use mathlib.Core.List.{List}
use mathlib.Core.Bool.{cond}
use native.Mathlib.Omega.{arith}
use borrow.Author.Tests.{le-leb, lt-leb}
use lib.ListN.{length, get_or, drop, length-take, length-drop}
use lib.Dec.{eqb}
use Rattle.tables.specs.Settled.{SettledAs}
use Rattle.tables.specs.Table.{table, sum, sum_of, Each}
use Rattle.tables.specs.Entries.{fronted}
use Rattle.tables.proofs.Table.{each_at, sum_same}
use Rattle.tables.proofs.Entries.{entries_stand, in_turn_same, in_turn_many}
use Rattle.blocks.specs.Places.{Whole}
use Rattle.blocks.specs.Headers.{Bytes}
use Rattle.blocks.specs.Stream.{joined}
use Rattle.blocks.proofs.Stream.{joined_long}
use Rattle.refusals.specs.declared.Numbers.{Numbers}
use Rattle.refusals.specs.Said.{Said, answers, refuses, refusal, result_says}
use Rattle.refusals.proofs.Said.{not_both, went_on}
use Rattle.whole.specs.declared.Recording.{Recording}
use Rattle.detect.specs.declared.Kind.TheVariants.{Qp}
use Rattle.whole.specs.Admissions.{announced_by, ds2_admission}
use Rattle.whole.proofs.Admissions.{ds2_admitted}
use Rattle.frames.specs.Frames.{frame_size, handed_out, short_among}
use Rattle.frames.specs.Cut.{cut, fetched_frames}
use Rattle.frames.proofs.Frames.{handed_is, short_is, sizes_add_up}
use Rattle.frames.proofs.Cut.{cut_many}
use Rattle.frames.proofs.Theorems.{frames_are_cut}
use Rattle.qp.specs.declared.Segment.{Segment}
use Rattle.qp.specs.declared.Totals.{Totals}
use Rattle.qp.specs.Segments.{Reading, reading_of, segments_from, qp_reading, Lies}
use Rattle.qp.specs.Outcome.{width, entry_of, words, in_room, in_table, totals_of, answered, table_after, Demuxes}
use Rattle.qp.specs.Handed.{bytes_of, frames_of, fetched_of, announced_of, handed_out_of, short_of, missing_from, bytes_in}
use Rattle.qp.proofs.Kept.{totals_add_up, handed_or_missing, all_lie, all_reset}
use Rattle.qp.proofs.Outcome.{accepted_read, Seen, only_outcome}
use Rattle.qp.proofs.demux_ds2_qp.Kinds as qp
use Rattle.qp.proofs.demux_ds2_qp.Reads as qp-reads
use Rattle.std.specs.Prelude.{Result}
use Rattle.refusals.specs.declared.Refusal.{Refusal}

module _ (reading : Said Reading) (table table' : List ℕ) (answer : Result Totals Refusal) (d : Demuxes reading table table' answer) where
  -- A refused call changes nothing.
  pub refused_changes_nothing : (why : Numbers) → result_says answer ≡ refusal why → table' ≡ table
  refused_changes_nothing why e = d.table_is ∙ refused (in_table reading table) (sym d.answer_is ∙ e)
    where
      refused : (said : Said Reading) → answered said ≡ refusal why → table_after said table ≡ table
      refused (answers r) e = absurd (not_both (sym e))
      refused (refusal why) e = refl

  -- An accepted call answers how many segments the reading has and how many frames are announced, and leaves the segments' words from the
  -- front of the table on.
  pub accepted_writes : (totals : Totals) → result_says answer ≡ answers totals
      → (r : Reading) × (reading ≡ answers r) × (totals_of r ≡ totals) × (width * length r.segments ≤ length table) × (table' ≡ fronted (words r.segments) table)
  accepted_writes totals e =
      let w = accepted_read reading table table' answer d totals e in
      (w.0, w.1, w.2, omega (arith, w.3), d.table_is ∙ ap (λ (said : Said Reading). table_after said table) w.4)

-- Where they stand: segment i has the four words from 4 i on, its start, its length, its frame total and its reset; every other word, and
-- the length, is as it was.
pub segments_stand : (segments : List Segment) (table : List ℕ) (none : Segment) → width * length segments ≤ length table
    → ((i k : ℕ) → i < length segments → k < width → get_or (fronted (words segments) table) (width * i + k) 0 ≡ get_or (entry_of (get_or segments i none)) k 0)
    × ((j : ℕ) → width * length segments ≤ j → get_or (fronted (words segments) table) j 0 ≡ get_or table j 0)
    × (length (fronted (words segments) table) ≡ length table)
segments_stand segments table none room = entries_stand entry_of width (λ s. refl) segments none table room

-- What is taken is handed out exactly if the table has room for all its segments, and is otherwise refused by 9 with the segments needed.
pub room_decides : (r : Reading) (room : ℕ) → (length r.segments ≤ room → answered (in_room (answers r) room) ≡ answers (totals_of r))
    × (room < length r.segments → answered (in_room (answers r) room) ≡ refuses 9 (length r.segments))
unfolding in_room
room_decides r room =
    ((λ fits. simp (le-leb (length r.segments) room fits)), (λ full. simp (lt-leb (length r.segments) room full)))

-- what was read
read_from : (f : List ℕ) (r : Reading) → qp_reading f ≡ answers r → (rec : Recording) × (ds2_admission f Qp ≡ answers rec) × (reading_of f rec ≡ r)
unfolding qp_reading
read_from f r e =
    let w = went_on (ds2_admission f Qp) (λ rec. answers (reading_of f rec)) e in
    (w.0, w.1, cc)

module _ (f : List ℕ) (r : Reading) (read : qp_reading f ≡ answers r) where
  -- The segments' frame totals add up to what the count bytes of all whole blocks do, and that is the number that the call answers.
  pub totals_announced : (rec : Recording) × (ds2_admission f Qp ≡ answers rec) × (announced_of r.segments ≡ announced_by f rec) × (r.announced ≡ announced_by f rec)
  totals_announced =
      let v = read_from f r read in
      let rec = v.0 in (
        rec,
        v.1,
        ap (λ (x : Reading). announced_of x.segments) (sym v.2) ∙ totals_add_up f rec.start.0 rec.blocks,
        ap (λ (x : Reading). x.announced) (sym v.2),
      )

  -- Reset is 0 for the first segment and 1 for every other.
  pub reset_but_first : (none : Segment) (i : ℕ) → i < length r.segments → (get_or r.segments i none).reset ≡ min 1 i
  reset_but_first none i h =
      let v = read_from f r read in
      let same : segments_from f v.0 ≡ r.segments = ap (λ (x : Reading). x.segments) v.2 in
      subst (λ (l : List Segment). i < length l → (get_or l i none).reset ≡ min 1 i) same (all_reset f v.0.start.0 v.0.blocks none i) h

  -- a segment has as many bytes as its length says
  bytes_long : (rec : Recording) (s : Segment) → Whole f rec.start.0 rec.blocks → Lies (506 * rec.blocks) s → length (bytes_of f rec s) ≡ s.long
  bytes_long rec s whole l =
      length-take s.long (drop s.start.0 (joined f rec.start.0 rec.blocks))
      ∙ omega (arith, length-drop s.start.0 (joined f rec.start.0 rec.blocks), joined_long f rec.start.0 rec.blocks whole, l.inside)

  module _ (bytes : Bytes f) where
    lies : (rec : Recording) × (ds2_admission f Qp ≡ answers rec) × (segments_from f rec ≡ r.segments) × Each (Lies (506 * rec.blocks)) r.segments
    lies =
        let v = read_from f r read in
        let rec = v.0 in
        let same : segments_from f rec ≡ r.segments = ap (λ (x : Reading). x.segments) v.2 in
        (rec, v.1, same, subst (Each (Lies (506 * rec.blocks))) same (all_lie f rec.start.0 rec.blocks bytes))

    -- Every segment lies in the payload stream, has a length above 0, and announces at least as many frames as its bytes are cut into.
    pub segments_lie_in_the_stream : (rec : Recording) × (ds2_admission f Qp ≡ answers rec)
        × ((none : Segment) (i : ℕ) → i < length r.segments → Lies (506 * rec.blocks) (get_or r.segments i none))
    segments_lie_in_the_stream =
        let w = lies in
        (w.0, w.1, (λ none i h. each_at (Lies (506 * w.0.blocks)) r.segments none w.3 i h))

    -- The frames that a caller finds, fills and shows for the segments of the table, with a scratch of at least 56 bytes and whatever that
    -- holds, are exactly the segments' bytes cut by 56: the list that `Ds2QpStreamDemuxer` hands out.
    pub frames_are_handed_out : (scratch : Segment → ℕ → List ℕ) → ((segment : Segment) (k : ℕ) → 56 ≤ length (scratch segment k))
        → (rec : Recording) × (ds2_admission f Qp ≡ answers rec) × (fetched_of f scratch r.segments ≡ frames_of f rec r.segments)
    frames_are_handed_out scratch roomy =
        let w = lies in
        let rec = w.0 in
        let admitted = (ds2_admitted f Qp rec w.1).0 in (
          rec,
          w.1,
          in_turn_same (Lies (506 * rec.blocks)) (λ s. fetched_frames f (scratch s) s.start.0 s.long s.frames 0) (λ s. cut s.frames (bytes_of f rec s))
              (λ s l. frames_are_cut f rec (scratch s) s.start.0 s.long s.frames admitted l.inside (λ k. roomy s k)) r.segments w.3,
        )

    -- That list has as many frames as are handed out by definition, and with those that are missing they are all that is announced.
    pub no_frame_uncounted : (rec : Recording) × (ds2_admission f Qp ≡ answers rec) × (length (frames_of f rec r.segments) ≡ handed_out_of r.segments)
        × (handed_out_of r.segments + missing_from r.segments ≡ announced_by f rec)
    no_frame_uncounted =
        let w = lies in
        let rec = w.0 in
        let whole = (ds2_admitted f Qp rec w.1).2.whole in
        let all : announced_of r.segments ≡ announced_by f rec = ap announced_of (sym w.2) ∙ totals_add_up f rec.start.0 rec.blocks in (
          rec,
          w.1,
          in_turn_many (Lies (506 * rec.blocks)) (λ s. cut s.frames (bytes_of f rec s)) (λ s. handed_out s.long s.frames)
              (λ s l. cut_many s.frames (bytes_of f rec s) ∙ ap (λ (x : ℕ). handed_out x s.frames) (bytes_long rec s whole l)) r.segments w.3,
          handed_or_missing r.segments ∙ all,
        )

    -- How many that is, by the segments' lengths: for each its length by 56, rounded up; one is short for each whose length 56 does not
    -- divide; and they have all the segments' bytes.
    pub counted_by_length : (handed_out_of r.segments ≡ sum_of (λ s. (s.long + 55) / 56) r.segments)
        × (short_of r.segments ≡ sum_of (λ s. cond (eqb (s.long % 56) 0) 0 1) r.segments)
        × (bytes_in r.segments ≡ sum_of (λ s. s.long) r.segments)
    counted_by_length = (
      same (λ s. handed_out s.long s.frames) (λ s. (s.long + 55) / 56) (λ s l. handed_is s.long s.frames l.announces),
      same (λ s. short_among s.long s.frames) (λ s. cond (eqb (s.long % 56) 0) 0 1) (λ s l. short_is s.long s.frames l.announces),
      same (λ s. sum (table s.frames (frame_size s.long))) (λ s. s.long) (λ s l. sizes_add_up s.long s.frames l.announces),
    )
      where
        same : (one other : Segment → ℕ) → ((s : Segment) → Lies (506 * lies.0.blocks) s → one s ≡ other s)
            → sum_of one r.segments ≡ sum_of other r.segments
        same one other is = sum_same (Lies (506 * lies.0.blocks)) one other is r.segments lies.3

-- Two outcomes of `demux_ds2_qp` that its contract allows for the same arguments are equal: the answer and the table. The contract is the
-- one in the source, as the check reads it.
pub demux_ds2_qp_settled : SettledAs 2 qp.ps qp.r (λ κs. Seen) (λ κs x s. (x, s.1.0.now)) qp-reads.Post
demux_ds2_qp_settled κs a x y s t p q = only_outcome p.0 q.0
