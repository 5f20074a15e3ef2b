-- The walk over the blocks of a QP7 file: it reads record after record, and closes a segment at a silent block and at the end.
-- Assumes nothing.
use Rattle.std.specs.Prelude.{ℕ, zero, suc, ◌+◌, ◌*◌, ◌-◌, min, max, List, [], ◌∷◌, ◌++◌, cond, length, get_or, ltb, eqb}
use Rattle.tables.specs.Table.{table, sum}
use Rattle.blocks.specs.Places.{stream_at}
use Rattle.blocks.specs.Headers.{first_of, count_of}
use Rattle.refusals.specs.Said.{Said, answers, onward}
use Rattle.whole.specs.declared.Recording.{Recording}
use Rattle.detect.specs.declared.Kind.TheVariants.{Qp7}
use Rattle.whole.specs.Admissions.{ds2_admission}
use Rattle.frames.specs.Start.{frames_start}
use Rattle.qp7.specs.declared.Segment.{Segment}
use Rattle.qp7.specs.Records.{record_size, record_at}

-- what was gathered: the read place, the places of the records, the segments that are closed, and how many records those have, which is
-- the number of the open segment's first record
pub record Gathered : Type 0 where
  pub place : ℕ
  pub records : List ℕ
  pub closed : List Segment
  pub first : ℕ

-- before the first block
abbrev pub nothing : Gathered
nothing = record { place = 0; records = []; closed = []; first = 0 }

-- one record of this size more, at the read place
abbrev pub noted : ℕ → Gathered → Gathered
noted size g =
    record { place = g.place + size; records = g.records ++ (g.place ∷ []); closed = g.closed; first = g.first }

-- the read place is raised to at least q
abbrev pub raised : ℕ → Gathered → Gathered
raised q g = record { place = max g.place q; records = g.records; closed = g.closed; first = g.first }

-- the open segment: its first record, how many it has, and reset, which is 1 for all but the first
abbrev pub open_segment : Gathered → Segment
open_segment g = record { first = g.first; records = length g.records - g.first; reset = min 1 (length g.closed) }

-- a segment that is not empty is closed
unfoldable pub closing : Gathered → Gathered
closing g =
    cond (ltb g.first (length g.records))
    (record { place = g.place; records = g.records; closed = g.closed ++ (open_segment g ∷ []); first = length g.records }) g

-- n records one after another, or the refusal of the first that cannot be read
unfoldable pub reads : (ℕ → ℕ) → ℕ → ℕ → Gathered → Said Gathered
reads s long zero g = answers g
reads s long (suc n) g = onward (record_at s long g.place) (λ size. reads s long n (noted size g))

-- block b of n: if it announces nothing, it closes a segment and raises the read place to at least its own end; otherwise it raises
-- the read place to at least its start and reads the records that it announces
unfoldable pub with_block : List ℕ → ℕ → ℕ → ℕ → Gathered → Said Gathered
with_block f a n b g =
    cond (eqb (count_of f a b) 0) (answers (raised (506 * (b + 1)) (closing g)))
    (reads (stream_at f a n) (506 * n) (count_of f a b) (raised (frames_start b (first_of f a b)) g))

-- the first b of n blocks
unfoldable pub gathered_to : List ℕ → ℕ → ℕ → ℕ → Said Gathered
gathered_to f a n zero = answers nothing
gathered_to f a n (suc b) = onward (gathered_to f a n b) (with_block f a n b)

-- all blocks, whose end closes the last segment
unfoldable pub gathered_from : List ℕ → Recording → Said Gathered
gathered_from f rec =
    onward (gathered_to f rec.start.0 rec.blocks rec.blocks) (λ g. answers (closing g))

-- of any file: refusals 1, 2, 3, 11, then 4 or 5
unfoldable pub qp7_reading : List ℕ → Said Gathered
qp7_reading f = onward (ds2_admission f Qp7) (gathered_from f)

-- record i: its place, and its size by the byte after that
abbrev pub place_at : Gathered → ℕ → ℕ
place_at g i = get_or g.records i 0

abbrev pub size_at : (ℕ → ℕ) → Gathered → ℕ → ℕ
size_at s g i = record_size (s (place_at g i + 1))

-- segment i; past the last there are zeros
abbrev pub no_segment : Segment
no_segment = record { first = 0; records = 0; reset = 0 }

abbrev pub segment_at : List Segment → ℕ → Segment
segment_at closed i = get_or closed i no_segment

-- how many records the first i segments have
abbrev pub records_before : List Segment → ℕ → ℕ
records_before closed i = sum (table i (λ j. (segment_at closed j).records))
