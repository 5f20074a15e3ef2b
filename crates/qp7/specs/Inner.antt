-- What only contracts of inner functions speak of: how the code's walk stands for what was gathered, and what it leaves in the two tables
-- when it writes as many records and segments as it is told, which may be none. Assumes nothing.
use Rattle.std.specs.Prelude.{ℕ, ◌*◌, ◌≤◌, ◌≡◌, List, length, Result}
use Rattle.tables.specs.Inner.{Fronts}
use Rattle.refusals.specs.Said.{Said, answers, onward, result_says}
use Rattle.qp7.specs.declared.Totals.{Totals}
use Rattle.qp7.specs.declared.Walk.{Walk}
use Rattle.qp7.specs.Walk.{Gathered, closing, reads}
use Rattle.qp7.specs.Outcome.{width, record_words, segment_words}
use Rattle.refusals.specs.declared.Refusal.{Refusal}

-- the code counts what the definition lists
abbrev pub numbers_of : Gathered → Walk
numbers_of g =
    record {
      place = record { 0 = g.place };
      records = length g.records;
      segments = length g.closed;
      first = g.first;
    }

abbrev pub numbers_at : Said Gathered → Said Walk
numbers_at said = onward said (λ g. answers (numbers_of g))

-- after b of n blocks: the read place is in the stream, a block has at most 255 records and closes at most one segment
pub record Near (n b : ℕ) (walk : Walk) : Type 0 where
  pub place_in : walk.place.0 ≤ 506 * n
  pub records_few : walk.records ≤ 255 * b
  pub segments_few : walk.segments ≤ b

-- the record table holds the places gathered, an entry of one word each, as far as `most`; the segment table the segments' entries
abbrev pub RecordsHold : ℕ → Gathered → List ℕ → List ℕ → Type 0
RecordsHold most g records records' = Fronts records (1 * most) (record_words g) records'

abbrev pub SegmentsHold : ℕ → Gathered → List ℕ → List ℕ → Type 0
SegmentsHold most g segments segments' = Fronts segments (width * most) (segment_words g) segments'

-- n records are read from where g stands: what is answered, and what is left in the record table if that held g's places over some d
pub record ReadsOn (s : ℕ → ℕ) (long n most : ℕ) (g : Gathered) (records records' : List ℕ) (r : Result Walk Refusal) : Type 0 where
  pub answer_is : result_says r ≡ numbers_at (reads s long n g)
  pub written : (d : List ℕ) (g' : Gathered) → reads s long n g ≡ answers g' → RecordsHold most g d records → RecordsHold most g' d records'
  pub untouched : most ≡ 0 → records' ≡ records

-- a segment is closed where g stands: the same for the segment table
pub record Closes (most : ℕ) (g : Gathered) (segments segments' : List ℕ) (r : Walk) : Type 0 where
  pub walk_is : r ≡ numbers_of (closing g)
  pub written : (d : List ℕ) → SegmentsHold most g d segments → SegmentsHold most (closing g) d segments'

-- and for both tables, where the walk goes on from g to what `to` says
pub record GoesOn (most : Totals) (g : Gathered) (to : Said Gathered) (records records' segments segments' : List ℕ) (r : Result Walk Refusal) : Type 0 where
  pub answer_is : result_says r ≡ numbers_at to
  pub records_written : (d : List ℕ) (g' : Gathered) → to ≡ answers g' → RecordsHold most.records g d records
      → RecordsHold most.records g' d records'
  pub segments_written : (d : List ℕ) (g' : Gathered) → to ≡ answers g' → SegmentsHold most.segments g d segments
      → SegmentsHold most.segments g' d segments'
  pub untouched : most.records ≡ 0 → most.segments ≡ 0 → (records' ≡ records) × (segments' ≡ segments)
