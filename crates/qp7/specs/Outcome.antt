-- What the QP7 call answers and leaves in the two lent tables, given its reading: refusals 8 and 9 with the records or segments needed, or
-- both tables. A refused call leaves everything as it was. Assumes nothing.
use Rattle.std.specs.Prelude.{ℕ, ◌+◌, ◌*◌, ◌/◌, ◌≤◌, ◌<◌, ◌≡◌, List, [], ◌∷◌, length, get_or, leb, Result}
use Rattle.tables.specs.Entries.{in_turn, fronted}
use Rattle.refusals.specs.Said.{Said, answers, refusal, demand, onward, result_says}
use Rattle.qp7.specs.declared.Segment.{Segment}
use Rattle.qp7.specs.declared.Totals.{Totals}
use Rattle.qp7.specs.Walk.{Gathered, place_at, segment_at}
use Rattle.refusals.specs.declared.Refusal.{Refusal}

-- a segment's entry: so many words
abbrev pub width : ℕ
width = 3

abbrev pub entry_of : Segment → List ℕ
entry_of segment = segment.first ∷ segment.records ∷ segment.reset ∷ []

-- the words of both tables: a place for each record, an entry for each segment
abbrev pub record_words : Gathered → List ℕ
record_words g = g.records

abbrev pub segment_words : Gathered → List ℕ
segment_words g = in_turn entry_of g.closed

-- the reading, if there is room for all its records and then for all its segments
unfoldable pub in_room : Said Gathered → ℕ → ℕ → Said Gathered
in_room said forRecords forSegments =
    onward said
    (λ g.
    demand (leb (length g.records) forRecords) 8 (length g.records)
    (demand (leb (length g.closed) forSegments) 9 (length g.closed) (answers g)))

-- room for records is their table's length, for segments the other's by the width
abbrev pub in_tables : Said Gathered → List ℕ → List ℕ → Said Gathered
in_tables said records segments = in_room said (length records) (length segments / width)

-- the answer is how many records there are, and how many segments
abbrev pub totals_of : Gathered → Totals
totals_of g = record { records = length g.records; segments = length g.closed }

abbrev pub answered : Said Gathered → Said Totals
answered said = onward said (λ g. answers (totals_of g))

-- the tables hold their words from the front on, and what lies past them is as it was
abbrev pub records_after : Said Gathered → List ℕ → List ℕ
records_after (answers g) records = fronted (record_words g) records
records_after (refusal why) records = records

abbrev pub segments_after : Said Gathered → List ℕ → List ℕ
segments_after (answers g) segments = fronted (segment_words g) segments
segments_after (refusal why) segments = segments

-- the call's outcome is the definition's: answer and both tables
pub record Demuxes (reading : Said Gathered) (records records' segments segments' : List ℕ) (answer : Result Totals Refusal) : Type 0 where
  pub answer_is : result_says answer ≡ answered (in_tables reading records segments)
  pub records_are : records' ≡ records_after (in_tables reading records segments) records
  pub segments_are : segments' ≡ segments_after (in_tables reading records segments) segments

-- what both tables hold of what was gathered: record k's place is word k of the one, segment i's first record, how many it has and its
-- reset are the words of entry i of the other. Every other word of both is as it was, and so are the lengths
pub record TablesHold (g : Gathered) (records records' segments segments' : List ℕ) : Type 0 where
  pub places : (k : ℕ) → k < length g.records → get_or records' k 0 ≡ place_at g k
  pub firsts : (i : ℕ) → i < length g.closed → get_or segments' (width * i) 0 ≡ (segment_at g.closed i).first
  pub counts : (i : ℕ) → i < length g.closed → get_or segments' (width * i + 1) 0 ≡ (segment_at g.closed i).records
  pub resets : (i : ℕ) → i < length g.closed → get_or segments' (width * i + 2) 0 ≡ (segment_at g.closed i).reset
  pub records_past : (k : ℕ) → length g.records ≤ k → get_or records' k 0 ≡ get_or records k 0
  pub segments_past : (k : ℕ) → width * length g.closed ≤ k → get_or segments' k 0 ≡ get_or segments k 0
  pub records_long : length records' ≡ length records
  pub segments_long : length segments' ≡ length segments
