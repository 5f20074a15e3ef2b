-- What the QP call answers and leaves in the lent table, given its reading: refusal 9 with the segments needed, or all the segments'
-- entries. A refused call leaves everything as it was. Assumes nothing.
use Rattle.std.specs.Prelude.{ℕ, ◌/◌, ◌≡◌, List, [], ◌∷◌, length, leb, Result}
use Rattle.tables.specs.Entries.{in_turn, fronted}
use Rattle.refusals.specs.Said.{Said, answers, refusal, demand, onward, result_says}
use Rattle.qp.specs.declared.Segment.{Segment}
use Rattle.qp.specs.declared.Totals.{Totals}
use Rattle.qp.specs.Segments.{Reading}
use Rattle.refusals.specs.declared.Refusal.{Refusal}

-- a segment's entry: so many words
abbrev pub width : ℕ
width = 4

abbrev pub entry_of : Segment → List ℕ
entry_of segment = segment.start.0 ∷ segment.long ∷ segment.frames ∷ segment.reset ∷ []

-- the words of the table, an entry for each segment
abbrev pub words : List Segment → List ℕ
words segments = in_turn entry_of segments

-- the reading, if there is room for all its segments: that is the table's length by the width
unfoldable pub in_room : Said Reading → ℕ → Said Reading
in_room said room =
    onward said (λ r. demand (leb (length r.segments) room) 9 (length r.segments) (answers r))

abbrev pub in_table : Said Reading → List ℕ → Said Reading
in_table said table = in_room said (length table / width)

-- the answer is how many segments there are, and how many frames are announced
abbrev pub totals_of : Reading → Totals
totals_of r = record { segments = length r.segments; announced = r.announced }

abbrev pub answered : Said Reading → Said Totals
answered said = onward said (λ r. answers (totals_of r))

-- the table holds the words from the front on, and what lies past them is as it was
abbrev pub table_after : Said Reading → List ℕ → List ℕ
table_after (answers r) table = fronted (words r.segments) table
table_after (refusal why) table = table

-- the call's outcome is the definition's: answer and table
pub record Demuxes (reading : Said Reading) (table table' : List ℕ) (answer : Result Totals Refusal) : Type 0 where
  pub answer_is : result_says answer ≡ answered (in_table reading table)
  pub table_is : table' ≡ table_after (in_table reading table) table
