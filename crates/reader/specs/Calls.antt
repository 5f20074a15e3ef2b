-- What a reader's calls say, the state that they hand back, and what they leave in lent memory, for every state and all that is lent.
-- Assumes nothing.
use Rattle.std.specs.Prelude.{ℕ, ◌+◌, ◌*◌, ◌-◌, ◌%◌, min, ◌≡◌, List, ◌++◌, not, cond, length, eqb, leb}
use Rattle.tables.specs.Lent.{over}
use Rattle.blocks.specs.Places.{limit}
use Rattle.blocks.specs.Headers.{Bytes}
use Rattle.refusals.specs.Said.{Said, answers, refusal, refuses, demand, result_says}
use Rattle.sp.specs.Readings.{Reading, joined_byte_at, file_count_at}
use Rattle.sp.specs.Outcome.{room_in}
use Rattle.reader.specs.declared.Step.{Step}
use Rattle.reader.specs.State.{State, opened, unopened, is_kind, start_of, reading_by, ready_by, fits_by, handed, owed, reader_of, header_full, Sound}

-- open: a kind that there is
unfoldable pub open_said : ℕ → Said ℕ
open_said kind = demand (is_kind kind) 10 kind (answers 0)

abbrev pub after_open : ℕ → Said ℕ → State
after_open kind (answers n) = opened kind
after_open kind (refusal why) = unopened

-- a piece: the reader takes pieces, the bytes joined are within the limit, every block fits, and there is room for all that the piece
-- brings out
abbrev pub brings : State → List ℕ → ℕ
brings s piece = ready_by s.kind (s.bytes ++ piece) - ready_by s.kind s.bytes

unfoldable pub piece_said : State → List ℕ → ℕ → Said ℕ
piece_said s piece room =
    demand (eqb s.phase 0) 6 0
    (demand (leb (length s.bytes + length piece) limit) 2 limit
    (demand (fits_by s.kind (s.bytes ++ piece)) 7 12288
    (demand (leb (brings s piece) room) 8 (brings s piece) (answers (brings s piece)))))

abbrev pub after_piece : State → List ℕ → Said ℕ → State
after_piece s piece (answers n) = record { kind = s.kind; bytes = s.bytes ++ piece; drained = s.drained; phase = s.phase }
after_piece s piece (refusal why) = s

-- the strict end: not while draining; nothing more once ended; else the header is full, the last block whole, and nothing is owed
abbrev pub in_block : ℕ → ℕ → ℕ
in_block a long = (long - a) % 512

unfoldable pub strict_by : ℕ → ℕ → ℕ → ℕ → Said ℕ
strict_by phase a long owed =
    demand (not (eqb phase 1)) 6 0
    (cond (eqb phase 2) (answers 0)
    (demand (header_full a long) 3 a
    (demand (eqb (in_block a long) 0) 13 (in_block a long)
    (demand (eqb owed 0) 14 owed (answers 0)))))

-- the lenient end: the header is full, and as many of the owed packets come as there is room for
unfoldable pub lenient_by : ℕ → ℕ → ℕ → ℕ → Said ℕ
lenient_by a long owed room = demand (header_full a long) 3 a (answers (min room owed))

-- an end, by which of the two is meant; there is no third, whatever the phase
abbrev pub strict : ℕ
strict = 0

abbrev pub lenient : ℕ
lenient = 1

abbrev pub end_by : ℕ → ℕ → ℕ → ℕ → ℕ → ℕ → Said ℕ
end_by choice phase a long owed room =
    cond (eqb choice strict) (strict_by phase a long owed) (cond (eqb choice lenient) (lenient_by a long owed room) (refuses 22 0))

abbrev pub end_said : State → ℕ → ℕ → Said ℕ
end_said s choice room = end_by choice s.phase (start_of s.kind) (length s.bytes) (owed s) room

-- one that is answered has handed out so many more: the reader drains while some are owed, and has ended when none is
abbrev pub after_end : State → Said ℕ → State
after_end s (answers n) =
    record { kind = s.kind; bytes = s.bytes; drained = s.drained + n; phase = cond (eqb n (owed s)) 2 1 }
after_end s (refusal why) = s

-- how many packets what is said hands out
abbrev pub handed_by : Said ℕ → ℕ
handed_by (answers n) = n
handed_by (refusal why) = 0

-- what is left in the output and in the count table: that many packets of a reading from its packet k on, in front. A refused call
-- leaves both as they were
abbrev pub out_after : Reading → ℕ → Said ℕ → List ℕ → List ℕ
out_after reading k (answers n) out = over (42 * n) (λ i. joined_byte_at reading (42 * k + i)) out
out_after reading k (refusal why) out = out

abbrev pub counts_after : Reading → ℕ → Said ℕ → List ℕ → List ℕ
counts_after reading k (answers n) counts = over n (λ i. file_count_at reading (k + i)) counts
counts_after reading k (refusal why) counts = counts

-- a call's answer and next state
pub record Steps (said : Said ℕ) (next : State) (step : Step) : Type 0 where
  pub answer_is : result_says step.answer ≡ said
  pub reader_is : step.reader ≡ reader_of next
  pub sound : Sound next

-- what a call leaves in the lent buffers
pub record Hands (reading : Reading) (k : ℕ) (said : Said ℕ) (out out' counts counts' : List ℕ) : Type 0 where
  pub out_is : out' ≡ out_after reading k said out
  pub counts_are : counts' ≡ counts_after reading k said counts

-- the outcomes of the calls, at a state
abbrev pub Opens : ℕ → Step → Type 0
Opens kind step = Steps (open_said kind) (after_open kind (open_said kind)) step

pub record Takes (s : State) (piece out out' counts counts' : List ℕ) (step : Step) : Type 0 where
  pub steps : Steps (piece_said s piece (room_in out counts)) (after_piece s piece (piece_said s piece (room_in out counts))) step
  pub hands : Hands (reading_by s.kind (s.bytes ++ piece)) (handed s) (piece_said s piece (room_in out counts)) out out' counts counts'

pub record Ends (s : State) (choice : ℕ) (out out' counts counts' : List ℕ) (step : Step) : Type 0 where
  pub steps : Steps (end_said s choice (room_in out counts)) (after_end s (end_said s choice (room_in out counts))) step
  pub hands : Hands (reading_by s.kind s.bytes) (handed s) (end_said s choice (room_in out counts)) out out' counts counts'

-- the states that open and the calls lead to
pub data Reachable : State → Type 0 where
  by_open : (kind : ℕ) → Reachable (after_open kind (open_said kind))
  by_piece : {s : State} (piece : List ℕ) (room : ℕ) → Bytes piece → Reachable s → Reachable (after_piece s piece (piece_said s piece room))
  by_end : {s : State} (choice room : ℕ) → Reachable s → Reachable (after_end s (end_said s choice room))
