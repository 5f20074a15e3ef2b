-- What an SP call answers and leaves in the two lent buffers, given its reading: refusal 8 with the packets needed, or all
-- the packets and their counts. A refused call leaves everything as it was. Assumes nothing.
use Rattle.std.specs.Prelude.{ℕ, ◌*◌, ◌/◌, min, ◌≡◌, List, length, leb, Result}
use Rattle.tables.specs.Lent.{over}
use Rattle.refusals.specs.Said.{Said, answers, refusal, demand, onward, result_says}
use Rattle.sp.specs.Readings.{Reading, total, joined_byte_at, file_count_at}
use Rattle.refusals.specs.declared.Refusal.{Refusal}

-- room for packets: the smaller of the output's length by 42 and the count table's
abbrev pub room_in : List ℕ → List ℕ → ℕ
room_in out counts = min (length out / 42) (length counts)

-- the reading, if there is room for all its packets
unfoldable pub in_room : Said Reading → ℕ → Said Reading
in_room said room = onward said (λ reading. demand (leb (total reading) room) 8 (total reading) (answers reading))

-- the answer is the number of packets
abbrev pub answered : Said Reading → Said ℕ
answered said = onward said (λ reading. answers (total reading))

-- the output holds the packets joined, the table their counts, and what lies past them is as it was
abbrev pub out_after : Said Reading → List ℕ → List ℕ
out_after (answers reading) out = over (42 * total reading) (joined_byte_at reading) out
out_after (refusal why) out = out

abbrev pub counts_after : Said Reading → List ℕ → List ℕ
counts_after (answers reading) counts = over (total reading) (file_count_at reading) counts
counts_after (refusal why) counts = counts

-- the call's outcome is the definition's: answer, output and counts
pub record Demuxes (reading : Said Reading) (out out' counts counts' : List ℕ) (answer : Result ℕ Refusal) : Type 0 where
  pub answer_is : result_says answer ≡ answered (in_room reading (room_in out counts))
  pub out_is : out' ≡ out_after (in_room reading (room_in out counts)) out
  pub counts_are : counts' ≡ counts_after (in_room reading (room_in out counts)) counts
