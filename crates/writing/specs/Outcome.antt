-- What the writer of DS2 SP files answers and leaves in the lent output: refusals 15, 16, 17 and 8 with the numbers beside them, or how long
-- the file is. A refused call leaves the output as it was; an answered one writes the file over its front, and no other byte.
-- Assumes nothing.
use Rattle.std.specs.Prelude.{ℕ, ◌*◌, ◌≡◌, List, length, leb, eqb, Result}
use Rattle.tables.specs.Lent.{over}
use Rattle.tables.specs.Leading.{leading}
use Rattle.blocks.specs.Places.{limit}
use Rattle.refusals.specs.Said.{Said, answers, refusal, demand, result_says}
use Rattle.laying.specs.Header.{is_header}
use Rattle.laying.specs.Laid.{size_for, file_byte}
use Rattle.writing.specs.Laying.{many_in, byte_in, list_laid}
use Rattle.refusals.specs.declared.Refusal.{Refusal}

-- how many packets the list begins with that are all there and have byte 40 at 0: the number of the first that is not so
unfoldable pub sound_in : List ℕ → ℕ
sound_in packets = leading (λ k. eqb (byte_in packets k 40) 0) (many_in packets)

-- how long the file of a list is
abbrev pub size_of : List ℕ → ℕ
size_of packets = size_for (list_laid packets)

-- the header, the packets, the limit, the room
unfoldable pub written_size : List ℕ → List ℕ → ℕ → Said ℕ
written_size header packets room =
    demand (is_header header) 15 0
    (demand (eqb (42 * sound_in packets) (length packets)) 16 (sound_in packets)
    (demand (leb (size_of packets) limit) 17 limit
    (demand (leb (size_of packets) room) 8 (size_of packets)
    (answers (size_of packets)))))

-- the output afterwards
abbrev pub out_after : Said ℕ → List ℕ → List ℕ → List ℕ → List ℕ
out_after (answers size) header packets out = over size (file_byte header (list_laid packets)) out
out_after (refusal why) header packets out = out

-- the call's outcome is the definition's: answer and output
pub record Writes (header packets out out' : List ℕ) (answer : Result ℕ Refusal) : Type 0 where
  pub answer_is : result_says answer ≡ written_size header packets (length out)
  pub out_is : out' ≡ out_after (written_size header packets (length out)) header packets out
