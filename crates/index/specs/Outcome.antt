-- What building and reading an index answer, and what building leaves in the lent output. A refused call leaves it as it was.
-- Assumes nothing.
use Rattle.std.specs.Prelude.{ℕ, ◌≡◌, List, length, leb, Result}
use Rattle.tables.specs.Entries.{fronted}
use Rattle.refusals.specs.Said.{Said, answers, refusal, demand, onward, result_says}
use Rattle.entries.specs.declared.Totals.{Totals}
use Rattle.entries.specs.Entries.{Contents}
use Rattle.entries.specs.Index.{index_of, size_of}
use Rattle.index.specs.declared.Size.{Size}
use Rattle.refusals.specs.declared.Refusal.{Refusal}

-- building asks for room for all bytes of the index
unfoldable pub in_room : Said Contents → ℕ → Said Contents
in_room said room = onward said (λ c. demand (leb (size_of c) room) 8 (size_of c) (answers c))

-- what it answers: how many bytes, and how many entries
abbrev pub sized : Said Contents → Said Size
sized said = onward said (λ c. answers (record { bytes = size_of c; entries = length c.entries }))

-- what it leaves: the index in front, and what lies past it as it was
abbrev pub out_after : Said Contents → List ℕ → List ℕ
out_after (answers c) out = fronted (index_of c) out
out_after (refusal why) out = out

-- what reading answers: how many entries, and how many packets
abbrev pub totals_of : Contents → Totals
totals_of c = record { entries = length c.entries; packets = c.total }

abbrev pub totalled : Said Contents → Said Totals
totalled said = onward said (λ c. answers (totals_of c))

-- the outcome of building is the definition's: answer and output
pub record Builds (contents : Said Contents) (out out' : List ℕ) (answer : Result Size Refusal) : Type 0 where
  pub answer_is : result_says answer ≡ sized (in_room contents (length out))
  pub out_is : out' ≡ out_after (in_room contents (length out)) out
