-- What only contracts of inner functions speak of: bytes that are laid over a part of an output, an entry that is read, and where one stands.
-- Assumes nothing.
use Rattle.std.specs.Prelude.{ℕ, ◌+◌, ◌*◌, ◌<◌, ◌^◌, List, length, get_or}
use Rattle.tables.specs.Lent.{Leaves}
use Rattle.entries.specs.declared.Entry.{Entry}
use Rattle.entries.specs.Words.{word_at}
use Rattle.entries.specs.Entries.{entry_by}

-- e is d but for these bytes, from a on
abbrev pub Lays : List ℕ → ℕ → List ℕ → List ℕ → Type 0
Lays d a bytes e = Leaves d a (length bytes) (λ i. get_or bytes i 0) e

-- the entry whose bytes stand at place i of some bytes
abbrev pub entry_at : List ℕ → ℕ → Entry
entry_at x i = entry_by (word_at x i) (word_at x (i + 4)) (word_at x (i + 8))

-- where entry i stands, if the entries begin at `front`
abbrev pub entry_place : ℕ → ℕ → ℕ
entry_place front i = front + 12 * i

-- an entry whose numbers fit four bytes each
pub record Fits (e : Entry) : Type 0 where
  pub number : e.number < 2 ^ 32
  pub first : e.first < 2 ^ 32
  pub place : e.place.0 < 2 ^ 32
