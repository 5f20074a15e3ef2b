-- The bytes of an index: a length of all that follows it, a head, and the entries. The head of edition 1 is its version alone.
-- Assumes nothing.
use Rattle.std.specs.Prelude.{ℕ, ◌+◌, ◌*◌, List, [], ◌∷◌, ◌++◌, length}
use Rattle.tables.specs.Entries.{in_turn}
use Rattle.entries.specs.declared.Entry.{Entry}
use Rattle.entries.specs.Words.{word32}
use Rattle.entries.specs.Entries.{Contents}

-- an entry's twelve bytes: three numbers of four
abbrev pub entry_bytes : Entry → List ℕ
entry_bytes e = word32 e.number ++ word32 e.first ++ word32 e.place.0

-- the entries' bytes, one after another
abbrev pub entries_bytes : List Entry → List ℕ
entries_bytes entries = in_turn entry_bytes entries

-- what stands before the entries, of which there are so many
abbrev pub front_bytes : List ℕ → ℕ → List ℕ
front_bytes head n = word32 (length head + 12 * n) ++ head

-- an index with this head
abbrev pub index_bytes : List ℕ → List Entry → List ℕ
index_bytes head entries = front_bytes head (length entries) ++ entries_bytes entries

-- edition 1: version 1
abbrev pub edition1 : List ℕ
edition1 = 1 ∷ []

-- the index of edition 1, and how many bytes it has
abbrev pub index_of : Contents → List ℕ
index_of c = index_bytes edition1 c.entries

abbrev pub size_of : Contents → ℕ
size_of c = length (index_of c)
