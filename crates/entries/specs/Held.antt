-- The rest of an index, behind its head, held to the entries that it should have.
-- Assumes nothing.
use Rattle.std.specs.Prelude.{ℕ, ◌*◌, List, [], ◌∷◌, Bool, true, false, ◌&&◌, length, take, drop, eqb}
use Rattle.tables.specs.Leading.{leading}
use Rattle.entries.specs.declared.Entry.{Entry}
use Rattle.entries.specs.Index.{entries_bytes}

-- two lists are the same
unfoldable pub same : List ℕ → List ℕ → Bool
same [] [] = true
same [] (y ∷ ys) = false
same (x ∷ xs) [] = false
same (x ∷ xs) (y ∷ ys) = eqb x y && same xs ys

-- part i of some bytes: twelve bytes, as an entry has, or what is left of them
abbrev pub part : ℕ → List ℕ → List ℕ
part i bytes = take 12 (drop (12 * i) bytes)

-- the rest is these entries
abbrev pub is_rest : List Entry → List ℕ → Bool
is_rest entries rest = same rest (entries_bytes entries)

-- the first entry that differs, is cut or absent; and where there is none, the number after the last one's: one too many
unfoldable pub first_wrong : List Entry → List ℕ → ℕ
first_wrong entries rest = leading (λ i. same (part i rest) (part i (entries_bytes entries))) (length entries)
