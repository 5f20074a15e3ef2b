-- Reading an index with its file lent: refusals 19, 20 and 21 after those of the file, or what the index speaks of.
-- Assumes nothing.
use Rattle.std.specs.Prelude.{ℕ, ◌-◌, List, Bool, true, false, ◌&&◌, length, get_or, drop, eqb, leb, ltb}
use Rattle.refusals.specs.Said.{Said, answers, demand, onward}
use Rattle.whole.specs.declared.Recording.{Recording}
use Rattle.whole.specs.Admissions.{admission}
use Rattle.entries.specs.Words.{word_at}
use Rattle.entries.specs.Entries.{Contents, contents_in}
use Rattle.entries.specs.Held.{is_rest, first_wrong}

-- of any file: refusals 1, 2 and 3, or what its index speaks of
unfoldable pub contents_of : List ℕ → Said Contents
contents_of f = onward (admission f true false) (λ rec. answers (contents_in f rec))

-- the length field is there, is above 0, and is the number of bytes that follow it
unfoldable pub framed : List ℕ → Bool
framed x = leb 4 (length x) && (ltb 0 (word_at x 0) && eqb (word_at x 0) (length x - 4))

-- the rest of an index, behind its head, is what it should speak of
abbrev pub held_to : Contents → List ℕ → Said Contents
held_to c rest = demand (is_rest c.entries rest) 21 (first_wrong c.entries rest) (answers c)

-- an index of edition 1: its length, its version, and the rest
abbrev pub read_to : Contents → List ℕ → Said Contents
read_to c x = demand (framed x) 19 0 (demand (eqb (get_or x 4 0) 1) 20 (get_or x 4 0) (held_to c (drop 5 x)))

-- beside a recording, and beside any file
abbrev pub read_beside : List ℕ → Recording → List ℕ → Said Contents
read_beside f rec x = read_to (contents_in f rec) x

unfoldable pub index_read : List ℕ → List ℕ → Said Contents
index_read f x = onward (admission f true false) (λ rec. read_beside f rec x)
