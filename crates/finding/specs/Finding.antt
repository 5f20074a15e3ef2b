-- The entry for a packet's number: of those that an index has, the last that begins at or before it. Refusal 18 after those of reading.
-- Assumes nothing.
use Rattle.std.specs.Prelude.{ℕ, List, [], ◌∷◌, true, false, cond, leb, ltb}
use Rattle.refusals.specs.Said.{Said, answers, demand, onward}
use Rattle.whole.specs.declared.Recording.{Recording}
use Rattle.whole.specs.Admissions.{admission}
use Rattle.entries.specs.declared.Entry.{Entry}
use Rattle.entries.specs.Entries.{entry_by, Contents}
use Rattle.index.specs.Reading.{read_beside}

-- the last of these entries that begins at or before packet p, or the one given where none does
unfoldable pub last_upto : ℕ → Entry → List Entry → Entry
last_upto p before [] = before
last_upto p before (entry ∷ more) = last_upto p (cond (leb entry.first p) entry before) more

-- where there is a packet p there is such an entry, so that nothing hangs on the one given
abbrev pub last_in : ℕ → List Entry → Entry
last_in p entries = last_upto p (entry_by 0 0 0) entries

-- the number is to be below the packets in all: refusal 18 with how many these are
abbrev pub found_in : ℕ → Contents → Said Entry
found_in p c = demand (ltb p c.total) 18 c.total (answers (last_in p c.entries))

-- by an index beside a recording, and beside any file
abbrev pub found_beside : List ℕ → Recording → List ℕ → ℕ → Said Entry
found_beside f rec x p = onward (read_beside f rec x) (found_in p)

unfoldable pub entry_found : List ℕ → List ℕ → ℕ → Said Entry
entry_found f x p = onward (admission f true false) (λ rec. found_beside f rec x p)
