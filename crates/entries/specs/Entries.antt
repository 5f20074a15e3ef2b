-- What an index has of a DSS recording: an entry for each announcing block, and how many packets there are in all.
-- Assumes nothing.
use Rattle.std.specs.Prelude.{ℕ, List, map}
use Rattle.blocks.specs.Headers.{first_of, swap_of, announced_in}
use Rattle.whole.specs.declared.Recording.{Recording}
use Rattle.whole.specs.Admissions.{announced_by}
use Rattle.packets.specs.Start.{dss_start}
use Rattle.sp.specs.ReadLists.{announcing}
use Rattle.entries.specs.declared.Entry.{Entry}

-- an entry by its three numbers
abbrev pub entry_by : ℕ → ℕ → ℕ → Entry
entry_by number first place = record { number = number; first = first; place = record { 0 = place } }

-- the entry of block b: its number, the number of its first packet, and where its reads start in the payload stream
abbrev pub entry_of : List ℕ → ℕ → ℕ → Entry
entry_of f a b = entry_by b (announced_in f a b) (dss_start b (first_of f a b) (swap_of f a b))

-- one for each announcing block among the first n
abbrev pub entries_in : List ℕ → ℕ → ℕ → List Entry
entries_in f a n = map (entry_of f a) (announcing f a n)

-- what an index speaks of: the entries, and how many packets there are in all
pub record Contents : Type 0 where
  pub entries : List Entry
  pub total : ℕ

-- of a recording
abbrev pub entries_by : List ℕ → Recording → List Entry
entries_by f rec = entries_in f rec.start.0 rec.blocks

abbrev pub contents_in : List ℕ → Recording → Contents
contents_in f rec = record { entries = entries_by f rec; total = announced_by f rec }
