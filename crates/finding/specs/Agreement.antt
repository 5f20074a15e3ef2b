-- What an entry that was found has to do with its packet, and what a call for the packet says after reading the index.
-- Assumes nothing.
use Rattle.std.specs.Prelude.{ℕ, ◌+◌, ◌≤◌, ◌<◌, ◌≡◌, List, leb, ltb}
use Rattle.blocks.specs.Headers.{count_of}
use Rattle.refusals.specs.Said.{Said, answers, demand, onward}
use Rattle.whole.specs.declared.Recording.{Recording}
use Rattle.entries.specs.declared.Entry.{Entry}
use Rattle.entries.specs.Entries.{entry_of, Contents}

-- the entry of a block of the recording that has packet p: its first packet or a later one, of as many in all as the block announces
pub record HasPacket (f : List ℕ) (rec : Recording) (p : ℕ) (entry : Entry) : Type 0 where
  pub there : entry.number < rec.blocks
  pub is : entry ≡ entry_of f rec.start.0 entry.number
  pub from : entry.first ≤ p
  pub below : p < entry.first + count_of f rec.start.0 entry.number

-- what is said of packet p, with room for so many packets: what reading the index is refused by, 18 with the total, 8 with 1, or one packet
abbrev pub said_by : Said Contents → ℕ → ℕ → Said ℕ
said_by read p room =
    onward read (λ c. demand (ltb p c.total) 18 c.total (demand (leb 1 room) 8 1 (answers 1)))
