-- The entries as the rules describe them, in the words of headers and of reading: one for each announcing block, in order, with the number of its
-- first packet and the place where that packet is read. It does not speak of how they are gathered. Assumes nothing.
use Rattle.std.specs.Prelude.{ℕ, ◌<◌, ◌≡◌, List, length, get_or}
use Rattle.blocks.specs.Headers.{count_of, announced_in}
use Rattle.whole.specs.declared.Recording.{Recording}
use Rattle.sp.specs.ReadLists.{dss_runs}
use Rattle.sp.specs.Readings.{walk_at, reading_of}
use Rattle.entries.specs.declared.Entry.{Entry}
use Rattle.entries.specs.Entries.{entry_by}

-- entry i; past the last there is none
abbrev pub entry : List Entry → ℕ → Entry
entry entries i = get_or entries i (entry_by 0 0 0)

pub record Described (f : List ℕ) (rec : Recording) (entries : List Entry) : Type 0 where
  -- each is of a block that announces something, and of no other
  pub of_block : (i : ℕ) → i < length entries → (entry entries i).number < rec.blocks
  pub announces : (i : ℕ) → i < length entries → 0 < count_of f rec.start.0 (entry entries i).number
  -- every such block has one, and they stand in the blocks' order
  pub every : (b : ℕ) → b < rec.blocks → 0 < count_of f rec.start.0 b → (i : ℕ) × (i < length entries) × ((entry entries i).number ≡ b)
  pub in_order : (i j : ℕ) → i < j → j < length entries → (entry entries i).number < (entry entries j).number
  -- as many packets are announced before a block as its first packet's number says, and that packet is read at its place
  pub first_is : (i : ℕ) → i < length entries → (entry entries i).first ≡ announced_in f rec.start.0 (entry entries i).number
  pub place_is : (i : ℕ) → i < length entries → (entry entries i).place.0 ≡ (walk_at (reading_of f rec dss_runs) (entry entries i).first).place
