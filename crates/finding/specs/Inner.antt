-- What only contracts of inner functions speak of: where a search of an index comes to, and what is asked before a packet is handed out.
-- Assumes nothing.
use Rattle.std.specs.Prelude.{ℕ, ◌+◌, ◌-◌, ◌≤◌, ◌<◌, ◌^◌, ◌≡◌, List, length, Result}
use Rattle.refusals.specs.Said.{answers, refuses, result_says}
use Rattle.whole.specs.declared.Recording.{Recording}
use Rattle.sp.specs.Inner.{Readable}
use Rattle.entries.specs.declared.Entry.{Entry}
use Rattle.entries.specs.declared.Totals.{Totals}
use Rattle.entries.specs.Words.{word_at}
use Rattle.entries.specs.Inner.{entry_at, entry_place}
use Rattle.finding.specs.Agreement.{HasPacket}
use Rattle.refusals.specs.declared.Refusal.{Refusal}

-- the number of the first packet of entry i, if the entries begin at `front`
abbrev pub first_at : List ℕ → ℕ → ℕ → ℕ
first_at x front i = word_at x (entry_place front i + 4)

-- of so many entries, i begins at or before packet p, and the next one after it
pub record Crosses (x : List ℕ) (front entries p i : ℕ) : Type 0 where
  pub inside : i < entries
  pub begins : first_at x front i ≤ p
  pub next : i + 1 < entries → p < first_at x front (i + 1)

-- an index that can be searched: its entries are there, and where there are packets the first entry begins with packet 0
pub record Searchable (x : List ℕ) (front : ℕ) (totals : Totals) : Type 0 where
  pub there : entry_place front totals.entries ≤ length x
  pub begins : 0 < totals.packets → (0 < totals.entries) × (first_at x front 0 ≡ 0)

-- what a search of it comes to: 18 with the total, or an entry at which the numbers cross p
pub record Searched (x : List ℕ) (front : ℕ) (totals : Totals) (p : ℕ) (answer : Result Entry Refusal) : Type 0 where
  pub past : totals.packets ≤ p → result_says answer ≡ refuses 18 totals.packets
  pub found : p < totals.packets
      → (i : ℕ) × Crosses x front totals.entries p i × (result_says answer ≡ answers (entry_at x (entry_place front i)))

-- the recording can be read, the entry has that packet, and there is room for it. The bounds are far above what a file within the limit has
pub record Ready (f : List ℕ) (rec : Recording) (entry : Entry) (p : ℕ) (out counts : List ℕ) : Type 0 where
  pub readable : Readable f rec
  pub has : HasPacket f rec p entry
  pub near : entry.place.0 ≤ 2 ^ 44
  pub few : p - entry.first ≤ 255
  pub out_room : 42 ≤ length out
  pub counts_room : 1 ≤ length counts
