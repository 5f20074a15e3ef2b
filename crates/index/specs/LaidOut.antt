-- The bytes of an index as the rules describe them, as numbers: how many follow the first four, version 1, and three numbers for each entry, four
-- bytes each, the highest first. Assumes nothing.
use Rattle.std.specs.Prelude.{ℕ, ◌+◌, ◌*◌, ◌-◌, ◌<◌, ◌≡◌, List, length, get_or}
use Rattle.entries.specs.declared.Entry.{Entry}
use Rattle.entries.specs.Words.{word_at}
use Rattle.entries.specs.Described.{entry}

pub record LaidOut (x : List ℕ) (entries : List Entry) : Type 0 where
  pub long : length x ≡ 5 + 12 * length entries
  pub follow : word_at x 0 ≡ length x - 4
  pub version : get_or x 4 0 ≡ 1
  pub numbers : (i : ℕ) → i < length entries → word_at x (5 + 12 * i) ≡ (entry entries i).number
  pub firsts : (i : ℕ) → i < length entries → word_at x (5 + 12 * i + 4) ≡ (entry entries i).first
  pub places : (i : ℕ) → i < length entries → word_at x (5 + 12 * i + 8) ≡ (entry entries i).place.0
