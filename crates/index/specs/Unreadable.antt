-- Which bytes are not a recording's index, by the number that they are refused by and the number beside it: the length field, then the version, then
-- the first entry that is not there as it should be. It cites nothing of how reading decides. Assumes nothing.
use Rattle.std.specs.Prelude.{ℕ, ◌*◌, ◌-◌, ◌≤◌, ◌<◌, ◌≡◌, List, length, get_or, take, drop}
use Rattle.entries.specs.declared.Entry.{Entry}
use Rattle.entries.specs.Words.{word_at}
use Rattle.entries.specs.Index.{entry_bytes}
use Rattle.entries.specs.Described.{entry}

-- the length field is there, is above 0, and is the number of bytes that follow it
pub record HasLength (x : List ℕ) : Type 0 where
  pub there : 4 ≤ length x
  pub some : 0 < word_at x 0
  pub follow : word_at x 0 ≡ length x - 4

-- entry k is the first that is not in the rest as it should be: its twelve bytes differ, are cut or absent; or all are right, and more follows
pub record FirstWrong (entries : List Entry) (rest : List ℕ) (k : ℕ) : Type 0 where
  pub within : k ≤ length entries
  pub before : (i : ℕ) → i < k → take 12 (drop (12 * i) rest) ≡ entry_bytes (entry entries i)
  pub wrong : k < length entries → take 12 (drop (12 * k) rest) ≡ entry_bytes (entry entries k) → ⊥
  pub too_many : k ≡ length entries → 12 * k < length rest

pub data Unreadable (x : List ℕ) (entries : List Entry) : ℕ → ℕ → Type 0 where
  no_length : (HasLength x → ⊥) → Unreadable x entries 19 0
  other_version : HasLength x → (get_or x 4 0 ≡ 1 → ⊥) → Unreadable x entries 20 (get_or x 4 0)
  not_entries : {k : ℕ} → HasLength x → get_or x 4 0 ≡ 1 → FirstWrong entries (drop 5 x) k → Unreadable x entries 21 k
