-- What only contracts of inner functions speak of: text in a line.
-- Assumes nothing.
use Rattle.std.specs.Prelude.{ℕ, ◌+◌, ◌≡◌, List, length, get_or}
use Rattle.tables.specs.Lent.{Leaves}

-- text is put into a line from a place on: every other byte is as it was, and the answer is where the text ends
pub record Put (text : List ℕ) (at : ℕ) (line line' : List ℕ) (end : ℕ) : Type 0 where
  pub bytes : Leaves line at (length text) (λ k. get_or text k 0) line'
  pub end_is : end ≡ at + length text
