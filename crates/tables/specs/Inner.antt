-- What only contracts of inner functions speak of: a table that is written from the front as far as some number of words.
-- Assumes nothing.
use Rattle.std.specs.Prelude.{ℕ, ◌*◌, ◌≤◌, ◌<◌, min, ◌≡◌, List, length, get_or}
use Rattle.tables.specs.Lent.{Leaves}

-- e is d with the words of a list over its front, as many of them as `most` and no more
abbrev pub Fronts : List ℕ → ℕ → List ℕ → List ℕ → Type 0
Fronts d most words e = Leaves d 0 (min most (length words)) (λ k. get_or words k 0) e

-- an entry is put after `number` others of its width where that number is below `most`, and is otherwise left out
pub record Puts (d : List ℕ) (number most : ℕ) (entry : List ℕ) (e : List ℕ) : Type 0 where
  pub put : number < most → Leaves d (length entry * number) (length entry) (λ k. get_or entry k 0) e
  pub left_out : most ≤ number → e ≡ d
