-- What only contracts of inner functions speak of: what is asked before a frame is filled or shown.
-- Assumes nothing.
use Rattle.std.specs.Prelude.{ℕ, ◌+◌, ◌*◌, ◌≤◌, ◌<◌, List}
use Rattle.blocks.specs.Places.{Whole}
use Rattle.whole.specs.declared.Recording.{Recording}

-- what is asked before a frame is filled or shown: the recording lies in the file, the frame in its stream, and the scratch is large
-- enough
pub record Fetchable (f : List ℕ) (rec : Recording) (q size room : ℕ) : Type 0 where
  pub whole : Whole f rec.start.0 rec.blocks
  pub some : 0 < size
  pub most : size ≤ 56
  pub there : q + size ≤ 506 * rec.blocks
  pub roomy : 56 ≤ room
