-- What only contracts of inner functions speak of: how the code's numbers stand for what was gathered, and what is left in the table when as
-- many entries are written as the code is told, which may be none. Assumes nothing.
use Rattle.std.specs.Prelude.{ℕ, ◌+◌, ◌*◌, ◌≤◌, ◌≡◌, List, length}
use Rattle.tables.specs.Inner.{Fronts}
use Rattle.qp.specs.declared.Segment.{Segment}
use Rattle.qp.specs.declared.Gathering.{Gathering}
use Rattle.qp.specs.Segments.{Gathered, closed, moved}
use Rattle.qp.specs.Outcome.{width, words}

-- the code counts the segments that the definition lists
abbrev pub numbers_of : Gathered → Gathering
numbers_of g =
    record {
      start = record { 0 = g.start };
      place = record { 0 = g.place };
      frames = g.frames;
      kept = length g.kept;
    }

-- the open segment starts in a stream of so many bytes, its read place is 56 bytes on for each frame, and its frames and the segments kept
-- are at most so many
pub record Near (long frames kept : ℕ) (gathering : Gathering) : Type 0 where
  pub start_in : gathering.start.0 ≤ long
  pub place_is : gathering.place.0 ≡ gathering.start.0 + 56 * gathering.frames
  pub frames_few : gathering.frames ≤ frames
  pub kept_few : gathering.kept ≤ kept

-- the table holds the entries of these segments over some d, as far as `most`
abbrev pub Holds : ℕ → List Segment → List ℕ → List ℕ → Type 0
Holds most segments d table = Fronts d (width * most) (words segments) table

-- the open segment is closed: how many are kept then, and what is left in a table that held those before
pub record Closes (long most : ℕ) (g : Gathered) (table table' : List ℕ) (kept : ℕ) : Type 0 where
  pub kept_is : kept ≡ length (closed long g)
  pub written : (d : List ℕ) → Holds most g.kept d table → Holds most (closed long g) d table'

-- a block arrives that starts at q: the same
pub record Moves (long q most : ℕ) (g : Gathered) (table table' : List ℕ) (gathering : Gathering) : Type 0 where
  pub gathering_is : gathering ≡ numbers_of (moved long q g)
  pub written : (d : List ℕ) → Holds most g.kept d table → Holds most (moved long q g).kept d table'
