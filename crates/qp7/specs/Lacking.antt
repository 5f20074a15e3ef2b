-- What a refusal of a record says: where the walk stopped, how long the record is, and how many bytes of it the stream does not have.
-- Assumes nothing.
use Rattle.std.specs.Prelude.{ℕ, ◌+◌, ◌*◌, ◌%◌, ◌≤◌, ◌<◌, ◌≡◌, List}
use Rattle.blocks.specs.Places.{stream_at}
use Rattle.blocks.specs.Headers.{first_of, count_of}
use Rattle.refusals.specs.declared.Numbers.{Numbers}
use Rattle.refusals.specs.Said.{answers}
use Rattle.whole.specs.declared.Recording.{Recording}
use Rattle.whole.specs.Admissions.{stream_in}
use Rattle.frames.specs.Start.{frames_start}
use Rattle.qp7.specs.Records.{record_size}
use Rattle.qp7.specs.Walk.{Gathered, raised, reads, gathered_to}

-- the walk over n blocks stops at a place: the blocks before some block are read, and of the records that this block announces the first so
-- many, and there the next one should begin
pub record Stops (f : List ℕ) (a n place : ℕ) : Type 0 where
  pub block : ℕ
  pub block_there : block < n
  pub before : Gathered
  pub came_to : gathered_to f a n block ≡ answers before
  pub read : ℕ
  pub more_announced : read < count_of f a block
  pub here : Gathered
  pub reads_to : reads (stream_at f a n) (506 * n) read (raised (frames_start block (first_of f a block)) before) ≡ answers here
  pub place_is : place ≡ here.place

-- what a refusal says of a recording's stream, which has 506 bytes for each whole block. By 5: the record has that size by the byte after its
-- place, it would end so many bytes past the stream's end, which are an even number and at least one, and two at least are there. By 4: none
-- of the two bytes is there that would tell the size
pub record Lacks (f : List ℕ) (rec : Recording) (why : Numbers) : Type 0 where
  pub stops : Stops f rec.start.0 rec.blocks why.beside
  pub cut : why.number ≡ 5
      → (why.size ≡ record_size (stream_in f rec (why.beside + 1))) × (why.beside + why.size ≡ 506 * rec.blocks + why.absent)
      × (1 ≤ why.absent) × (why.absent % 2 ≡ 0) × (why.absent + 2 ≤ why.size)
  pub untold : why.number ≡ 4 → (why.size ≡ 0) × (why.beside + 2 ≡ 506 * rec.blocks + why.absent) × (why.absent ≡ 2)
