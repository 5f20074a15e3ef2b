-- A frame on request, by two calls over a DS2 file of any type: the first fills the scratch where the frame crosses a block, the second
-- shows a part of the file or of the scratch. Refusals 1, 2, 3 and 12, the same for both. Assumes nothing.
use Rattle.std.specs.Prelude.{ℕ, ◌+◌, ◌*◌, ◌%◌, ◌≡◌, List, [], Bool, true, false, cond, ◌&&◌, length, take, drop, leb, Result, Ok, Err}
use Rattle.tables.specs.Lent.{over}
use Rattle.blocks.specs.Places.{file_of}
use Rattle.refusals.specs.declared.Refusal.{Refusal}
use Rattle.refusals.specs.Numbers.{in_numbers}
use Rattle.refusals.specs.Said.{Said, answers, refusal, demand, onward}
use Rattle.whole.specs.declared.Recording.{Recording}
use Rattle.whole.specs.Admissions.{admission, stream_in}
use Rattle.frames.specs.declared.Fetched.{Fetched}
use Rattle.frames.specs.declared.Fetched.TheVariants.{InFile, InScratch}

-- a frame can be fetched: its size is 1 to 56, it ends in the stream of so many blocks, and the scratch has room for 56 bytes
unfoldable pub can_fetch : ℕ → ℕ → ℕ → ℕ → Bool
can_fetch blocks q size room = leb 1 size && (leb size 56 && (leb (q + size) (506 * blocks) && leb 56 room))

-- of any file: what every whole call asks first, then the frame. The recording that the frame is fetched from
unfoldable pub fetch_from : List ℕ → ℕ → ℕ → ℕ → Said Recording
fetch_from f q size room =
    onward (admission f false true) (λ rec. demand (can_fetch rec.blocks q size room) 12 0 (answers rec))

-- the frame lies inside one block
abbrev pub is_inside : ℕ → ℕ → Bool
is_inside q size = leb (q % 506 + size) 506

-- a frame stands in the file, from a place on, if it lies inside one block, and otherwise at the scratch's start
pub data Stand : Type 0 where
  in_file : ℕ → Stand
  in_scratch : Stand

abbrev pub stand_in : Recording → ℕ → ℕ → Stand
stand_in rec q size = cond (is_inside q size) (in_file (file_of rec.start.0 q)) in_scratch

-- where a frame stands, or why it cannot be fetched
unfoldable pub standing : Said Recording → ℕ → ℕ → Said Stand
standing said q size = onward said (λ rec. answers (stand_in rec q size))

-- the code's answer, read so
abbrev pub stand_of : Fetched → Stand
stand_of (InFile place) = in_file place.0
stand_of InScratch = in_scratch

abbrev pub fetched_says : Result Fetched Refusal → Said Stand
fetched_says (Ok fetched) = answers (stand_of fetched)
fetched_says (Err why) = refusal (in_numbers why)

-- the scratch after the first call: its start holds the frame if that crosses a block, and nothing else is changed
abbrev pub filled_from : List ℕ → Recording → ℕ → ℕ → List ℕ → List ℕ
filled_from f rec q size scratch =
    cond (is_inside q size) scratch (over size (λ k. stream_in f rec (q + k)) scratch)

abbrev pub filled_by : List ℕ → Said Recording → ℕ → ℕ → List ℕ → List ℕ
filled_by f (answers rec) q size scratch = filled_from f rec q size scratch
filled_by f (refusal why) q size scratch = scratch

unfoldable pub filled : List ℕ → ℕ → ℕ → List ℕ → List ℕ
filled f q size scratch = filled_by f (fetch_from f q size (length scratch)) q size scratch

-- what the second call shows: those bytes of the file, or the scratch's start; an empty part where it refuses
abbrev pub shown_from : List ℕ → Recording → ℕ → ℕ → List ℕ → List ℕ
shown_from f rec q size scratch = cond (is_inside q size) (take size (drop (file_of rec.start.0 q) f)) (take size scratch)

abbrev pub shown_by : List ℕ → Said Recording → ℕ → ℕ → List ℕ → List ℕ
shown_by f (answers rec) q size scratch = shown_from f rec q size scratch
shown_by f (refusal why) q size scratch = []

unfoldable pub shown : List ℕ → ℕ → ℕ → List ℕ → List ℕ
shown f q size scratch = shown_by f (fetch_from f q size (length scratch)) q size scratch

-- the first call's outcome is the definition's: answer and scratch
pub record Fills (f : List ℕ) (q size : ℕ) (scratch scratch' : List ℕ) (answer : Result Fetched Refusal) : Type 0 where
  pub answer_is : fetched_says answer ≡ standing (fetch_from f q size (length scratch)) q size
  pub scratch_is : scratch' ≡ filled f q size scratch
