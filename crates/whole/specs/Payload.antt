-- A block's payload on request: refusals 1, 2, 3 and 12, or those 506 bytes of the file.
-- Assumes nothing.
use Rattle.std.specs.Prelude.{ℕ, ◌*◌, List, [], true, take, drop, ltb, Result, Ok, Err}
use Rattle.blocks.specs.declared.FilePlace.{FilePlace}
use Rattle.blocks.specs.Places.{file_of}
use Rattle.refusals.specs.Numbers.{in_numbers}
use Rattle.refusals.specs.Said.{Said, answers, refusal, demand, onward}
use Rattle.whole.specs.declared.Recording.{Recording}
use Rattle.whole.specs.Admissions.{admission}
use Rattle.refusals.specs.declared.Refusal.{Refusal}

-- the file place of the payload of a whole block of either magic, any type
abbrev pub place_in : Recording → ℕ → Said ℕ
place_in rec block = demand (ltb block rec.blocks) 12 0 (answers (file_of rec.start.0 (506 * block)))

-- of any file: what every whole call asks first, then the block
unfoldable pub payload_place : List ℕ → ℕ → Said ℕ
payload_place f block = onward (admission f true true) (λ rec. place_in rec block)

-- the code's answer, read so
abbrev pub payload_says : Result FilePlace Refusal → Said ℕ
payload_says (Ok place) = answers place.0
payload_says (Err why) = refusal (in_numbers why)

-- the 506 bytes from that place on; a refused call shows an empty part
abbrev pub shown_at : List ℕ → Said ℕ → List ℕ
shown_at f (answers place) = take 506 (drop place f)
shown_at f (refusal why) = []

-- of any file
unfoldable pub payload_shown : List ℕ → ℕ → List ℕ
payload_shown f block = shown_at f (payload_place f block)
