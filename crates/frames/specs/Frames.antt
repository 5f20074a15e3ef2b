-- A segment's bytes cut by 56: which of its announced frames are handed out, which of those are short, and which are missing.
-- Assumes nothing.
use Rattle.std.specs.Prelude.{ℕ, ◌+◌, ◌*◌, ◌-◌, ◌^◌, min, Bool, false, cond, not, leb, ltb}
use Rattle.tables.specs.Counting.{how_many}
use Rattle.frames.specs.declared.Found.{Found}

-- frame k of a segment of so many bytes is missing if its first byte is at or past the segment's end, and is else handed out
abbrev pub is_missing : ℕ → ℕ → Bool
is_missing long k = leb long (56 * k)

abbrev pub is_handed_out : ℕ → ℕ → Bool
is_handed_out long k = not (is_missing long k)

-- it has 56 bytes, or those that are left; a missing one has none
abbrev pub frame_size : ℕ → ℕ → ℕ
frame_size long k = min 56 (long - 56 * k)

-- it is short if it is handed out with fewer than 56
abbrev pub is_short : ℕ → ℕ → Bool
is_short long k = cond (is_missing long k) false (ltb (frame_size long k) 56)

-- of a segment of so many bytes that announces n frames
abbrev pub handed_out : ℕ → ℕ → ℕ
handed_out long n = how_many n (is_handed_out long)

abbrev pub short_among : ℕ → ℕ → ℕ
short_among long n = how_many n (is_short long)

abbrev pub missing_of : ℕ → ℕ → ℕ
missing_of long n = how_many n (is_missing long)

-- no frame: place and size are 0
abbrev pub no_frame : Found
no_frame = record { place = record { 0 = 0 }; size = 0 }

-- frame k of the segment from a start on: where it begins in the payload stream, and its size. A missing one is no frame, and so is
-- one whose place has no number of 64 bits, since no stream goes so far
unfoldable pub frame_of : ℕ → ℕ → ℕ → Found
frame_of start long k =
    cond (is_missing long k) no_frame
    (cond (ltb (start + 56 * k) (2 ^ 64)) (record { place = record { 0 = start + 56 * k }; size = frame_size long k }) no_frame)
