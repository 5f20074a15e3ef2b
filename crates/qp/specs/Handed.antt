-- The frames that are handed out: the segments' bytes cut by 56, segment by segment, which is the list that `Ds2QpStreamDemuxer` gives
-- back; and the frames that a caller fetches for the entries of the table. Assumes nothing.
use Rattle.std.specs.Prelude.{ℕ, List, take, drop}
use Rattle.tables.specs.Table.{table, sum, sum_of}
use Rattle.tables.specs.Entries.{in_turn}
use Rattle.blocks.specs.Stream.{joined}
use Rattle.whole.specs.declared.Recording.{Recording}
use Rattle.frames.specs.Frames.{frame_size, handed_out, short_among, missing_of}
use Rattle.frames.specs.Cut.{cut, fetched_frames}
use Rattle.qp.specs.declared.Segment.{Segment}

-- a segment's bytes: a part of all payloads joined
abbrev pub bytes_of : List ℕ → Recording → Segment → List ℕ
bytes_of f rec segment = take segment.long (drop segment.start.0 (joined f rec.start.0 rec.blocks))

-- cut by 56, at most as many parts as the segment announces
abbrev pub frames_of : List ℕ → Recording → List Segment → List (List ℕ)
frames_of f rec segments = in_turn (λ segment. cut segment.frames (bytes_of f rec segment)) segments

-- each frame that a segment announces, found by its number, filled and shown; the missing ones left out. `scratch segment k` is what the
-- scratch holds before
abbrev pub fetched_of : List ℕ → (Segment → ℕ → List ℕ) → List Segment → List (List ℕ)
fetched_of f scratch segments =
    in_turn (λ segment. fetched_frames f (scratch segment) segment.start.0 segment.long segment.frames 0) segments

-- how many frames segments announce, and how many of these are handed out, handed out short, and missing
abbrev pub announced_of : List Segment → ℕ
announced_of segments = sum_of (λ segment. segment.frames) segments

abbrev pub handed_out_of : List Segment → ℕ
handed_out_of segments = sum_of (λ segment. handed_out segment.long segment.frames) segments

abbrev pub short_of : List Segment → ℕ
short_of segments = sum_of (λ segment. short_among segment.long segment.frames) segments

abbrev pub missing_from : List Segment → ℕ
missing_from segments = sum_of (λ segment. missing_of segment.long segment.frames) segments

-- how many bytes the frames have that are handed out
abbrev pub bytes_in : List Segment → ℕ
bytes_in segments = sum_of (λ segment. sum (table segment.frames (frame_size segment.long))) segments
