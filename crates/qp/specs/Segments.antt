-- QP's segments: blocks whose frames follow one another are gathered, and a block that starts elsewhere begins a segment of its own.
-- Assumes nothing.
use Rattle.std.specs.Prelude.{ℕ, zero, suc, ◌+◌, ◌*◌, ◌-◌, ◌≤◌, ◌<◌, min, List, [], ◌∷◌, ◌++◌, cond, length, ltb, eqb}
use Rattle.blocks.specs.Headers.{first_of, count_of}
use Rattle.refusals.specs.Said.{Said, answers, onward}
use Rattle.whole.specs.declared.Recording.{Recording}
use Rattle.detect.specs.declared.Kind.TheVariants.{Qp}
use Rattle.whole.specs.Admissions.{announced_by, ds2_admission}
use Rattle.frames.specs.Start.{frames_start}
use Rattle.qp.specs.declared.Segment.{Segment}

-- what was gathered: the segments kept, and of the open one its start, the read place and its frame total
pub record Gathered : Type 0 where
  pub kept : List Segment
  pub start : ℕ
  pub place : ℕ
  pub frames : ℕ

-- before the first block
abbrev pub nothing : Gathered
nothing = record { kept = []; start = 0; place = 0; frames = 0 }

-- the open segment, which ends at the smaller of its read place and the end of a stream of so many bytes. Reset is 1 for all but the
-- first that is kept
abbrev pub open_segment : ℕ → Gathered → Segment
open_segment long g =
    record {
      start = record { 0 = g.start };
      long = min g.place long - g.start;
      frames = g.frames;
      reset = min 1 (length g.kept);
    }

-- the segments kept when the open one is closed: it is kept only if its frame total is above 0
unfoldable pub closed : ℕ → Gathered → List Segment
closed long g = cond (ltb 0 g.frames) (g.kept ++ (open_segment long g ∷ [])) g.kept

-- a segment is begun: start and read place are set to q
abbrev pub begun : List Segment → ℕ → Gathered
begun kept q = record { kept = kept; start = q; place = q; frames = 0 }

-- a block that starts at q closes the segment if q differs from the read place, and begins its own
unfoldable pub moved : ℕ → ℕ → Gathered → Gathered
moved long q g = cond (eqb q g.place) g (begun (closed long g) q)

-- block 0 sets start and read place, and a later block does so if it starts elsewhere
abbrev pub arrived : ℕ → ℕ → ℕ → Gathered → Gathered
arrived long zero q g = begun g.kept q
arrived long (suc b) q g = moved long q g

-- a block's count is added to the frame total, and 56 times that to the read place
abbrev pub counted : ℕ → Gathered → Gathered
counted count g =
    record { kept = g.kept; start = g.start; place = g.place + 56 * count; frames = g.frames + count }

-- the first b of n blocks from a on
unfoldable pub gathered_to : List ℕ → ℕ → ℕ → ℕ → Gathered
gathered_to f a n zero = nothing
gathered_to f a n (suc b) =
    counted (count_of f a b) (arrived (506 * n) b (frames_start b (first_of f a b)) (gathered_to f a n b))

-- all blocks, whose end closes the last segment
abbrev pub segments_from : List ℕ → Recording → List Segment
segments_from f rec = closed (506 * rec.blocks) (gathered_to f rec.start.0 rec.blocks rec.blocks)

-- a reading: the segments, and how many frames all blocks announce
pub record Reading : Type 0 where
  pub segments : List Segment
  pub announced : ℕ

abbrev pub reading_of : List ℕ → Recording → Reading
reading_of f rec = record { segments = segments_from f rec; announced = announced_by f rec }

-- of any file: refusals 1, 2, 3 and 11, or the reading
unfoldable pub qp_reading : List ℕ → Said Reading
qp_reading f = onward (ds2_admission f Qp) (λ rec. answers (reading_of f rec))

-- a segment lies in a stream of so many bytes and has some of them, and it announces at least as many frames as they are cut into
pub record Lies (long : ℕ) (segment : Segment) : Type 0 where
  pub some : 0 < segment.long
  pub inside : segment.start.0 + segment.long ≤ long
  pub announces : segment.long ≤ 56 * segment.frames
