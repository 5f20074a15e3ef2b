-- The examples that speak of every QP file of two blocks.
-- Assumes nothing.
use Prim.Native.Nat.{ℕ, ◌+◌, ◌*◌, ◌<◌}
use mathlib.Core.Path.{◌≡◌, refl, ap, ◌∙◌}
use mathlib.Core.List.{List, [], ◌∷◌}
use native.Mathlib.Omega.{arith}
use lib.ListN.{length, get_or}
use Rattle.tables.proofs.Cases.{by_order}
use Rattle.blocks.specs.Headers.{first_of, count_of}
use Rattle.refusals.specs.Said.{answers}
use Rattle.detect.specs.declared.Kind.TheVariants.{Qp}
use Rattle.frames.specs.Start.{frames_start}
use Rattle.qp.specs.declared.Segment.{Segment}
use Rattle.qp.specs.Segments.{Gathered, nothing, open_segment, moved, closed, counted, gathered_to, reading_of, qp_reading}
use Rattle.qp.specs.Outcome.{entry_of}
use Rattle.qp.proofs.Gathers.{closed_none, closed_some}
use Rattle.qp.proofs.Blockwise.{gathered_none, gathered_more}
use Rattle.test_examples.specs.Bench.{Ds2File, Example2}
use Rattle.test_examples.proofs.Files.{recording_of, taken_as}

-- what is gathered of two blocks, by their starts and counts
two_blocks : ℕ → ℕ → ℕ → ℕ → Gathered
two_blocks first count first' count' =
    counted count' (moved 1012 (frames_start 1 first') (counted count (moved 1012 (frames_start 0 first) nothing)))

two_blocks_lem : (f : List ℕ) → gathered_to f 1536 2 2 ≡ two_blocks (first_of f 1536 0) (count_of f 1536 0) (first_of f 1536 1) (count_of f 1536 1)
unfolding two_blocks
two_blocks_lem f =
    gathered_more f 1536 2 1
    ∙ ap (λ (g : Gathered). counted (count_of f 1536 1) (moved 1012 (frames_start 1 (first_of f 1536 1)) g)) (gathered_more f 1536 2 0)
    ∙ ap
    (λ (g : Gathered).
    counted (count_of f 1536 1)
    (moved 1012 (frames_start 1 (first_of f 1536 1)) (counted (count_of f 1536 0) (moved 1012 (frames_start 0 (first_of f 1536 0)) g))))
    (gathered_none f 1536 2)

-- 10 frames from place 0 end at 560, where a second block with byte 1 = 30 starts
one_open : ℕ → Gathered
one_open count = record { kept = []; start = 0; place = 560 + 56 * count; frames = 10 + count }

goes_on : (count : ℕ) → two_blocks 3 10 30 count ≡ one_open count
unfolding two_blocks one_open moved frames_start
goes_on count = refl

one_kept : (count : ℕ) → length (closed 1012 (one_open count)) ≡ 1
unfolding one_open
one_kept count = ap length (closed_some 1012 (one_open count) (omega arith))

-- 9 end at 504, before a second block with byte 1 = 3
abbrev first_segment : Segment
first_segment = record { start = record { 0 = 0 }; long = 504; frames = 9; reset = 0 }

next_open : ℕ → Gathered
next_open count = record { kept = first_segment ∷ []; start = 506; place = 506 + 56 * count; frames = 0 + count }

begins_anew : (count : ℕ) → two_blocks 3 9 3 count ≡ next_open count
unfolding two_blocks next_open moved closed frames_start
begins_anew count = refl

two_kept : (count : ℕ) → 0 < count → closed 1012 (next_open count) ≡ first_segment ∷ open_segment 1012 (next_open count) ∷ []
unfolding next_open
two_kept count some = closed_some 1012 (next_open count) (omega arith)

first_kept : (count : ℕ) → count ≡ 0 → closed 1012 (next_open count) ≡ first_segment ∷ []
unfolding next_open
first_kept count none = closed_none 1012 (next_open count) (omega arith)

first_entry : (count : ℕ) (none : Segment) → entry_of (get_or (closed 1012 (next_open count)) 0 none) ≡ 0 ∷ 504 ∷ 9 ∷ 0 ∷ []
first_entry count none =
    by_order 0 count (λ some. ap (λ (l : List Segment). entry_of (get_or l 0 none)) (two_kept count some))
    (λ few. ap (λ (l : List Segment). entry_of (get_or l 0 none)) (first_kept count (omega arith)))

module _ (f : List ℕ) (file : Ds2File Qp 2 f) (three : first_of f 1536 0 ≡ 3) where
  reads : qp_reading f ≡ answers (reading_of f (recording_of 2))
  unfolding qp_reading
  reads = rw (taken_as Qp 2 f (omega arith) (omega arith) file)

  gathered_on : count_of f 1536 0 ≡ 10 → first_of f 1536 1 ≡ 30 → gathered_to f 1536 2 2 ≡ one_open (count_of f 1536 1)
  gathered_on ten thirty = two_blocks_lem f ∙ rw (three, ten, thirty) (goes_on (count_of f 1536 1))

  gathered_anew : count_of f 1536 0 ≡ 9 → first_of f 1536 1 ≡ 3 → gathered_to f 1536 2 2 ≡ next_open (count_of f 1536 1)
  gathered_anew nine again = two_blocks_lem f ∙ rw (three, nine, again) (begins_anew (count_of f 1536 1))

pub two_holds : Example2
two_holds f file three = (
  reading_of f (recording_of 2),
  reads f file three,
  (λ ten thirty.
      ap (λ (g : Gathered). length (closed 1012 g)) (gathered_on f file three ten thirty) ∙ one_kept (count_of f 1536 1)),
  (λ nine again.
      let is = gathered_anew f file three nine again in (
        (λ some. ap (λ (g : Gathered). length (closed 1012 g)) is ∙ ap length (two_kept (count_of f 1536 1) some)),
        (λ none. ap (λ (g : Gathered). length (closed 1012 g)) is ∙ ap length (first_kept (count_of f 1536 1) none)),
        (λ none. ap (λ (g : Gathered). entry_of (get_or (closed 1012 g) 0 none)) is ∙ first_entry (count_of f 1536 1) none),
      )),
)
