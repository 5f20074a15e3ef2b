-- What holds of the segments that are kept: their frame totals, where they lie, and their resets.
-- Assumes nothing.
use Prim.Native.Nat.{ℕ, zero, suc, ◌+◌, ◌*◌, ◌≤◌, ◌<◌, min}
use mathlib.Core.Path.{◌≡◌, refl, sym, ◌∙◌, subst}
use mathlib.Core.List.{List, [], ◌∷◌, ◌++◌}
use native.Mathlib.Omega.{arith}
use native.Mathlib.Numerals.{add-one}
use native.Mathlib.Nat.{not-suc-le-zero}
use lib.ListN.{length, get_or}
use Rattle.tables.specs.Table.{sum_of, Each}
use Rattle.tables.proofs.Cases.{by_order, by_equal}
use Rattle.tables.proofs.Table.{sum_more, sum_none, sum_both, each_none, each_more, place_more}
use Rattle.blocks.specs.Headers.{Bytes, first_of, count_of, announced_in}
use Rattle.blocks.proofs.Headers.{announced_none, announced_more}
use Rattle.frames.specs.Start.{frames_start}
use Rattle.frames.specs.Frames.{handed_out, missing_of}
use Rattle.frames.proofs.Start.{starts_inside}
use Rattle.frames.proofs.Frames.{handed_and_missing}
use Rattle.qp.specs.declared.Segment.{Segment}
use Rattle.qp.specs.Segments.{Gathered, nothing, open_segment, closed, begun, moved, counted, gathered_to, Lies}
use Rattle.qp.specs.Handed.{announced_of, handed_out_of, missing_from}
use Rattle.qp.proofs.Gathers.{closed_none, closed_some, moved_on, moved_away}
use Rattle.qp.proofs.Blockwise.{gathered_none, gathered_more}

-- the two ways of closing a segment, and of a block's arrival
by_closing : (P : List Segment → Type 0) (long : ℕ) (g : Gathered) → (g.frames ≤ 0 → P g.kept)
    → (0 < g.frames → P (g.kept ++ (open_segment long g ∷ []))) → P (closed long g)
by_closing P long g none some =
    by_order 0 g.frames (λ h. subst P (sym (closed_some long g h)) (some h)) (λ h. subst P (sym (closed_none long g h)) (none h))

by_moving : (P : Gathered → Type 0) (long q : ℕ) (g : Gathered) → P g → P (begun (closed long g) q) → P (moved long q g)
by_moving P long q g on away =
    by_equal q g.place (λ e. subst P (sym (moved_on long q g e)) on) (λ e. subst P (sym (moved_away long q g e)) away)

-- what holds before the first block and is kept by each block holds after b of them
by_blocks : (P : ℕ → Gathered → Type 0) (f : List ℕ) (a n : ℕ) → P 0 nothing
    → ((b : ℕ) (g : Gathered) → P b g → P (b + 1) (counted (count_of f a b) (moved (506 * n) (frames_start b (first_of f a b)) g)))
    → (b : ℕ) → P b (gathered_to f a n b)
by_blocks P f a n first next zero = subst (P 0) (sym (gathered_none f a n)) first
by_blocks P f a n first next (suc b) =
    subst (λ (x : ℕ). P x (gathered_to f a n x)) (add-one b)
    (subst (P (b + 1)) (sym (gathered_more f a n b)) (next b (gathered_to f a n b) (by_blocks P f a n first next b)))

abbrev frames_of : Segment → ℕ
frames_of segment = segment.frames

-- closing loses no frame
closed_sum : (long : ℕ) (g : Gathered) → sum_of frames_of (closed long g) ≡ sum_of frames_of g.kept + g.frames
closed_sum long g =
    by_closing (λ l. sum_of frames_of l ≡ sum_of frames_of g.kept + g.frames) long g (λ h. omega arith)
    (λ h. sum_more frames_of g.kept (open_segment long g))

-- after b blocks the frames kept and the open segment's are those announced
gathered_sum : (f : List ℕ) (a n b : ℕ) → sum_of frames_of (gathered_to f a n b).kept + (gathered_to f a n b).frames ≡ announced_in f a b
gathered_sum f a n b =
    by_blocks (λ b g. sum_of frames_of g.kept + g.frames ≡ announced_in f a b) f a n (omega (arith, sum_none frames_of, announced_none f a))
    (λ b g so_far.
    let moves = by_moving (λ h. sum_of frames_of h.kept + h.frames ≡ sum_of frames_of g.kept + g.frames) (506 * n) (frames_start b (first_of f a b)) g refl (omega (arith, closed_sum (506 * n) g)) in
    omega (arith, so_far, moves, announced_more f a b)) b

-- the segments' frame totals add up to the announced sum
pub totals_add_up : (f : List ℕ) (a n : ℕ) → sum_of frames_of (closed (506 * n) (gathered_to f a n n)) ≡ announced_in f a n
totals_add_up f a n = closed_sum (506 * n) (gathered_to f a n n) ∙ gathered_sum f a n n

-- what segments hand out and what is missing from them is together all that they announce
pub handed_or_missing : (segments : List Segment) → handed_out_of segments + missing_from segments ≡ announced_of segments
handed_or_missing segments =
    sum_both (λ s. handed_out s.long s.frames) (λ s. missing_of s.long s.frames) (λ s. s.frames)
    (λ s. handed_and_missing s.long s.frames) segments

-- what holds of the open segment after b blocks of n, and of those kept: each has bytes of the stream
record Placed (n b : ℕ) (g : Gathered) : Type 0 where
  pub place_is : g.place ≡ g.start + 56 * g.frames
  pub start_near : g.start ≤ 506 * b
  pub start_in : 0 < g.frames → g.start < 506 * b
  pub each : Each (Lies (506 * n)) g.kept

-- closing keeps that
closed_lie : (n b : ℕ) (g : Gathered) → b ≤ n → Placed n b g → Each (Lies (506 * n)) (closed (506 * n) g)
closed_lie n b g few p =
    by_closing (Each (Lies (506 * n))) (506 * n) g (λ h. p.each)
    (λ h.
    let inside : g.start < 506 * b = p.start_in h in
    each_more (Lies (506 * n)) g.kept (open_segment (506 * n) g) p.each
    (record {
      some = omega (arith, p.place_is, inside, few, h);
      inside = omega (arith, p.place_is, inside, few, h);
      announces = omega (arith, p.place_is, inside, few, h);
    }))

-- and so does a block whose start is in it
placed_next : (n b q count : ℕ) (g : Gathered) → b < n → q < 506 * (b + 1) → Placed n b g
    → Placed n (b + 1) (counted count (moved (506 * n) q g))
placed_next n b q count g few inside p =
    by_moving (λ h. Placed n (b + 1) (counted count h)) (506 * n) q g
    (record {
      place_is = omega (arith, p.place_is);
      start_near = omega (arith, p.start_near);
      start_in = λ _. omega (arith, p.start_near);
      each = p.each;
    })
    (record {
      place_is = omega arith;
      start_near = omega arith;
      start_in = λ _. inside;
      each = closed_lie n b g (omega arith) p;
    })

-- after any number of blocks
placed_upto : (f : List ℕ) (a n : ℕ) → Bytes f → (b : ℕ) → b ≤ n → Placed n b (gathered_to f a n b)
placed_upto f a n bytes =
    by_blocks (λ b g. b ≤ n → Placed n b g) f a n
    (λ h. record { place_is = omega arith; start_near = omega arith; start_in = λ some. absurd (omega arith); each = each_none (Lies (506 * n)) })
    (λ b g so_far h.
    placed_next n b (frames_start b (first_of f a b)) (count_of f a b) g (omega arith) (starts_inside b (first_of f a b) (bytes _)) (so_far (omega arith)))

-- every segment that is kept in the end lies in the stream
pub all_lie : (f : List ℕ) (a n : ℕ) → Bytes f → Each (Lies (506 * n)) (closed (506 * n) (gathered_to f a n n))
all_lie f a n bytes = closed_lie n n (gathered_to f a n n) (omega arith) (placed_upto f a n bytes n (omega arith))

-- every segment has the reset of its number: 0 for the first, 1 for any other
abbrev ResetBy : List Segment → Type 0
ResetBy segments = (none : Segment) (i : ℕ) → i < length segments → (get_or segments i none).reset ≡ min 1 i

reset_more : (segments : List Segment) (segment : Segment) → segment.reset ≡ min 1 (length segments) → ResetBy segments
    → ResetBy (segments ++ (segment ∷ []))
reset_more segments segment is so_far none =
    place_more (λ i s. s.reset ≡ min 1 i) segments segment none (so_far none) is

closed_reset : (long : ℕ) (g : Gathered) → ResetBy g.kept → ResetBy (closed long g)
closed_reset long g so_far =
    by_closing ResetBy long g (λ h. so_far) (λ h. reset_more g.kept (open_segment long g) refl so_far)

pub all_reset : (f : List ℕ) (a n : ℕ) → ResetBy (closed (506 * n) (gathered_to f a n n))
all_reset f a n =
    closed_reset (506 * n) (gathered_to f a n n)
    (by_blocks (λ b g. ResetBy g.kept) f a n (λ none i h. absurd (not-suc-le-zero h))
    (λ b g so_far. by_moving (λ h. ResetBy h.kept) (506 * n) (frames_start b (first_of f a b)) g so_far (closed_reset (506 * n) g so_far)) n)
