-- What QP segments hand out: one of them, those kept and the open one, and block by block all that are closed so far.
-- Assumes nothing.
use Prim.Native.Nat.{ℕ, ◌+◌, ◌*◌, ◌-◌, ◌/◌, ◌%◌, ◌≤◌, min}
use mathlib.Core.Path.{◌≡◌, sym, ap, ◌∙◌, subst}
use mathlib.Core.List.{List, [], ◌∷◌, ◌++◌}
use mathlib.Core.Bool.{cond}
use native.Mathlib.Omega.{arith}
use borrow.Author.Tests.{eq-eqb, ne_eqb}
use lib.Dec.{eqb}
use Rattle.tables.specs.Table.{sum_of}
use Rattle.tables.proofs.Cases.{by_order, by_equal}
use Rattle.tables.proofs.Table.{sum_more, sum_none}
use Rattle.blocks.specs.Headers.{first_of}
use Rattle.frames.specs.Start.{frames_start}
use Rattle.frames.proofs.Frames.{handed_is, short_is, sizes_add_up}
use Rattle.qp.specs.declared.Segment.{Segment}
use Rattle.qp.specs.declared.Gathering.{Gathering}
use Rattle.qp.specs.Segments.{Gathered, nothing, open_segment, closed, moved, counted, gathered_to}
use Rattle.qp.specs.Inner.{numbers_of}
use Rattle.qp.proofs.Gathers.{closed_none, closed_some, moved_on, moved_away}
use Rattle.qp.proofs.Blockwise.{gathered_none, gathered_more}
use Rattle.tally.specs.declared.HandedOut.{HandedOut}
use Rattle.tally.specs.HandedOut.{frames_out}
use Rattle.tally.specs.Inner.{none_out, together}
use Rattle.tally.proofs.Packetwise.{same_numbers}

-- so many bytes cut by 56: the whole frames and one for what is left, which is the short one
abbrev cut_of : ℕ → HandedOut
cut_of long = record { many = long / 56 + min 1 (long % 56); short = min 1 (long % 56); bytes = long }

short_one : (long : ℕ) → cond (eqb (long % 56) 0) 0 1 ≡ min 1 (long % 56)
short_one long =
    by_equal (long % 56) 0 (λ e. simp (eq-eqb (long % 56) 0 e) (omega arith)) (λ e. simp (ne_eqb (long % 56) 0 e) (omega arith))

-- a segment that announces frames for all its bytes hands them out so
one_hands_out : (segment : Segment) → segment.long ≤ 56 * segment.frames → frames_out (segment ∷ []) ≡ cut_of segment.long
unfolding sum_of
one_hands_out segment all =
    same_numbers (omega (arith, handed_is segment.long segment.frames all))
    (omega (arith, short_is segment.long segment.frames all, short_one segment.long))
    (omega (arith, sizes_add_up segment.long segment.frames all))

-- one segment more
sum_with_one : (number : Segment → ℕ) (segments : List Segment) (segment : Segment)
    → sum_of number (segments ++ (segment ∷ [])) ≡ sum_of number segments + sum_of number (segment ∷ [])
unfolding sum_of
sum_with_one number segments segment = omega (arith, sum_more number segments segment)

more_hand_out : (segments : List Segment) (segment : Segment)
    → frames_out (segments ++ (segment ∷ [])) ≡ together (frames_out segments) (frames_out (segment ∷ []))
more_hand_out segments segment =
    same_numbers (sum_with_one _ segments segment) (sum_with_one _ segments segment) (sum_with_one _ segments segment)

-- what the segments closed so far hand out, and the frames of the open one, come to at most so many
abbrev pub Few : ℕ → ℕ → HandedOut → Type 0
Few most frames out = (out.many + frames ≤ most) × (out.short + frames ≤ most) × (out.bytes + 56 * frames ≤ 56 * most)

-- what was gathered, with the read place 56 bytes on for each frame of the open segment
module _ (long : ℕ) (g : Gathered) (place_is : g.place ≡ g.start + 56 * g.frames) where
  open_hands_out : frames_out (open_segment long g ∷ []) ≡ cut_of (min g.place long - g.start)
  open_hands_out = one_hands_out (open_segment long g) (omega arith)

  -- a closed segment is added to those kept; one with no frames, which is not kept, hands out nothing
  closed_hand_out : frames_out (closed long g) ≡ together (frames_out g.kept) (frames_out (open_segment long g ∷ []))
  closed_hand_out =
      by_order 0 g.frames (λ some. ap frames_out (closed_some long g some) ∙ more_hand_out g.kept (open_segment long g))
      (λ none.
      let empty : min g.place long - g.start ≡ 0 = omega arith in
      ap frames_out (closed_none long g none)
      ∙ same_numbers (omega arith) (omega arith) (omega arith)
      ∙ ap (together (frames_out g.kept)) (sym (open_hands_out ∙ ap cut_of empty)))

  -- an arrival makes it no more
  few_moved : (q most : ℕ) → Few most g.frames (frames_out g.kept)
      → Few most (moved long q g).frames (frames_out (moved long q g).kept)
  few_moved q most few =
      by_equal q g.place (λ e. subst fits (sym (moved_on long q g e)) few)
      (λ e.
      subst fits (sym (moved_away long q g e))
      (subst (Few most 0) (sym (closed_hand_out ∙ ap (together (frames_out g.kept)) open_hands_out))
      (omega arith, omega arith, omega arith)))
    where
      fits : Gathered → Type 0
      fits x = Few most x.frames (frames_out x.kept)

-- the same in the code's numbers
module _ (long : ℕ) (gathering : Gathering) (g : Gathered) (is : gathering ≡ numbers_of g)
    (place_is : gathering.place.0 ≡ gathering.start.0 + 56 * gathering.frames) where
  placed : g.place ≡ g.start + 56 * g.frames
  placed = subst (λ (x : Gathering). x.place.0 ≡ x.start.0 + 56 * x.frames) is place_is

  pub open_counted : (stop short : ℕ) → stop ≡ min gathering.place.0 long → short ≡ min 1 ((stop - gathering.start.0) % 56)
      → ◌≡◌ {A = HandedOut}
      (record { many = (stop - gathering.start.0) / 56 + short; short = short; bytes = stop - gathering.start.0 })
      (frames_out (open_segment long g ∷ []))
  open_counted stop short stop_is short_is =
      let start = ap (λ (x : Gathering). x.start.0) is in
      let place = ap (λ (x : Gathering). x.place.0) is in
      same_numbers (omega arith) (omega arith) (omega arith) ∙ sym (open_hands_out long g placed)

  module _ (out : HandedOut) (out_is : out ≡ frames_out g.kept) where
    closed_counted : (other next : HandedOut) → other ≡ frames_out (open_segment long g ∷ []) → next ≡ together out other
        → next ≡ frames_out (closed long g)
    closed_counted other next other-is next_is =
        let both : next ≡ together (frames_out g.kept) (frames_out (open_segment long g ∷ [])) = cc in
        both ∙ sym (closed_hand_out long g placed)

    -- a block arrives: none is closed, or one
    pub none_closed : (q : ℕ) → q ≡ gathering.place.0 → out ≡ frames_out (moved long q g).kept
    none_closed q here =
        out_is ∙ ap (λ (x : Gathered). frames_out x.kept) (sym (moved_on long q g (here ∙ ap (λ (x : Gathering). x.place.0) is)))

    pub one_closed : (q : ℕ) (other next : HandedOut) → (q ≡ gathering.place.0 → ⊥) → other ≡ frames_out (open_segment long g ∷ [])
        → next ≡ together out other → next ≡ frames_out (moved long q g).kept
    one_closed q other next away other-is next_is =
        closed_counted other next other-is next_is
        ∙ ap (λ (x : Gathered). frames_out x.kept)
        (sym (moved_away long q g (λ e. away (e ∙ sym (ap (λ (x : Gathering). x.place.0) is)))))

-- after b blocks: what the segments closed so far hand out, and that it is little
pub record Handing (f : List ℕ) (a n b : ℕ) (gathering : Gathering) (out : HandedOut) : Type 0 where
  pub out_is : out ≡ frames_out (gathered_to f a n b).kept
  pub few : Few (255 * b) gathering.frames out

module _ (f : List ℕ) (a n : ℕ) where
  pub handing_begins : Handing f a n 0 (numbers_of nothing) none_out
  handing_begins =
      record {
        out_is =
            same_numbers (sym (sum_none _)) (sym (sum_none _)) (sym (sum_none _))
            ∙ ap (λ (g : Gathered). frames_out g.kept) (sym (gathered_none f a n));
        few = (omega arith, omega arith, omega arith);
      }

  module _ (b : ℕ) (gathering : Gathering) (out : HandedOut) (is : gathering ≡ numbers_of (gathered_to f a n b))
      (place_is : gathering.place.0 ≡ gathering.start.0 + 56 * gathering.frames) (so : Handing f a n b gathering out) where
    -- one block more
    pub handing_goes_on : (q count : ℕ) (next : Gathering) (out' : HandedOut) → q ≡ frames_start b (first_of f a b) → count ≤ 255
        → out' ≡ frames_out (moved (506 * n) q (gathered_to f a n b)).kept
        → next ≡ numbers_of (counted count (moved (506 * n) q (gathered_to f a n b))) → Handing f a n (b + 1) next out'
    handing_goes_on q count next out' at small out_is next_is =
        record {
          out_is =
              out_is
              ∙ ap (λ (x : ℕ). frames_out (moved (506 * n) x (gathered_to f a n b)).kept) at
              ∙ ap (λ (g : Gathered). frames_out g.kept) (sym (gathered_more f a n b));
          few = (omega (arith, more, after.0), omega (arith, more, after.1), omega (arith, more, after.2));
        }
      where
        g : Gathered
        g = gathered_to f a n b

        before : Few (255 * b) g.frames (frames_out g.kept)
        before = subst (Few (255 * b) g.frames) so.out_is (subst (λ (x : Gathering). Few (255 * b) x.frames out) is so.few)

        after : Few (255 * b) (moved (506 * n) q g).frames out'
        after =
            subst (Few (255 * b) (moved (506 * n) q g).frames) (sym out_is)
            (few_moved (506 * n) g (placed (506 * n) gathering g is place_is) q (255 * b) before)

        more : next.frames ≡ (moved (506 * n) q g).frames + count
        more = ap (λ (x : Gathering). x.frames) next_is

    -- all blocks, and the last segment closed
    pub handing_ends : (other next : HandedOut) → b ≡ n → other ≡ frames_out (open_segment (506 * n) (gathered_to f a n b) ∷ [])
        → next ≡ together out other → next ≡ frames_out (closed (506 * n) (gathered_to f a n n))
    handing_ends other next all other-is next_is =
        closed_counted (506 * n) gathering (gathered_to f a n b) is place_is out so.out_is other next other-is next_is
        ∙ ap (λ (x : ℕ). frames_out (closed (506 * n) (gathered_to f a n x))) all
