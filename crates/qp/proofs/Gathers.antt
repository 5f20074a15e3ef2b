-- What closing a segment, a block's arrival and its count make of what was gathered, in the code's numbers and in the table.
-- Assumes nothing.
use Prim.Native.Nat.{ℕ, ◌+◌, ◌*◌, ◌-◌, ◌≤◌, ◌<◌, min}
use mathlib.Core.Path.{◌≡◌, refl, sym, ap, ◌∙◌, subst}
use mathlib.Core.List.{List, [], ◌∷◌, ◌++◌}
use native.Mathlib.Omega.{arith}
use borrow.Author.Tests.{lt-ltb, le-ltb, eq-eqb, ne_eqb}
use lib.ListN.{length, length-append}
use Rattle.tables.specs.Inner.{Fronts, Puts}
use Rattle.tables.proofs.Entries.{in_turn_long, in_turn_more, fronts_more}
use Rattle.blocks.specs.declared.StreamPlace.{StreamPlace}
use Rattle.qp.specs.declared.Segment.{Segment}
use Rattle.qp.specs.declared.Gathering.{Gathering}
use Rattle.qp.specs.Segments.{Gathered, open_segment, closed, begun, moved, counted}
use Rattle.qp.specs.Outcome.{width, entry_of, words}
use Rattle.qp.specs.Inner.{numbers_of, Near, Holds, Closes, Moves}

-- a segment with no frames is not kept, and one with frames is
pub closed_none : (long : ℕ) (g : Gathered) → g.frames ≤ 0 → closed long g ≡ g.kept
unfolding closed
closed_none long g none = simp (le-ltb 0 g.frames none)

pub closed_some : (long : ℕ) (g : Gathered) → 0 < g.frames → closed long g ≡ g.kept ++ (open_segment long g ∷ [])
unfolding closed
closed_some long g some = simp (lt-ltb 0 g.frames some)

-- in the code's numbers: nothing is put, and none more is kept
pub closes_none : (long most : ℕ) (g : Gathered) (gathering : Gathering) (table : List ℕ) → gathering ≡ numbers_of g → gathering.frames ≡ 0
    → Closes long most g table table gathering.kept
closes_none long most g gathering table is none =
    let same : closed long g ≡ g.kept = closed_none long g (omega (arith, ap (λ (x : Gathering). x.frames) is, none)) in
    record {
      kept_is = ap (λ (x : Gathering). x.kept) is ∙ ap length (sym same);
      written = λ d h. subst (λ (l : List Segment). Holds most l d table) (sym same) h;
    }

-- or the open segment's entry is put, and one more is kept
pub closes_some : (long most : ℕ) (g : Gathered) (gathering : Gathering) (stop reset : ℕ) (table table' : List ℕ) → gathering ≡ numbers_of g
    → stop ≡ min gathering.place.0 long → reset ≡ min 1 gathering.kept → 0 < gathering.frames
    → Puts table gathering.kept most
    (entry_of (record { start = gathering.start; long = stop - gathering.start.0; frames = gathering.frames; reset = reset })) table'
    → Closes long most g table table' (gathering.kept + 1)
closes_some long most g gathering stop reset table table' is =
    subst
    (λ (x : Gathering).
    stop ≡ min x.place.0 long → reset ≡ min 1 x.kept → 0 < x.frames
    → Puts table x.kept most (entry_of (record { start = x.start; long = stop - x.start.0; frames = x.frames; reset = reset })) table'
    → Closes long most g table table' (x.kept + 1)) (sym is) put
  where
    put : stop ≡ min g.place long → reset ≡ min 1 (length g.kept) → 0 < g.frames
        → Puts table (length g.kept) most (g.start ∷ (stop - g.start) ∷ g.frames ∷ reset ∷ []) table'
        → Closes long most g table table' (length g.kept + 1)
    put stop_is reset-is some p =
        let same : closed long g ≡ g.kept ++ (open_segment long g ∷ []) = closed_some long g some in
        let entry : Puts table (length g.kept) most (entry_of (open_segment long g)) table' = rw (← stop_is, ← reset-is) p in
        record {
          kept_is = sym (ap length same ∙ length-append g.kept (open_segment long g ∷ []));
          written = λ d h.
              subst (λ (l : List Segment). Holds most l d table') (sym same)
              (subst (λ (l : List ℕ). Fronts d (width * most) l table') (sym (in_turn_more entry_of g.kept (open_segment long g)))
              (fronts_more width (length g.kept) most (words g.kept) (entry_of (open_segment long g)) (in_turn_long entry_of width (λ x. refl) g.kept) refl h entry));
        }

-- a block that starts at the read place changes nothing, and another closes the open segment
module _ (long q : ℕ) (g : Gathered) where
  pub moved_on : q ≡ g.place → moved long q g ≡ g
  unfolding moved
  moved_on e = simp (eq-eqb q g.place e)

  pub moved_away : (q ≡ g.place → ⊥) → moved long q g ≡ begun (closed long g) q
  unfolding moved
  moved_away e = simp (ne_eqb q g.place e)

-- the same in the code's numbers, and in the table
pub moves_on : (long q most : ℕ) (g : Gathered) (gathering : Gathering) (table : List ℕ) → gathering ≡ numbers_of g → q ≡ gathering.place.0
    → Moves long q most g table table gathering
moves_on long q most g gathering table is there =
    let same : moved long q g ≡ g = moved_on long q g (there ∙ ap (λ (x : Gathering). x.place.0) is) in
    record {
      gathering_is = is ∙ ap numbers_of (sym same);
      written = λ d h. subst (λ (x : Gathered). Holds most x.kept d table) (sym same) h;
    }

pub moves_away : (long most : ℕ) (at : StreamPlace) (g : Gathered) (gathering : Gathering) (table table' : List ℕ) (kept : ℕ) → gathering ≡ numbers_of g
    → (at.0 ≡ gathering.place.0 → ⊥) → Closes long most g table table' kept
    → Moves long at.0 most g table table' (record { start = at; place = at; frames = 0; kept = kept })
moves_away long most at g gathering table table' kept is away c =
    let same : moved long at.0 g ≡ begun (closed long g) at.0 =
    moved_away long at.0 g (λ e. away (e ∙ sym (ap (λ (x : Gathering). x.place.0) is))) in
    record {
      gathering_is = ap (λ (n : ℕ). record { start = at; place = at; frames = 0; kept = n }) c.kept_is ∙ ap numbers_of (sym same);
      written = λ d h. subst (λ (x : Gathered). Holds most x.kept d table') (sym same) (c.written d h);
    }

-- a block's count is added
pub adds : (count : ℕ) (g : Gathered) (gathering : Gathering) → gathering ≡ numbers_of g
    → record { start = gathering.start; place = record { 0 = gathering.place.0 + 56 * count }; frames = gathering.frames + count; kept = gathering.kept }
    ≡ numbers_of (counted count g)
adds count g gathering is =
    ap
    (λ (x : Gathering). record { start = x.start; place = record { 0 = x.place.0 + 56 * count }; frames = x.frames + count; kept = x.kept })
    is

-- and all of it stays small
module _ (long frames kept : ℕ) (gathering : Gathering) (near : Near long frames kept gathering) where
  -- within larger bounds
  pub near_within : (frames' kept' : ℕ) → frames ≤ frames' → kept ≤ kept' → Near long frames' kept' gathering
  near_within frames' kept' more further =
      record {
        start_in = near.start_in;
        place_is = near.place_is;
        frames_few = omega (arith, near.frames_few, more);
        kept_few = omega (arith, near.kept_few, further);
      }

  -- where a segment is begun, and where frames follow
  pub near_away : (at : StreamPlace) (n : ℕ) → at.0 ≤ long → n ≤ gathering.kept + 1
      → Near long frames (kept + 1) (record { start = at; place = at; frames = 0; kept = n })
  near_away at n in-stream few =
      record { start_in = in-stream; place_is = omega arith; frames_few = omega arith; kept_few = omega (arith, near.kept_few, few) }

  pub near_more : (count : ℕ)
      → Near long (frames + count) kept
      (record { start = gathering.start; place = record { 0 = gathering.place.0 + 56 * count }; frames = gathering.frames + count; kept = gathering.kept })
  near_more count =
      record {
        start_in = near.start_in;
        place_is = omega (arith, near.place_is);
        frames_few = omega (arith, near.frames_few);
        kept_few = near.kept_few;
      }
