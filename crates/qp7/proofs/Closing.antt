-- A segment is closed where the walk stands, or there is none to close.
-- Assumes nothing.
use Prim.Native.Nat.{ℕ, ◌+◌, ◌*◌, ◌-◌, ◌≤◌, ◌<◌, min}
use mathlib.Core.Path.{◌≡◌, refl, sym, ap, ◌∙◌, subst}
use mathlib.Core.List.{List, [], ◌∷◌, ◌++◌}
use native.Mathlib.Omega.{arith}
use borrow.Author.Tests.{lt-ltb, le-ltb}
use lib.ListN.{length, get_or, length-append}
use Rattle.tables.specs.Entries.{in_turn}
use Rattle.tables.specs.Inner.{Fronts, Puts}
use Rattle.tables.proofs.Cases.{by_order}
use Rattle.tables.proofs.Entries.{in_turn_long, in_turn_more, fronts_more, fronts_nothing}
use Rattle.tables.proofs.Lent.{leaves_none, leaves_to}
use Rattle.qp7.specs.declared.Walk.{Walk}
use Rattle.qp7.specs.Walk.{Gathered, open_segment, closing}
use Rattle.qp7.specs.Outcome.{width, entry_of}
use Rattle.qp7.specs.Inner.{numbers_of, SegmentsHold, Closes}

-- what was gathered, with its open segment closed
abbrev pub closed_at : Gathered → Gathered
closed_at g =
    record { place = g.place; records = g.records; closed = g.closed ++ (open_segment g ∷ []); first = length g.records }

-- the open segment is empty
pub closing_none : (g : Gathered) → length g.records ≤ g.first → closing g ≡ g
unfolding closing
closing_none g h = simp (le-ltb g.first (length g.records) h)

-- it is not
pub closing_one : (g : Gathered) → g.first < length g.records → closing g ≡ closed_at g
unfolding closing
closing_one g h = simp (lt-ltb g.first (length g.records) h)

-- closing a segment changes no record
pub closing_records : (g : Gathered) → (closing g).records ≡ g.records
closing_records g =
    by_order g.first (length g.records) (λ h. ap (λ (x : Gathered). x.records) (closing_one g h))
    (λ h. ap (λ (x : Gathered). x.records) (closing_none g h))

-- nor the read place
pub closing_place : (g : Gathered) → (closing g).place ≡ g.place
closing_place g =
    by_order g.first (length g.records) (λ h. ap (λ (x : Gathered). x.place) (closing_one g h))
    (λ h. ap (λ (x : Gathered). x.place) (closing_none g h))

-- an empty segment is not closed
pub closes_none : (most : ℕ) (walk : Walk) (segments : List ℕ) → walk.records ≤ walk.first
    → (g : Gathered) → walk ≡ numbers_of g → Closes most g segments segments walk
closes_none most walk segments h g e =
    let same : closing g ≡ g = closing_none g (omega (arith, h, ap (λ (w : Walk). w.records) e, ap (λ (w : Walk). w.first) e)) in
    record {
      walk_is = e ∙ ap numbers_of (sym same);
      written = λ d w. subst (λ (x : Gathered). SegmentsHold most x d segments) (sym same) w;
    }

-- the entry of a segment of which the reset is told
abbrev pub entry_from : Walk → ℕ → List ℕ
entry_from walk reset = entry_of (record { first = walk.first; records = walk.records - walk.first; reset = reset })

-- where the walk stands after a segment was closed
abbrev pub walk_closed : Walk → Walk
walk_closed walk = record { place = walk.place; records = walk.records; segments = walk.segments + 1; first = walk.records }

-- a segment that is not empty is closed where the walk stands
closes_one_at : (most : ℕ) (g : Gathered) (segments segments' : List ℕ) (reset : ℕ) → g.first < length g.records
    → reset ≡ min 1 (length g.closed) → Puts segments (length g.closed) most (entry_from (numbers_of g) reset) segments'
    → Closes most g segments segments' (walk_closed (numbers_of g))
closes_one_at most g segments segments' reset h is p =
    record {
      walk_is = walk_is ∙ ap numbers_of (sym closed);
      written = written;
    }
  where
    closed : closing g ≡ closed_at g
    closed = closing_one g h

    many : length g.closed + 1 ≡ length (g.closed ++ (open_segment g ∷ []))
    many = sym (length-append g.closed (open_segment g ∷ []))

    walk_is : walk_closed (numbers_of g) ≡ numbers_of (closed_at g)
    walk_is =
        ap
        (λ (n : ℕ). record { place = record { 0 = g.place }; records = length g.records; segments = n; first = length g.records })
        many

    entry : Puts segments (length g.closed) most (entry_of (open_segment g)) segments'
    entry = subst (λ (r : ℕ). Puts segments (length g.closed) most (entry_from (numbers_of g) r) segments') is p

    written : (d : List ℕ) → SegmentsHold most g d segments → SegmentsHold most (closing g) d segments'
    written d w =
        subst (λ (x : Gathered). SegmentsHold most x d segments') (sym closed)
        (subst (λ (words : List ℕ). Fronts d (width * most) words segments') (sym (in_turn_more entry_of g.closed (open_segment g)))
        (fronts_more width (length g.closed) most (in_turn entry_of g.closed) (entry_of (open_segment g))
        (in_turn_long entry_of width (λ x. refl) g.closed) refl w entry))

-- the same of any walk that stands there
pub closes_one : (most : ℕ) (walk : Walk) (segments segments' : List ℕ) (reset : ℕ) → walk.first < walk.records
    → reset ≡ min 1 walk.segments → Puts segments walk.segments most (entry_from walk reset) segments'
    → (g : Gathered) → walk ≡ numbers_of g → Closes most g segments segments' (walk_closed walk)
closes_one most walk segments segments' reset h is p g e =
    subst
    (λ (w : Walk).
    w.first < w.records → reset ≡ min 1 w.segments → Puts segments w.segments most (entry_from w reset) segments'
    → Closes most g segments segments' (walk_closed w))
    (sym e) (closes_one_at most g segments segments' reset) h is p

-- where no entry is to be written, closing a segment changes nothing
pub closes_unwritten : {most : ℕ} {g : Gathered} {segments segments' : List ℕ} {r : Walk} → Closes most g segments segments' r → most ≡ 0
    → segments' ≡ segments
closes_unwritten {most} {g} {segments} c none =
    fronts_nothing (width * most) (in_turn entry_of (closing g).closed) (omega (arith, none))
    (c.written segments (leaves_to (omega (arith, none)) (leaves_none segments 0 (λ k. get_or (in_turn entry_of g.closed) k 0))))
