-- When a walk stands for what was gathered: by its four numbers.
-- Assumes nothing.
use Prim.Native.Nat.{ℕ}
use mathlib.Core.Path.{◌≡◌}
use lib.ListN.{length}
use Rattle.qp7.specs.declared.Walk.{Walk}
use Rattle.qp7.specs.Walk.{Gathered}
use Rattle.qp7.specs.Inner.{numbers_of}

-- two walks with the same numbers are the same
made : {p p' r r' s s' f f' : ℕ} → p ≡ p' → r ≡ r' → s ≡ s' → f ≡ f'
    → ◌≡◌ {A = Walk} (record { place = record { 0 = p }; records = r; segments = s; first = f })
    (record { place = record { 0 = p' }; records = r'; segments = s'; first = f' })
made p r s f = cc

-- it has the read place, as many records and segments, and the same first record
pub stands_by : (walk : Walk) (g : Gathered) → walk.place.0 ≡ g.place → walk.records ≡ length g.records
    → walk.segments ≡ length g.closed → walk.first ≡ g.first → walk ≡ numbers_of g
stands_by walk g place records segments first = made place records segments first
