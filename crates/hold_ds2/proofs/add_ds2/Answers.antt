-- `hold_ds2::add_ds2` meets its contract: the payload is held, the walk goes on as far as reads are complete, and what it read is dropped.
-- Assumes nothing.
use Prim.Native.Nat.{ℕ, ◌+◌, ◌*◌, ◌≤◌}
use mathlib.Core.Path.{◌≡◌, refl}
use mathlib.Core.List.{List}
use mathlib.Core.Bool.{false}
use native.Mathlib.Omega.{arith}
use lib.ListN.{length}
use Rattle.blocks.specs.Places.{stream_at}
use Rattle.packets.specs.Walk.{reach}
use Rattle.hold.specs.Inner.{Holds, Next}
use Rattle.blocks.proofs.Headers.{announced_most}
use Rattle.hold.proofs.Adding.{numbers, begun, holds_now}
use Rattle.hold_ds2.proofs.Ds2Block.{Counted, not_back, walking, walked}
use Rattle.hold_ds2.proofs.add_ds2.Goals as goal
use Rattle.hold_ds2.proofs.add_ds2.Goals.{Start, After-append, After-min-ready}

-- the recording that the call supposes
supposed : (c : Start)
    → Next false c.args.b c.args.number c.args.hold.now c.requires.0 c.args.was c.args.source.now c.args.at (length c.args.out.now) (length c.args.counts.now)
supposed c = c.requires.1

-- the payload is held, in whichever recording it may be
holds : (c : After-append) (w : List ℕ)
    (g : Next false c.args.b c.args.number c.args.hold.now w c.args.was c.args.source.now c.args.at (length c.args.out.now) (length c.args.counts.now))
    → Holds (stream_at g.f g.a (c.args.b + 1)) (506 * (c.args.b + 1)) c.args.was.base.0 c.append.new.hold
holds c w g = holds_now g _ c.append.ensures

counted : (c : After-min-ready)
    → Counted c.args.b c.args.was c.args.source.now c.args.at c.first_byte-first.result (c.args.was.announced + c.from.result)
    c.flag-swap.result c.reads_within.result c.min-ready.result
counted c =
    record {
      first_is = c.first_byte-first.ensures;
      swap_is = c.flag-swap.ensures;
      reads = c.reads_within.ensures;
      announced_is = omega (arith, c.from.ensures);
      now_is = c.min-ready.ensures;
    }

-- where the walk comes to, in the recording that the call supposes
goes : (c : After-min-ready) (next : ℕ) → next ≡ reach c.flag-swap.result c.min-ready.result
    → (c.args.was.base.0 ≤ next) × (next ≤ 506 * (c.args.b + 1)) × (c.args.was.ready ≤ c.min-ready.result)
goes c next is = not_back c.requires.1 (counted c) next is

pub overflow_sub-held : goal.overflow_sub-held
overflow_sub-held c = omega (arith, begun c.requires.1)

pub overflow_add-announced : goal.overflow_add-announced
overflow_add-announced c =
    let g = c.requires.1 in
    omega (arith, (numbers g).announced_is, announced_most g.f g.a c.args.b g.bytes, g.few, g.there, c.from.ensures)

pub overflow_sub-m : goal.overflow_sub-m
overflow_sub-m c = (goes (goal.at.overflow_sub-m c).After-min-ready _ refl).2

pub write_walk-carry-requires : goal.write_walk-carry-requires
write_walk-carry-requires c =
    let at = goal.at.write_walk-carry-requires c in
    walking c.requires.1 (counted at.After-min-ready) _ (holds at.After-append _ c.requires.1)

pub overflow_sub-next : goal.overflow_sub-next
overflow_sub-next c = (goes (goal.at.overflow_sub-next c).After-min-ready _ c.reach-next.ensures).0

pub returns : goal.returns
returns c =
    let at = goal.at.returns c in
    λ w g.
    walked g (counted at.After-min-ready) _ _ _ _ _ _ _ _ c.reach-next.ensures (holds at.After-append w g) c.drop_front.ensures
    c.write_walk-carry.ensures
