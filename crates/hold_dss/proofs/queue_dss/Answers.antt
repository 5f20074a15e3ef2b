-- `hold_dss::queue_dss` meets its contract: the block waits behind those that wait, those that can leave are handed out and dropped.
-- Assumes nothing.
use Prim.Native.Nat.{◌+◌, ◌*◌}
use mathlib.Core.Bool.{true}
use native.Mathlib.Omega.{arith}
use lib.ListN.{length}
use Rattle.blocks.specs.Places.{stream_at}
use Rattle.hold.specs.Inner.{Holds, Next}
use Rattle.hold.proofs.Ready.{ready_within}
use Rattle.blocks.proofs.Headers.{announced_most}
use Rattle.hold.proofs.Adding.{numbers}
use Rattle.hold_dss.proofs.DssBlock.{few, dss_holds, ready_then, queued, left}
use Rattle.hold_dss.proofs.queue_dss.Goals as goal
use Rattle.hold_dss.proofs.queue_dss.Goals.{After-append, After-enter}

-- the block is held, and those that wait are as many as before it and one more
holds : (c : After-append)
    (g : Next true c.args.b c.args.number c.args.hold.now c.args.waiting.now c.args.was c.args.source.now c.args.at (length c.args.out.now) (length c.args.counts.now))
    → Holds (stream_at g.f g.a (c.args.b + 1)) (506 * (c.args.b + 1)) c.args.was.base.0 c.append.new.hold
holds c g = dss_holds g _ c.append.ensures

pub overflow_sub-wait : goal.overflow_sub-wait
overflow_sub-wait c = (few c.requires).1

pub append-requires : goal.append-requires
append-requires c = (omega (arith, few c.requires), omega (arith, c.requires.in_source))

pub enter-requires : goal.enter-requires
enter-requires c = (omega (arith, few c.requires), omega (arith, c.requires.in_source))

pub overflow_add-announced : goal.overflow_add-announced
overflow_add-announced c =
    let g = c.requires in
    omega (arith, (numbers g).announced_is, announced_most g.f g.a c.args.b g.bytes, g.few, g.there, c.from.ensures)

pub released-gone-requires : goal.released-gone-requires
released-gone-requires c =
    let g = c.requires in
    (omega (arith, few g), omega (arith, few g), omega (arith, g.few, g.there))

pub write_waiting-carry-requires : goal.write_waiting-carry-requires
write_waiting-carry-requires c =
    let g = c.requires in
    queued g _ c.enter.ensures _ _ c.released-gone.ensures.1 _ (holds (goal.at.write_waiting-carry-requires c).After-append g)

pub drop_front-requires : goal.drop_front-requires
drop_front-requires c =
    let g = c.requires in
    (omega (arith, few g, c.released-gone.ensures.0), omega (arith, few g))

pub drop_front-requires-2 : goal.drop_front-requires-2
drop_front-requires-2 c =
    let g = c.requires in
    (omega (arith, few g, c.released-gone.ensures.0), omega (arith, few g))

pub overflow_add-result : goal.overflow_add-result
overflow_add-result c =
    let g = c.requires in
    let all = ready_then g _ c.enter.ensures _ _ c.released-gone.ensures.1 in
    let most = announced_most g.f g.a (c.args.b + 1) g.bytes in
    omega (arith, all, ready_within true g.f g.a (c.args.b + 1), most, g.few, g.there)

pub returns : goal.returns
returns c =
    let at = goal.at.returns c in
    λ g.
    left g _ c.enter.ensures _ _ c.released-gone.ensures.1 _ _ _ _ _ _ _ _ _ _ c.first_byte-first.ensures
    (omega (arith, c.from.ensures)) (holds at.After-append g) c.drop_front.ensures c.drop_front-2.ensures c.write_waiting-carry.ensures
