-- `hold::waiting::write_waiting` meets its contract: block by block the parts follow one another.
-- Assumes nothing.
use mathlib.Core.Path.{◌≡◌, ap, ◌∙◌}
use native.Mathlib.Omega.{arith}
use Rattle.tables.proofs.Cases.{by_order}
use Rattle.blocks.specs.Places.{stream_at}
use Rattle.sp.specs.ReadLists.{dss_run}
use Rattle.hold.proofs.Queue.{block_there, part_asked, queue_goes_on, queue_ends}
use Rattle.std.proofs.Common.{◌+◌, ◌-◌}
use Rattle.hold.proofs.waiting.write_waiting.Goals as goal

pub write_held-carried-requires-clause-held : goal.write_held-carried-requires-clause-held
write_held-carried-requires-clause-held c =
    let g = c.requires in
    let number : c.loop-block.block ≡ c.args.j + (c.loop-block.block - c.args.j) = omega arith in
    let run = c.waiting_run-run.ensures.2 g.f g.a c.args.n c.args.j g.waiting_is (omega arith) c.loop-block-test.true ∙ ap (dss_run g.f g.a) number in
    (part_asked (c.loop-block.invariant g) g.due (omega arith) c.waiting_run-run.result c.part_of-part.result _ _ run c.min-here.ensures
    c.min-some.ensures c.part_of-part.ensures c.waiting_run-run.ensures.0 (omega (arith, c.waiting_run-run.ensures.1)) g.few).0

pub loop-block-preserved : goal.loop-block-preserved
loop-block-preserved c g =
    let number : c.loop-block.block ≡ c.args.j + (c.loop-block.block - c.args.j) = omega arith in
    let next : c.loop-block.block + 1 - c.args.j ≡ c.loop-block.block - c.args.j + 1 = omega arith in
    let run = c.waiting_run-run.ensures.2 g.f g.a c.args.n c.args.j g.waiting_is (omega arith) c.loop-block-test.true ∙ ap (dss_run g.f g.a) number in
    rw next
    (queue_goes_on (c.loop-block.invariant g) g.due (omega arith) c.waiting_run-run.result c.part_of-part.result _ _ run c.min-here.ensures
    c.min-some.ensures c.part_of-part.ensures (c.write_held-carried.ensures (stream_at g.f g.a c.args.n) g.holds))

pub returns : goal.returns
returns c g =
    let q = c.loop-block.invariant g in
    by_order 0 c.loop-block.left (λ some. absurd (omega (arith, block_there q g.due some, c.loop-block-test.false))) (λ none. queue_ends q none)
