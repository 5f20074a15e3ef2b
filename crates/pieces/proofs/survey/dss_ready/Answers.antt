-- `pieces::survey::dss_ready` meets its contract: the blocks so far leave, and their packets are added up.
-- Assumes nothing.
use native.Mathlib.Omega.{arith}
use Rattle.pieces.proofs.Leaving.{few_queue, queued, leaving_begins, leaving_on, leaving_stops, leaving_ends}
use borrow.Author.Rules.{rules}
use Rattle.pieces.proofs.survey.dss_ready.Goals as goal

pub loop-block-init : goal.loop-block-init
loop-block-init c =
    let few = few_queue c.requires.known.1 in
    (omega (arith, few.0), few.2, λ f queue. leaving_begins queue)

pub run_at-run-requires-clause-near : goal.run_at-run-requires-clause-near
run_at-run-requires-clause-near c = let few = few_queue c.requires.known.1 in
    (search rules, search rules, few.1)

pub returns-then-long-ends_at : goal.returns-then-long-ends_at
returns-then-long-ends_at c =
    λ f known.
    let queue = queued known _ c.whole_blocks-end.ensures in
    leaving_stops queue (c.loop-block.invariant.2 f queue) (search rules) c.run_at-run.ensures.2 c.ends_at.ensures c.if-long-ends_at.true

pub loop-block-preserved : goal.loop-block-preserved
loop-block-preserved c = (
  search rules,
  search rules,
  λ f queue.
      leaving_on queue (c.loop-block.invariant.2 f queue) (search rules) c.run_at-run.ensures.2 c.ends_at.ensures c.if-long-ends_at.false,
)

pub returns : goal.returns
returns c =
    λ f known.
    let queue = queued known _ c.whole_blocks-end.ensures in
    leaving_ends queue (c.loop-block.invariant.2 f queue) (search rules) (search rules)
