-- `qp7::walk_blocks` meets its contract: the walk stands for what the blocks so far gather.
-- Assumes nothing.
use mathlib.Core.Path.{refl}
use native.Mathlib.Omega.{arith}
use Rattle.std.proofs.lemmas.Result.{err_from_is_err_and}
use Rattle.qp7.proofs.Gathering.{gathering_begins, gathering_goes_on, gathering_stops, gathering_ends}
use borrow.Author.Rules.{rules}
use Rattle.std.proofs.Common.{rules}
use Rattle.qp7.proofs.walk_blocks.Goals as goal

pub loop-block-init : goal.loop-block-init
loop-block-init c = (omega arith, refl, refl, gathering_begins _ _ _ _ _)

pub returns-in_err-walk : goal.returns-in_err-walk
returns-in_err-walk c =
    let l = c.loop-block in
    let p = err_from_is_err_and c.from_residual.result c.from_residual.ensures.1 in
    rw (p.1, p.2)
    (gathering_stops _ _ _ _ _ _ _ _ _ l.invariant.3 _ _ _ c.with_block.ensures.on _ c.in_err-walk.was c.loop-block-test.true)

pub loop-block-preserved : goal.loop-block-preserved
loop-block-preserved c =
    let l = c.loop-block in
    let next =
    gathering_goes_on _ _ _ _ _ _ _ _ _ l.invariant.3 _ _ _ c.with_block.ensures.on _ c.in_ok-walk.was
    c.with_block.ensures.near in
    (omega (arith, c.loop-block-test.true), search rules, search rules, next)

pub returns : goal.returns
returns c =
    let l = c.loop-block in
    gathering_ends _ _ _ _ _ _ _ _ _ l.invariant.3 _ _ (omega (arith, c.loop-block-test.false, l.invariant.0)) c.close.ensures.closes
