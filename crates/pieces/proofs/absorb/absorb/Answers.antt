-- `pieces::absorb::absorb` meets its contract: the blocks before b have been added, and what they brought stands in front.
-- Assumes nothing.
use native.Mathlib.Omega.{arith}
use Rattle.pieces.proofs.Absorbing.{ready_grown, comes, turned, absorbed}
use borrow.Author.Rules.{rules}
use Rattle.pieces.proofs.absorb.absorb.Goals as goal

pub overflow_sub-number : goal.overflow_sub-number
overflow_sub-number c = ready_grown c.loop-b.invariant (omega (arith, c.whole_blocks-end.ensures)) (c.requires.able c.if-not-accepted.false).1

pub take_block-standing-requires : goal.take_block-standing-requires
take_block-standing-requires c = (_, comes c.loop-b.invariant (omega (arith, c.whole_blocks-end.ensures)) (c.requires.able c.if-not-accepted.false).1)

pub loop-b-preserved : goal.loop-b-preserved
loop-b-preserved c = turned c.loop-b.invariant (omega (arith, c.whole_blocks-end.ensures)) c.take_block-standing.ensures

pub returns-clause-taken : goal.returns-clause-taken
returns-clause-taken c = λ _ f m. absorbed c.loop-b.invariant (search rules) _ c.whole_blocks-end.ensures _ c.renew.ensures f m
