-- `at_once::carried_to` meets its contract: nothing for packet 0, and else a byte of the stream.
-- Assumes nothing.
use native.Mathlib.Omega.{arith}
use Rattle.at_once.proofs.Straight.{carried_first, carried_later}
use Rattle.at_once.proofs.carried_to.Goals as goal

pub returns-then-number-eq0 : goal.returns-then-number-eq0
returns-then-number-eq0 c = carried_first _ _ _ c.if-number-eq0.true

pub returns : goal.returns
returns c =
    carried_later _ _ _ c.if-number-eq0.false (omega (arith, c.reach-before.ensures)) c.byte_or_zero.ensures
