-- `qp7::close` meets its contract: an empty segment is not closed, another is.
-- Assumes nothing.
use Rattle.qp7.proofs.Closing.{closes_none, closes_one}
use Rattle.qp7.proofs.close.Goals as goal

pub returns-then-walk-clause-closes : goal.returns-then-walk-clause-closes
returns-then-walk-clause-closes c = closes_none _ _ _ c.if-walk.true

pub returns-clause-closes : goal.returns-clause-closes
returns-clause-closes c = closes_one _ c.args.walk _ _ _ c.if-walk.false c.min.ensures c.put.ensures
