-- `qp::close` meets its contract: a segment with no frames is not kept, and another is put.
-- Assumes nothing.
use native.Mathlib.Omega.{arith}
use Rattle.qp.proofs.Gathers.{closes_none, closes_some}
use Rattle.qp.proofs.close.Goals as goal

pub returns-then-gathering-eq0-clause-closes : goal.returns-then-gathering-eq0-clause-closes
returns-then-gathering-eq0-clause-closes c = (λ g is. closes_none c.args.end c.args.most g c.args.gathering _ is c.if-gathering-eq0.true)

pub returns-clause-closes : goal.returns-clause-closes
returns-clause-closes c = (λ g is.
    closes_some c.args.end c.args.most g c.args.gathering c.min-stop.result c.min.result _ _ is c.min-stop.ensures c.min.ensures (omega (arith, c.if-gathering-eq0.false)) c.put.ensures)
