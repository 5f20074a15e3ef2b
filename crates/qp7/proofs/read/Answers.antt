-- `qp7::read` meets its contract: the counting pass changes nothing, and what it refuses is refused.
-- Assumes nothing.
use Rattle.std.proofs.lemmas.Result.{err_from_is_err_and}
use Rattle.qp7.proofs.Outcome.{counting_refused}
use Rattle.qp7.proofs.read.Goals as goal

pub returns-in_err-walk : goal.returns-in_err-walk
returns-in_err-walk c =
    let p = err_from_is_err_and c.from_residual.result c.from_residual.ensures.1 in
    rw (p.1, p.2) (counting_refused _ _ _ _ _ _ c.walk_blocks.ensures _ c.in_err-walk.was)
