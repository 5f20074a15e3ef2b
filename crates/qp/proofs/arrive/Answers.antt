-- `qp::arrive` meets its contract: at the read place the segment goes on, elsewhere it is closed and another begun.
-- Assumes nothing.
use Rattle.qp.proofs.Gathers.{moves_on, moves_away}
use Rattle.qp.proofs.arrive.Goals as goal

pub returns-then-at-gathering-clause-moves : goal.returns-then-at-gathering-clause-moves
returns-then-at-gathering-clause-moves c = let a = c.args in
    (λ g is. moves_on a.end a.at.0 a.most g a.gathering _ is c.if-at-gathering.true)

pub returns-clause-moves : goal.returns-clause-moves
returns-clause-moves c = let a = c.args in (λ g is. moves_away a.end a.most a.at g a.gathering _ _ _ is c.if-at-gathering.false (c.close-kept.ensures.closes g is))
