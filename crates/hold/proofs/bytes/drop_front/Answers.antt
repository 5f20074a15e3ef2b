-- `hold::bytes::drop_front` meets its contract: what is left has moved, and zeros follow.
-- Assumes nothing.
use Rattle.hold.proofs.Moving.{drop_none, drop_some}
use borrow.Author.Rules.{rules}
use Rattle.std.proofs.Common.{rules}
use Rattle.hold.proofs.bytes.drop_front.Goals as goal

pub returns-then-by-eq0 : goal.returns-then-by-eq0
returns-then-by-eq0 c = drop_none _ _ _ c.if-by-eq0.true

pub returns : goal.returns
returns c =
    drop_some _ _ _ _ _ (search rules) c.move_up.ensures c.clear.ensures
