-- `pieces::absorb::renew` meets its contract: what was kept, then the piece's bytes, then zeros.
-- Assumes nothing.
use Rattle.pieces.proofs.Absorbing.{renewed}
use borrow.Author.Rules.{rules}
use Rattle.pieces.proofs.absorb.renew.Goals as goal

pub returns : goal.returns
returns c =
    renewed _ _ _ _ _ _ _ _ _ _ (search rules) (search rules) c.saturating_sub-kept.ensures (search rules) c.saturating_sub-at.ensures (search rules)
    c.copy.ensures c.clear.ensures
