-- `laying::lay_silent` meets its contract: zeros, then four stores.
-- Assumes nothing.
use Rattle.laying.proofs.Steps.{silent_stores}
use Rattle.std.proofs.Common.{rules}
use Rattle.laying.proofs.lay_silent.Goals as goal

pub returns : goal.returns
returns c = silent_stores _ _ _ _ (search rules) c.clear.ensures
