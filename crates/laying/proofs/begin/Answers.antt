-- `laying::begin` meets its contract: the header is copied, then each block so far is silent.
-- Assumes nothing.
use Rattle.tables.proofs.Lent.{leaves_to}
use Rattle.laying.proofs.Steps.{silent_all}
use borrow.Author.Rules.{rules}
use Rattle.std.proofs.Common.{rules}
use Rattle.laying.proofs.begin.Goals as goal

pub returns : goal.returns
returns c =
    let l = c.loop-block in
    silent_all c.args.header.now _ _ _ _ _ c.copy.ensures (leaves_to (search rules) l.invariant.1)
