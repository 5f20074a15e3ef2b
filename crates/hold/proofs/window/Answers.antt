-- `hold::window` meets its contract: the bytes are copied, as far as the hold goes.
-- Assumes nothing.
use mathlib.Core.Path.{refl}
use lib.ListN.{get_or-replicate}
use Rattle.hold.proofs.Windows.{window_is}
use borrow.Author.Rules.{rules}
use Rattle.std.proofs.Common.{rules}
use Rattle.hold.proofs.window.Goals as goal

pub returns : goal.returns
returns c =
    let a = c.args in
    window_is a.hold.now _ _ a.at c.min-begin.result c.min-n.result
    (search rules) refl (λ i h. get_or-replicate 42 i 0 0 h) c.min-begin.ensures c.min-n.ensures c.copy.ensures
