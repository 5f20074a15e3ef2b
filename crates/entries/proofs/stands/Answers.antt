-- `entries::stands` meets its contract: a place that is cut, and else word for word.
-- Assumes nothing.
use mathlib.Core.Path.{◌∙◌}
use native.Mathlib.Omega.{arith}
use borrow.Author.Tests.{lt-leb}
use Rattle.entries.proofs.Held.{stands_cut, words_stand}
use Rattle.entries.proofs.stands.Goals as goal

pub returns-then-at-index : goal.returns-then-at-index
returns-then-at-index c =
    c.eq.ensures
    ∙ rw c.entry_at.ensures (words_stand c.args.index.now c.args.at c.args.entry c.if-at-index.true (λ i. omega (arith, c.type_inv.index i)) c.requires.0)

pub returns-else-at-index : goal.returns-else-at-index
returns-else-at-index c = lt-leb _ _ c.if-at-index.false ∙ stands_cut _ _ _ c.if-at-index.false
