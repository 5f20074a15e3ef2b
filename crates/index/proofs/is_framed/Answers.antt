-- `index::is_framed` meets its contract: test by test.
-- Assumes nothing.
use native.Mathlib.Omega.{arith}
use mathlib.Core.Path.{◌∙◌}
use borrow.Author.Tests.{le-ltb}
use Rattle.index.proofs.Framed.{framed_cut, framed_empty, framed_so}
use Rattle.index.proofs.is_framed.Goals as goal

pub returns-then-index-lt4 : goal.returns-then-index-lt4
returns-then-index-lt4 c = framed_cut _ c.if-index-lt4.true

pub returns-then-follow-gt0 : goal.returns-then-follow-gt0
returns-then-follow-gt0 c =
    framed_so _ _ c.if-index-lt4.false c.word_at-follow.ensures.0 (λ none. omega (arith, c.if-follow-gt0.true))

pub returns-else-follow-gt0 : goal.returns-else-follow-gt0
returns-else-follow-gt0 c =
    le-ltb _ _ c.if-follow-gt0.false
    ∙ framed_empty _ _ c.if-index-lt4.false c.word_at-follow.ensures.0 (omega (arith, c.if-follow-gt0.false))
