-- `pieces::survey::look_over` meets its contract: a block that does not fit is refused, and one that does is added up.
-- Assumes nothing.
use mathlib.Core.Path.{refl}
use Rattle.pieces.proofs.Surveying.{look_begins, look_on, look_stops, look_ends}
use Rattle.std.proofs.Common.{rules}
use Rattle.pieces.proofs.survey.look_over.Goals as goal

pub returns-then-not-block_fits-clause-fits : goal.returns-then-not-block_fits-clause-fits
returns-then-not-block_fits-clause-fits c =
    λ f waiting known.
    let begun = look_begins known _ _ _ c.whole_blocks-begin.ensures c.whole_blocks-end.ensures c.first_after-first.ensures in
    (look_stops begun (c.loop-b.invariant.1 f begun) (search rules) c.block_fits.ensures c.if-not-block_fits.true, refl)

pub loop-b-preserved : goal.loop-b-preserved
loop-b-preserved c = (
  search rules,
  λ f begun.
      look_on begun (c.loop-b.invariant.1 f begun) (search rules) c.block_fits.ensures c.if-not-block_fits.false c.joined_byte-count.ensures
      c.from-announced.ensures,
)

pub returns-clause-fits : goal.returns-clause-fits
returns-clause-fits c =
    λ f waiting known.
    let begun = look_begins known _ _ _ c.whole_blocks-begin.ensures c.whole_blocks-end.ensures c.first_after-first.ensures in
    look_ends begun (c.loop-b.invariant.1 f begun) (search rules) (search rules)
