-- `pieces::survey::block_fits` meets its contract: where the hold begins is known with no walk.
-- Assumes nothing.
use mathlib.Core.Path.{ap, ◌∙◌}
use Rattle.packets.specs.Walk.{reach}
use Rattle.pieces.proofs.Surveying.{base_is}
use Rattle.pieces.proofs.survey.block_fits.Goals as goal

pub returns : goal.returns
returns c =
    λ f a bytes announced first.
    let v = c.reads_within.ensures in
    let base = c.reach-base.ensures ∙ ap (reach c.flag-swap.result) c.min-ready.ensures in
    rw (base, base_is f a _ _ _ c.reads_within.result _ announced first c.flag-swap.ensures v.0 v.1)
