-- `pieces::survey::judge_ds2` meets its contract: what is ready with the piece follows from what all blocks announce.
-- Assumes nothing.
use mathlib.Core.Path.{◌∙◌}
use Rattle.std.proofs.lemmas.Result.{err_from_is_err_and}
use Rattle.pieces.proofs.Surveying.{announced_few, ready_after}
use Rattle.pieces.proofs.Judging.{judged_fit, judged_full}
use Rattle.pieces.proofs.survey.judge_ds2.Goals as goal

pub look_over-requires-clause-few : goal.look_over-requires-clause-few
look_over-requires-clause-few c = announced_few c.requires.known.2

pub returns-in_err-found : goal.returns-in_err-found
returns-in_err-found c =
    let p = err_from_is_err_and c.from_residual.result c.from_residual.ensures.1 in
    rw (p.1, p.2) (λ f waiting known. let look = c.in_err-found.ensures.fits f waiting known in judged_full _ f _ _ _ look.0 look.1)

pub returns : goal.returns
returns c =
    let v = c.reads_within.ensures in
    λ f waiting known.
    let look = c.in_ok-found.ensures.fits f waiting known in
    c.fit_in.ensures
    ∙ judged_fit known _ _ _ look.0
    (c.min-ready.ensures ∙ ready_after known _ _ _ _ _ c.whole_blocks-end.ensures look.1 look.2 c.flag-swap.ensures v.0 v.1)
    c.saturating_sub.ensures
