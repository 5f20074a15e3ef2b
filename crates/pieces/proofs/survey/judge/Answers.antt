-- `pieces::survey::judge` meets its contract: of a DSS piece every block fits.
-- Assumes nothing.
use mathlib.Core.Path.{◌∙◌}
use Rattle.hold.proofs.Front.{dss_fits}
use Rattle.pieces.proofs.Judging.{judged_fit}
use Rattle.pieces.proofs.survey.judge.Goals as goal

pub returns-then-dss : goal.returns-then-dss
returns-then-dss c =
    let t = c.if-dss.true in
    λ f given.
    let known = rw t at given in
    rw t (c.fit_in.ensures ∙ judged_fit known _ _ _ (dss_fits f _ _ known.bytes) (c.dss_ready-ready.ensures f known) c.saturating_sub.ensures)

pub returns : goal.returns
returns c = let t = c.if-dss.false in λ f known. rw t (c.judge_ds2.ensures f _ (rw t at known))
