-- `tally::in_packets::of_dss` meets its contract: after b blocks it has what their runs hand out.
-- Assumes nothing.
use Rattle.tally.proofs.Runwise.{runs_begin, runs_go_on}
use Rattle.tally.proofs.in_packets.of_dss.Goals as goal

pub loop-block-init : goal.loop-block-init
loop-block-init c = runs_begin _ _ _ _ _

pub loop-block-preserved : goal.loop-block-preserved
loop-block-preserved c =
    let l = c.loop-block in
    let v = l.invariant in
    runs_go_on _ _ _ _ _ l.block c.dss_run-run.result l.out _ l.sourced c.of_run-added.result c.loop-block-test.true
    c.dss_run-run.ensures v (c.of_run-added.ensures.adds _ _ v.sourced_is) c.of_run-added.ensures.few c.together-out.ensures
