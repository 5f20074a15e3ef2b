-- `finding::carried_to` meets its contract: from the block itself, or from those before it.
-- Assumes nothing.
use mathlib.Core.Path.{◌∙◌}
use native.Mathlib.Omega.{arith}
use Rattle.packets.proofs.Unswapped.{upto_most}
use Rattle.finding.proofs.Carried.{past_last, past_none, near_run}
use Rattle.finding.proofs.carried_to.Goals as goal

pub carried_by-requires-clause-near : goal.carried_by-requires-clause-near
carried_by-requires-clause-near c = let run = c.dss_run-run.result in (
  near_run c.args.file.now c.args.recording c.args.block run c.dss_run-run.ensures.0 (omega (arith, c.requires.1, c.requires.0.blocks_few)),
  omega (arith, c.upto_unswapped-reads.ensures, upto_most run.swap c.args.k, c.requires.2),
  c.if-reads-gt0.true,
)

pub returns-then-reads-gt0 : goal.returns-then-reads-gt0
returns-then-reads-gt0 c =
    let a = c.args in
    past_last _ a.recording a.block a.k _ c.dss_run-run.result c.dss_run-run.ensures.0 c.upto_unswapped-reads.ensures c.if-reads-gt0.true c.carried_by.ensures

pub returns : goal.returns
returns c =
    let a = c.args in
    c.carried_into.ensures
    ∙ past_none _ a.recording a.block a.k _ c.dss_run-run.result c.dss_run-run.ensures.0 c.upto_unswapped-reads.ensures c.if-reads-gt0.false
