-- `finding::carried_into` meets its contract: what is carried to the block is what is carried to each block that was looked back to.
-- Assumes nothing.
use Prim.Native.Nat.{◌+◌, ◌-◌}
use mathlib.Core.Path.{◌≡◌, sym, ap, ◌∙◌}
use native.Mathlib.Omega.{arith}
use Rattle.packets.proofs.Unswapped.{upto_most}
use Rattle.finding.specs.Packet.{carried_into}
use Rattle.finding.proofs.Carried.{into_none, into_last, into_kept, near_run}
use Rattle.finding.proofs.carried_into.Goals as goal

pub carried_by-requires-clause-near : goal.carried_by-requires-clause-near
carried_by-requires-clause-near c = let l = c.loop-before in
    let run = c.dss_run-run.result in (
      near_run c.args.file.now c.args.recording (l.before - 1) run c.dss_run-run.ensures.0 (omega (arith, l.invariant.0, c.requires.1, c.requires.0.blocks_few)),
      omega (arith, c.upto_unswapped-reads.ensures, upto_most run.swap run.count, c.dss_run-run.ensures.1),
      c.if-reads-gt0.true,
    )

pub returns-then-reads-gt0 : goal.returns-then-reads-gt0
returns-then-reads-gt0 c =
    let l = c.loop-before in
    let a = c.args in
    let number : l.before - 1 + 1 ≡ l.before = omega (arith, c.loop-before-test.true) in
    into_last _ a.recording (l.before - 1) _ c.dss_run-run.result c.dss_run-run.ensures.0 c.upto_unswapped-reads.ensures c.if-reads-gt0.true c.carried_by.ensures
    ∙ ap (carried_into a.file.now a.recording) number
    ∙ l.invariant.1

pub loop-before-preserved : goal.loop-before-preserved
loop-before-preserved c =
    let l = c.loop-before in
    let a = c.args in
    let number : l.before - 1 + 1 ≡ l.before = omega (arith, c.loop-before-test.true) in (
      omega (arith, l.invariant.0),
      into_kept _ a.recording (l.before - 1) _ c.dss_run-run.result c.dss_run-run.ensures.0 c.upto_unswapped-reads.ensures c.if-reads-gt0.false
          ∙ ap (carried_into a.file.now a.recording) number
          ∙ l.invariant.1,
    )

pub returns : goal.returns
returns c =
    let l = c.loop-before in
    let a = c.args in
    let none : 0 ≡ l.before = omega (arith, c.loop-before-test.false) in
    sym (into_none _ a.recording) ∙ ap (carried_into a.file.now a.recording) none ∙ l.invariant.1
