-- `tally::in_packets::of_run` meets its contract: by whether all its reads are complete.
-- Assumes nothing.
use Prim.Native.Nat.{ℕ, ◌-◌}
use mathlib.Core.Path.{ap, ◌∙◌}
use native.Mathlib.Omega.{arith}
use Rattle.tally.specs.Inner.{adds_by}
use Rattle.tally.proofs.Past.{run_added}
use Rattle.tally.proofs.in_packets.of_run.Goals as goal

pub returns-then-end-left-clause-adds : goal.returns-then-end-left-clause-adds
returns-then-end-left-clause-adds c =
    let a = c.args in
    let run = a.run in
    let end = c.reach-end.ensures in
    let left = c.saturating_sub-left.ensures in
    (run_added run a.long a.sourced _ run.count (c.of_complete.ensures (a.long - run.start.0) (omega (arith, left)))
    (omega arith) (omega (arith, end, left)) (λ less. absurd (omega arith))).0

pub returns-clause-adds : goal.returns-clause-adds
returns-clause-adds c =
    let a = c.args in
    let run = a.run in
    let left = c.saturating_sub-left.ensures in
    let w = c.of_cut.ensures in
    (run_added run a.long a.sourced _ w.0
    (w.4 ∙ ap (λ (x : ℕ). adds_by run.swap run.count w.0 x a.sourced) left)
    (omega (arith, w.1)) (omega (arith, left, w.2)) (λ h. omega (arith, left, w.3))).0
