-- `tally::in_packets::of_ds2` meets its contract: no blocks announce nothing, and otherwise there is one run.
-- Assumes nothing.
use mathlib.Core.Path.{ap, ◌∙◌}
use mathlib.Core.List.{[]}
use native.Mathlib.Omega.{arith}
use Rattle.blocks.specs.Headers.{announced_in}
use Rattle.blocks.proofs.Headers.{announced_none, announced_most}
use Rattle.whole.proofs.Admissions.{few_blocks}
use Rattle.sp.proofs.ReadLists.{ds2_packets}
use Rattle.tally.proofs.Packetwise.{nothing_out, run_alone}
use Rattle.tally.proofs.Runwise.{none_past}
use Rattle.tally.proofs.in_packets.of_ds2.Goals as goal

pub returns-then-recording-eq0 : goal.returns-then-recording-eq0
returns-then-recording-eq0 c =
    let a = c.args in
    nothing_out _ (ds2_packets _ _ _ ∙ ap (announced_in a.file.now a.recording.start.0) c.if-recording-eq0.true ∙ announced_none _ _)

pub of_run-requires : goal.of_run-requires
of_run-requires c =
    let a = c.args in
    let few = few_blocks _ a.recording c.requires.sound in
    let most = announced_most a.file.now a.recording.start.0 a.recording.blocks (λ i. omega (arith, c.shared_slice_known-1.given i)) in
    omega (arith, most, few)

pub returns : goal.returns
returns c =
    rw (← c.swap_flag.ensures, ← c.requires.announced) (run_alone _ _ _ _ (c.of_run.ensures.adds _ [] (none_past _ _)).out_is)
