-- `at_once::hand_out` meets its contract: one read is made where the number says.
-- Assumes nothing.
use native.Mathlib.Omega.{arith}
use Rattle.sp.proofs.ReadLists.{some_block}
use Rattle.at_once.proofs.Outcome.{packet_written}
use Rattle.at_once.proofs.hand_out.Goals as goal

pub swap_flag-first-requires : goal.swap_flag-first-requires
swap_flag-first-requires c =
    let a = c.args in
    let some = some_block a.file.now a.recording.start.0 a.recording.blocks (λ none. omega (arith, c.requires.there, none)) in
    omega (arith, some, c.requires.readable.whole)

pub returns : goal.returns
returns c =
    packet_written _ _ _ _ _ _ _ c.swap_flag-first.ensures c.reach.ensures c.parity.ensures c.carried_to-carry.ensures c.write_run.ensures
