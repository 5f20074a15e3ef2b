-- `entries::add_up` meets its contract: before each block so many entries and packets are counted.
-- Assumes nothing.
use Rattle.entries.proofs.Blockwise.{Before}
use Rattle.entries.proofs.add_up.Given as goal

abbrev pub invariant-loop-block : goal.invariant-loop-block
invariant-loop-block l =
    Before l.file l.recording.start.0 l.recording.blocks l.block l.entries l.packets
