-- `entries::first_wrong` meets its contract: before each block the entries of those before it stand in the index.
-- Assumes nothing.
use Rattle.entries.proofs.Blockwise.{StandsUpto}
use Rattle.entries.proofs.first_wrong.Given as goal

abbrev pub invariant-loop-block : goal.invariant-loop-block
invariant-loop-block l =
    StandsUpto l.file l.recording.start.0 l.recording.blocks l.index l.front l.block l.number l.first
