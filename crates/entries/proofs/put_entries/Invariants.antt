-- `entries::put_entries` meets its contract: before each block the entries of those before it are laid.
-- Assumes nothing.
use Rattle.entries.proofs.Blockwise.{LaidUpto}
use Rattle.entries.proofs.put_entries.Given as goal

abbrev pub invariant-loop-block : goal.invariant-loop-block
invariant-loop-block l =
    LaidUpto l.file l.recording.start.0 l.recording.blocks l.initial.out l.front l.block l.at l.first l.out
