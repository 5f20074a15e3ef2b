-- `finding::carried_into` meets its contract: what is carried to the block is what is carried to each block that was looked back to.
-- Assumes nothing.
use Prim.Native.Nat.{◌≤◌}
use mathlib.Core.Path.{◌≡◌}
use Rattle.finding.specs.Packet.{carried_into}
use Rattle.finding.proofs.carried_into.Given as goal

abbrev pub invariant-loop-before : goal.invariant-loop-before
invariant-loop-before l =
    (l.before ≤ l.block) × (carried_into l.file l.recording l.before ≡ carried_into l.file l.recording l.block)
