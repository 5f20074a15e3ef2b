-- `finding::search` meets its contract: the numbers cross the packet's between low and high, which come together.
-- Assumes nothing.
use Prim.Native.Nat.{◌-◌}
use Rattle.finding.proofs.Halving.{Between}
use Rattle.finding.proofs.search.Given as goal

abbrev pub invariant-loop-high : goal.invariant-loop-high
invariant-loop-high l = Between l.index l.front l.entries l.packet l.low l.high

abbrev pub decreases-loop-high : goal.decreases-loop-high
decreases-loop-high l = l.high - l.low
