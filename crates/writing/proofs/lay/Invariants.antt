-- `writing::lay` meets its contract: the output holds the file of the packets so far.
-- Assumes nothing.
use Prim.Native.Nat.{◌≤◌}
use Rattle.laying.specs.Inner.{Holds}
use Rattle.writing.specs.Laying.{part_laid, byte_in}
use Rattle.writing.proofs.lay.Given as goal

abbrev pub invariant-loop-k : goal.invariant-loop-k
invariant-loop-k l = (l.k ≤ l.many) × Holds l.initial.out l.header (part_laid l.many (byte_in l.packets) l.k) l.out
