-- `test_ends::drain` meets its contract: each lenient end gives back a reached reader.
-- Assumes nothing.
use Rattle.reader.specs.State.{Reached}
use Rattle.test_ends.proofs.drain.Given as goal

abbrev pub invariant-loop : goal.invariant-loop
invariant-loop l = Reached l.draining
