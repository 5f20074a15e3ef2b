-- `test_feeding::repeat` meets its contract: each piece gives back a reached reader.
-- Assumes nothing.
use Rattle.reader.specs.State.{Reached}
use Rattle.test_feeding.proofs.repeat.Given as goal

abbrev pub invariant-loop : goal.invariant-loop
invariant-loop l = Reached l.fed.reader
