-- `test_feeding::feed` meets its contract: each piece gives back a reached reader and ends further on, at most at the file's end.
-- Assumes nothing.
use Rattle.std.proofs.Common.{◌-◌, length}
use Rattle.reader.specs.State.{Reached}
use Rattle.test_feeding.proofs.feed.Given as goal

abbrev pub invariant-loop-at : goal.invariant-loop-at
invariant-loop-at l = Reached l.fed.reader

abbrev pub decreases-loop-at : goal.decreases-loop-at
decreases-loop-at l = length l.file - l.at
