-- `test_samples::rising` meets its contract: it keeps its 40 places.
-- Assumes nothing.
use Rattle.std.proofs.Common.{◌≡◌, length}
use Rattle.test_samples.proofs.rising.Given as goal

abbrev pub invariant-loop-k : goal.invariant-loop-k
invariant-loop-k l = length l.read ≡ 40
