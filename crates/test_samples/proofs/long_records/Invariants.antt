-- `test_samples::long_records` meets its contract: the file keeps its length while its payload is written.
-- Assumes nothing.
use Rattle.std.proofs.Common.{◌≡◌, length}
use Rattle.test_samples.proofs.long_records.Given as goal

abbrev pub invariant-loop-place : goal.invariant-loop-place
invariant-loop-place l = length l.file ≡ 4096
