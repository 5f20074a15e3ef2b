-- `detect::ds2::scan` meets its contract: what is left to scan gives what the whole scan gives, and the inner count is the candidate's score so far.
-- Assumes nothing.
use Prim.Native.Nat.{◌+◌, ◌-◌, ◌/◌, ◌%◌, ◌≤◌, ◌<◌}
use mathlib.Core.Path.{◌≡◌}
use Rattle.detect.specs.Start.{scan, scanned}
use Rattle.detect.proofs.Start.{Ran}
use Rattle.detect.proofs.ds2.scan.Given as goal

abbrev pub invariant-loop-valid : goal.invariant-loop-valid
invariant-loop-valid l = (l.valid < 4) × Ran l.file l.offset l.valid

abbrev pub decreases-loop-valid : goal.decreases-loop-valid
decreases-loop-valid l = 16 - l.valid

abbrev pub invariant-scan : goal.invariant-scan
invariant-scan l =
    (l.offset % 512 ≡ 0)
    × ((512 ≤ l.offset)
    × ((l.offset ≤ l.end + 512) × ((l.end ≤ 0x10000) × (scanned l.file ≡ scan l.file ((l.end + 512 - l.offset) / 512) l.offset l.best l.most))))

abbrev pub decreases-scan : goal.decreases-scan
decreases-scan l = l.end + 512 - l.offset
