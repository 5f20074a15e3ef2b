-- Where the frames of a DSS block start in the payload stream.
-- Assumes nothing.
use Rattle.std.specs.Prelude.{ℕ, ◌+◌, ◌*◌, ◌-◌, min, Bool, cond}

-- 506 times the block's number, and on from there twice byte 1, and 2 for the flag, less 6: at least 0 and at most 506
unfoldable pub dss_start : ℕ → ℕ → Bool → ℕ
dss_start block byte1 swap = 506 * block + min 506 (2 * byte1 + 2 * cond swap 1 0 - 6)
