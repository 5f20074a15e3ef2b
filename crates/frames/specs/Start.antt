-- Where the frames of a QP or QP7 block start in the payload stream.
-- Assumes nothing.
use Rattle.std.specs.Prelude.{ℕ, ◌+◌, ◌*◌, ◌-◌}

-- 506 times the block's number, and on from there twice byte 1 less 6, at least 0
unfoldable pub frames_start : ℕ → ℕ → ℕ
frames_start block byte1 = 506 * block + (2 * byte1 - 6)
