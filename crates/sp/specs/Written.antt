-- What a reading leaves in the two lent buffers.
-- Assumes nothing.
use Rattle.std.specs.Prelude.{ℕ, ◌*◌, List}
use Rattle.tables.specs.Lent.{Leaves}
use Rattle.sp.specs.Readings.{Reading, total, joined_byte_at, file_count_at}

-- all packets of a reading stand from the front on
pub record Written (reading : Reading) (out out' counts counts' : List ℕ) : Type 0 where
  pub packets_are : Leaves out 0 (42 * total reading) (joined_byte_at reading) out'
  pub counts_are : Leaves counts 0 (total reading) (file_count_at reading) counts'
