-- The bytes that were joined, from a place on: what a reader keeps of a block that is not whole.
-- Assumes nothing.
use Rattle.std.specs.Prelude.{ℕ, ◌+◌, List, get_or}
use Rattle.tables.specs.Table.{table}

-- 512 bytes of f from a place on, zeros past its end
unfoldable pub bytes_from : List ℕ → ℕ → List ℕ
bytes_from f place = table 512 (λ i. get_or f (place + i) 0)
