-- The payload stream is all payloads joined: as a list it has, place by place, what `stream_at` says, and 0 past its end.
-- Assumes nothing.
use Rattle.std.specs.Prelude.{ℕ, zero, suc, List, [], ◌++◌}
use Rattle.blocks.specs.Places.{payload_of}

-- the first n payloads, joined
unfoldable pub joined : List ℕ → ℕ → ℕ → List ℕ
joined f a zero = []
joined f a (suc n) = joined f a n ++ payload_of f a n
