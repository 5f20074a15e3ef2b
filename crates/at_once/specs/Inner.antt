-- What only the contract of an inner function speaks of: what is asked before a packet is handed out.
-- Assumes nothing.
use Rattle.std.specs.Prelude.{ℕ, ◌^◌, ◌≤◌, ◌<◌, List, length}
use Rattle.whole.specs.declared.Recording.{Recording}
use Rattle.whole.specs.Admissions.{announced_by}
use Rattle.sp.specs.Inner.{Readable}

-- the recording can be read, it has that packet, and there is room for it. The bound is far above what a file within the limit has
pub record Ready (f : List ℕ) (rec : Recording) (k : ℕ) (out counts : List ℕ) : Type 0 where
  pub readable : Readable f rec
  pub there : k < announced_by f rec
  pub near : k ≤ 2 ^ 40
  pub out_room : 42 ≤ length out
  pub counts_room : 1 ≤ length counts
