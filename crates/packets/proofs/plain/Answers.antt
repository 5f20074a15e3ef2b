-- `packets::plain` meets its contract: the bytes are copied, and byte 40 is then 0.
-- Assumes nothing.
use Rattle.tables.proofs.Lent.{leaves_again, leaves_as, leaves_table}
use Rattle.packets.proofs.Gathered.{plain_is}
use Rattle.std.proofs.Common.{rules}
use Rattle.packets.proofs.plain.Goals as goal

pub returns : goal.returns
returns c =
    leaves_table 42 (search rules)
    (leaves_as _ (λ k h. plain_is 0 _ k) (leaves_again 40 0 (search rules) (search rules) c.copy.ensures))
