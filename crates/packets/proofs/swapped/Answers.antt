-- `packets::swapped` meets its contract: the blend's first places are copied.
-- Assumes nothing.
use mathlib.Core.Path.{◌≡◌}
use native.Mathlib.Omega.{arith}
use Rattle.tables.proofs.Lent.{leaves_as, leaves_table}
use Rattle.std.proofs.Common.{◌+◌, rules}
use Rattle.packets.proofs.swapped.Goals as goal

pub returns : goal.returns
returns c =
    leaves_table 42 (search rules)
    (leaves_as _ (λ k h. let front : 0 + k ≡ k = omega arith in rw front (c.blended-blend.ensures.packet k h)) c.copy.ensures)
