-- `hold::source_packet` meets its contract: the bytes of a read inside the payload are the stream's, and all of them are there.
-- Assumes nothing.
use Prim.Native.Nat.{◌+◌}
use mathlib.Core.Path.{sym, ◌∙◌}
use Rattle.packets.proofs.Packets.{count_full}
use Rattle.packets.proofs.Gathered.{gathered}
use Rattle.hold.proofs.Through.{bears_agree}
use borrow.Author.Rules.{rules}
use Rattle.std.proofs.Common.{rules, ◌+◌}
use Rattle.hold.proofs.source_packet.Goals as goal

pub returns : goal.returns
returns c =
    let a = c.args in (
      search rules,
      λ s bears.
          gathered s (a.base.0 + 506) a.swap a.carry a.q.0 a.source.now _ _
          (bears_agree a.source.now a.at a.base.0 a.q.0 a.swap (search rules) (search rules) s bears)
          c.packet_bytes.ensures
          (c.read_size-size.ensures.0 ∙ sym (count_full (a.base.0 + 506) a.swap a.q.0 (search rules)))
          c.carry_after.ensures
          (search rules),
    )
