-- `hold::held_packet` meets its contract: the hold's bytes are the stream's, and so are the window's past its end.
-- Assumes nothing.
use Rattle.packets.proofs.Gathered.{gathered}
use Rattle.hold.proofs.Windows.{hold_agrees, window_agrees}
use borrow.Author.Rules.{rules}
use Rattle.std.proofs.Common.{rules}
use Rattle.hold.proofs.held_packet.Goals as goal

pub returns-then-at-le-LAST_INSIDE : goal.returns-then-at-le-LAST_INSIDE
returns-then-at-le-LAST_INSIDE c =
    let a = c.args in (
      search rules,
      λ s holds.
          gathered s a.long a.swap a.carry a.q.0 a.hold.now _ _ (hold_agrees holds a.q.0 (search rules) a.swap)
          c.packet_bytes.ensures
          c.file_count-count.ensures
          c.carry_after.ensures
          (search rules),
    )

pub returns : goal.returns
returns c =
    let a = c.args in (
      search rules,
      λ s holds.
          gathered s a.long a.swap a.carry a.q.0 c.window-window.result 0 _
          (window_agrees holds a.q.0 (search rules) a.swap c.window-window.result c.window-window.ensures)
          c.packet_bytes-2.ensures
          c.file_count-count.ensures
          c.carry_after-2.ensures
          (search rules),
    )
