-- `packets::read_packet` meets its contract: inside one block the file's bytes are the stream's, elsewhere the window's are.
-- Assumes nothing.
use mathlib.Core.Path.{◌∙◌}
use Rattle.blocks.specs.Places.{stream_at}
use Rattle.packets.proofs.Gathered.{in_block, in_window, full_count, gathered}
use borrow.Author.Rules.{rules}
use Rattle.std.proofs.Common.{rules}
use Rattle.blocks.specs.Places.{stream_at}
use Rattle.packets.proofs.read_packet.Goals as goal

pub returns-then-at-le-LAST_INSIDE : goal.returns-then-at-le-LAST_INSIDE
returns-then-at-le-LAST_INSIDE c =
    let a = c.args in
    gathered (stream_at a.file.now a.a.0 a.blocks) _ a.swap a.carry a.q.0 a.file.now c.in_file-here.result.0 _
    (in_block a.file.now a.a.0 a.blocks a.q.0 _ a.swap (search rules) (search rules) c.in_file-here.ensures)
    c.packet_bytes.ensures
    (c.read_size-then-at-le-LAST_INSIDE.ensures.0 ∙ full_count a.blocks a.q.0 a.swap (search rules) (search rules))
    c.carry_after.ensures
    (search rules)

pub returns : goal.returns
returns c =
    let a = c.args in
    gathered (stream_at a.file.now a.a.0 a.blocks) _ a.swap a.carry a.q.0 c.seam-window.result 0 _
    (in_window _ a.q.0 _ a.swap c.seam-window.ensures)
    c.packet_bytes-2.ensures
    c.file_count.ensures
    c.carry_after-2.ensures
    (search rules)
