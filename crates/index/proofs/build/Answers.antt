-- `index::build` meets its contract: it refuses for want of room, or lays the front and then the entries.
-- Assumes nothing.
use Rattle.entries.specs.Entries.{contents_in}
use Rattle.index.proofs.Building.{no_room, with_room}
use Rattle.index.proofs.build.Goals as goal

pub returns-then-out-bytes : goal.returns-then-out-bytes
returns-then-out-bytes c =
    let a = c.args in
    (no_room (contents_in a.file.now a.recording) _ _ c.add_up-entries.ensures.entries.0 c.if-out-bytes.true)

pub returns : goal.returns
returns c =
    let a = c.args in
    with_room (contents_in a.file.now a.recording) _ _ c.add_up-entries.ensures.entries.0 _ _ c.if-out-bytes.false c.put_front.ensures c.put_entries.ensures
