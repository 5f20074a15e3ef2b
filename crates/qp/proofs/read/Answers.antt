-- `qp::read` meets its contract: the segments are counted, and all are written or none.
-- Assumes nothing.
use mathlib.Core.Path.{refl}
use Rattle.qp.proofs.Outcome.{no_room, with_room}
use Rattle.qp.proofs.read.Goals as goal

pub returns-then-room-needed : goal.returns-then-room-needed
returns-then-room-needed c =
    let a = c.args in
    let e = c.write_segments-needed.ensures in
    (no_room a.file.now a.recording _ _ _ e.many _ _ refl c.at_once-written.ensures.0 e.few e.written c.if-room-needed.true)

pub returns : goal.returns
returns c =
    let a = c.args in
    let e = c.write_segments-needed.ensures in
    with_room a.file.now a.recording _ _ _ e.many _ _ refl c.at_once-written.ensures.0 e.few e.written _ _ c.announced.ensures.0 c.if-room-needed.false c.write_needed.ensures.none c.write_needed.ensures.all
