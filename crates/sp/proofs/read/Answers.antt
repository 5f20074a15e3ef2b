-- `sp::read` meets its contract: it refuses for want of room, or writes all.
-- Assumes nothing.
use mathlib.Core.Path.{sym, ◌∙◌}
use mathlib.Core.Bool.{cond}
use Rattle.sp.specs.ReadLists.{dss_runs, ds2_runs}
use Rattle.sp.specs.Readings.{reading_of}
use Rattle.sp.proofs.ReadLists.{packets_announced}
use Rattle.sp.proofs.Outcome.{no_room, with_room}
use Rattle.std.proofs.Common.{cond}
use Rattle.sp.specs.ReadLists.{dss_runs, ds2_runs}
use Rattle.sp.specs.Readings.{reading_of}
use Rattle.sp.proofs.read.Goals as goal

pub returns-then-not-has_room : goal.returns-then-not-has_room
returns-then-not-has_room c =
    let a = c.args in
    (no_room (reading_of a.file.now a.recording (cond a.dss dss_runs ds2_runs)) _ _ _ (c.announced-needed.ensures.0 ∙ sym (packets_announced a.dss _ _ _)) (sym c.has_room.ensures ∙ c.if-not-has_room.true))

pub returns : goal.returns
returns c =
    let a = c.args in
    with_room (reading_of a.file.now a.recording (cond a.dss dss_runs ds2_runs)) _ _ _ (c.announced-needed.ensures.0 ∙ sym (packets_announced a.dss _ _ _)) _ _ (sym c.has_room.ensures ∙ c.if-not-has_room.false) c.hand_out.ensures
