-- `at_once::read` meets its contract: it refuses a number that is too high, then for want of room, or hands out the packet.
-- Assumes nothing.
use mathlib.Core.Path.{sym, ◌∙◌}
use native.Mathlib.Omega.{arith}
use Rattle.at_once.proofs.Outcome.{beyond, packet_no_room, packet_with_room}
use Rattle.at_once.proofs.read.Goals as goal

pub returns-then-total-number : goal.returns-then-total-number
returns-then-total-number c =
    beyond _ _ _ _ _ _ c.announced-total.ensures.0 c.if-total-number.true

pub returns-then-not-has_room : goal.returns-then-not-has_room
returns-then-not-has_room c =
    (packet_no_room _ _ _ _ _ (omega (arith, c.if-total-number.false, c.announced-total.ensures.0)) (sym c.has_room.ensures ∙ c.if-not-has_room.true))

pub returns : goal.returns
returns c =
    packet_with_room _ _ _ _ _ (omega (arith, c.if-total-number.false, c.announced-total.ensures.0)) (sym c.has_room.ensures ∙ c.if-not-has_room.false)
    c.hand_out.ensures
