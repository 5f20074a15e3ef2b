-- `finding::deliver` meets its contract: it refuses for want of room, or hands out the packet.
-- Assumes nothing.
use mathlib.Core.Path.{sym, ◌∙◌}
use native.Mathlib.Omega.{arith}
use Rattle.sp.proofs.Outcome.{no_room, with_room}
use Rattle.finding.specs.Packet.{stands_by}
use Rattle.finding.proofs.Carried.{alone_total, is_ready}
use Rattle.finding.proofs.deliver.Goals as goal

pub returns-then-not-has_room : goal.returns-then-not-has_room
returns-then-not-has_room c =
    let a = c.args in
    (no_room _ _ _ 1 (sym (alone_total a.file.now a.recording (stands_by a.file.now a.recording a.entry a.packet))) (sym c.has_room.ensures ∙ c.if-not-has_room.true))

pub hand_out-requires : goal.hand_out-requires
hand_out-requires c =
    is_ready _ _ _ _ _ _ c.requires.0 c.requires.1 (λ i. omega (arith, c.shared_slice_known-1.given i)) (sym c.has_room.ensures ∙ c.if-not-has_room.false)

pub returns : goal.returns
returns c =
    let a = c.args in
    with_room _ _ _ 1 (sym (alone_total a.file.now a.recording (stands_by a.file.now a.recording a.entry a.packet))) _ _ (sym c.has_room.ensures ∙ c.if-not-has_room.false) c.hand_out.ensures
