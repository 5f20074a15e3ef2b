-- `reader::Reader::finish` meets its contract: what is said is decided by the choice, as many of the packets owed come out of the hold as that is,
-- and nothing else of the reader changes. Assumes nothing.
use mathlib.Core.Path.{◌≡◌, refl, ap, ◌∙◌}
use native.Mathlib.Omega.{arith}
use Rattle.blocks.specs.Places.{whole_blocks}
use Rattle.std.specs.Prelude.{Ok}
use Rattle.refusals.specs.Said.{result_says}
use Rattle.reader.specs.State.{start_of}
use Rattle.reader.proofs.Ends.{reached_among}
use Rattle.reader.proofs.Draining.{Wants, owing, end_most, end_steps, end_keeps}
use Rattle.reader.proofs.Reader.finish.Goals as goal
use Rattle.reader.proofs.Reader.finish.Goals.{After-decide-answer, After-whole_blocks-blocks}

wants : (c : After-decide-answer) → Wants c.args.self.now c.args.choice c.decide-answer.result c.args.out.now c.args.counts.now
wants c = record { answer_is = c.decide-answer.ensures ∙ cc (c.start_of-a.ensures.0, c.room_for-room.ensures) }

answered : (c : After-whole_blocks-blocks) → Wants c.args.self.now c.args.choice (Ok c.in-Ok.some) c.args.out.now c.args.counts.now
answered c = record { answer_is = c.in-Ok.ensures ∙ cc (c.start_of-a.ensures.0, c.room_for-room.ensures) }

blocks : (c : After-whole_blocks-blocks) → c.whole_blocks-blocks.result ≡ whole_blocks c.args.self.now.taken (start_of c.args.self.now.kind)
blocks c = c.whole_blocks-blocks.ensures ∙ ap (whole_blocks _) c.start_of-a.ensures.0

pub write_owed-self-requires : goal.write_owed-self-requires
write_owed-self-requires c =
    let at = goal.at.write_owed-self-requires c in
    rw c.standing-was.ensures (owing c.requires (answered at.After-whole_blocks-blocks) refl (blocks at.After-whole_blocks-blocks))

pub overflow_add-self : goal.overflow_add-self
overflow_add-self c =
    let at = goal.at.overflow_add-self c in
    omega (
      arith,
      end_most c.requires (answered at.After-whole_blocks-blocks) refl (blocks at.After-whole_blocks-blocks),
      reached_among c.requires,
    )

pub returns-in-Ok : goal.returns-in-Ok
returns-in-Ok c =
    let at = goal.at.returns-in-Ok c in
    λ s is sound.
    end_steps is sound (answered at.After-whole_blocks-blocks) refl (blocks at.After-whole_blocks-blocks)
    (rw c.standing-was.ensures at c.write_owed-self.ensures) c.phase_after-self.ensures

pub returns-in_default : goal.returns-in_default
returns-in_default c = λ s is sound. end_keeps is sound (wants (goal.at.returns-in_default c).After-decide-answer) (ap result_says c.in_default.is)
