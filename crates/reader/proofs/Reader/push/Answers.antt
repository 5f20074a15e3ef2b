-- `reader::Reader::push` meets its contract: the survey says what is said at the state, and an accepted piece leaves the next one.
-- Assumes nothing.
use mathlib.Core.Path.{refl}
use native.Mathlib.Omega.{arith}
use Rattle.blocks.specs.Headers.{Bytes}
use Rattle.refusals.proofs.Results.{ok_says, err_says}
use Rattle.reader.proofs.Piecing.{Decided, knows, enables, keeps, takes}
use Rattle.reader.proofs.Reader.push.Goals as goal
use Rattle.reader.proofs.Reader.push.Goals.{After-decide-answer}

-- what was decided, of a piece whose bytes are bytes
decided : (c : After-decide-answer)
    → Decided c.args.self.now c.start_of-a.result.0 c.args.piece.now c.args.out.now c.args.counts.now c.room_for-room.result c.decide-answer.result
decided c = record { room_is = c.room_for-room.ensures; says = rw c.standing-was.ensures at c.decide-answer.ensures }

pub decide-answer-requires-clause-known : goal.decide-answer-requires-clause-known
decide-answer-requires-clause-known c =
    let v = c.requires in
    let bytes : Bytes c.args.piece.now = λ i. omega (arith, c.type_inv.piece i) in
    rw c.standing-was.ensures (knows v.state v.is c.start_of-a.ensures.0 _ v.sound bytes)

pub absorb-now-requires-clause-able : goal.absorb-now-requires-clause-able
absorb-now-requires-clause-able c = λ _.
    let v = c.requires in
    let bytes : Bytes c.args.piece.now = λ i. omega (arith, c.type_inv.piece i) in
    rw c.standing-was.ensures
    (enables v.state v.is c.start_of-a.ensures.0 _ v.sound bytes (decided (goal.at.absorb-now-requires-clause-able c).After-decide-answer)
    (ok_says _ c.if-is_ok.ensures.value).1)

pub returns-then-is_ok : goal.returns-then-is_ok
returns-then-is_ok c =
    let bytes : Bytes c.args.piece.now = λ i. omega (arith, c.type_inv.piece i) in
    λ s is sound.
    takes s is c.start_of-a.ensures.0 _ sound bytes (decided (goal.at.returns-then-is_ok c).After-decide-answer)
    (ok_says _ c.if-is_ok.ensures.value).1 (rw c.standing-was.ensures at c.absorb-now.ensures.taken refl)

pub returns-else-is_ok : goal.returns-else-is_ok
returns-else-is_ok c =
    let bytes : Bytes c.args.piece.now = λ i. omega (arith, c.type_inv.piece i) in
    λ s is sound.
    keeps s is c.start_of-a.ensures.0 _ sound bytes (decided (goal.at.returns-else-is_ok c).After-decide-answer)
    (err_says _ c.if-is_ok.ensures.value).1
