-- `pieces::survey::dss_ready` meets its contract: the blocks so far leave, and their packets are added up.
-- Assumes nothing.
use Prim.Native.Nat.{ℕ, ◌*◌, ◌≤◌}
use mathlib.Core.List.{List}
use Rattle.pieces.proofs.Leaving.{Queue, Leaving}
use Rattle.pieces.proofs.survey.dss_ready.Given as goal

abbrev pub invariant-loop-block : goal.invariant-loop-block
invariant-loop-block l =
    (l.block ≤ l.end)
    × (l.ready ≤ 255 * l.block)
    × ((f : List ℕ) → Queue f l.partial l.waiting l.piece l.taken l.a.0 l.end l.j l.initial.ready → Leaving f l.a.0 l.end l.block l.ready)
