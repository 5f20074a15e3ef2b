-- `pieces::survey::look_over` meets its contract: the blocks so far fit, and the frames that they announce are added up.
-- Assumes nothing.
use Prim.Native.Nat.{ℕ, ◌*◌, ◌≤◌}
use mathlib.Core.List.{List}
use Rattle.pieces.proofs.Surveying.{Passed, Begun}
use Rattle.pieces.proofs.survey.look_over.Given as goal

abbrev pub invariant-loop-b : goal.invariant-loop-b
invariant-loop-b l =
    (l.announced ≤ 255 * l.b)
    × ((f : List ℕ) → Begun f l.partial l.piece l.taken l.tail l.a.0 l.end l.first l.begin l.initial.announced → Passed f l.a.0 l.b l.announced)
