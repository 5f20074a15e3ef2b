-- `qp7::read_records` meets its contract: what is left computes the rest.
-- Assumes nothing.
use Prim.Native.Nat.{◌*◌, ◌≤◌}
use mathlib.Core.Path.{◌≡◌}
use lib.ListN.{length}
use Rattle.blocks.specs.Places.{stream_at}
use Rattle.qp7.specs.Inner.{numbers_of}
use Rattle.qp7.specs.Walk.{Gathered}
use Rattle.qp7.proofs.Reading.{Came}
use Rattle.qp7.proofs.read_records.Given as goal

abbrev pub invariant-loop-k : goal.invariant-loop-k
invariant-loop-k l =
    (l.k ≤ l.count) × (l.at.0 ≤ 506 * l.recording.blocks) × (length l.records ≡ length l.initial.records)
    × ((g : Gathered) → l.walk ≡ numbers_of g
    → Came (stream_at l.file l.recording.start.0 l.recording.blocks) (506 * l.recording.blocks) l.count l.most g l.initial.records l.records l.at.0 l.k)
