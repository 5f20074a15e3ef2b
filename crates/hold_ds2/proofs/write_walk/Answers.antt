-- `hold_ds2::write_walk` meets its contract: the part that is handed out goes on where the reading stands.
-- Assumes nothing.
use mathlib.Core.Path.{ap}
use native.Mathlib.Omega.{arith}
use Rattle.sp.specs.declared.Run.{Run}
use Rattle.packets.proofs.Reaches.{reach_most}
use Rattle.hold_ds2.proofs.Walks.{walk_near, walk_begun, walk_written}
use borrow.Author.Rules.{rules}
use Rattle.hold_ds2.proofs.write_walk.Goals as goal

pub part_of-part-requires : goal.part_of-part-requires
part_of-part-requires c =
    let g = c.requires in
    (omega (arith, walk_near g), search rules)

pub write_held-requires-clause-held : goal.write_held-requires-clause-held
write_held-requires-clause-held c = let g = c.requires in
    let start = ap (λ (u : Run). u.start.0) c.part_of-part.ensures in
    let count = ap (λ (u : Run). u.count) c.part_of-part.ensures in omega (arith, start, walk_begun g c.flag.result c.flag.ensures)

pub write_held-requires-clause-near : goal.write_held-requires-clause-near
write_held-requires-clause-near c = let g = c.requires in
    let start = ap (λ (u : Run). u.start.0) c.part_of-part.ensures in
    let count = ap (λ (u : Run). u.count) c.part_of-part.ensures in (omega (arith, start, walk_near g, reach_most c.flag.result c.args.k), omega (arith, count, walk_near g))

pub returns : goal.returns
returns c g =
    walk_written g c.flag.result c.flag.ensures c.part_of-part.result _ _ _ _ _ c.part_of-part.ensures c.write_held.ensures
