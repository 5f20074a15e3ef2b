-- `hold_dss::pass_dss` meets its contract: with the block none waits and nothing is held, as before it.
-- Assumes nothing.
use native.Mathlib.Omega.{arith}
use Rattle.hold_dss.proofs.Passing.{pass_asked, pass_sums, passed}
use Rattle.hold_dss.proofs.pass_dss.Goals as goal

pub write_through-carry-requires-clause-inside : goal.write_through-carry-requires-clause-inside
write_through-carry-requires-clause-inside c = let p = c.requires in
    let g = p.next.2 in
    let asked = pass_asked g _ p.passes.0 p.passes.1 (p.passes.2 _ _ g) in
    (omega (arith, g.in_source), asked.0, omega (arith, p.passes.0, p.passes.1))

pub write_through-carry-requires-clause-room : goal.write_through-carry-requires-clause-room
write_through-carry-requires-clause-room c = let p = c.requires in
    let g = p.next.2 in
    let asked = pass_asked g _ p.passes.0 p.passes.1 (p.passes.2 _ _ g) in
    (asked.3, asked.4)

pub overflow_add-result : goal.overflow_add-result
overflow_add-result c =
    let p = c.requires in
    omega (arith, (pass_sums p.next.2 _ p.passes.0 p.passes.1 (p.passes.2 _ _ p.next.2)).0)

pub overflow_add-result-2 : goal.overflow_add-result-2
overflow_add-result-2 c =
    let p = c.requires in
    omega (arith, (pass_sums p.next.2 _ p.passes.0 p.passes.1 (p.passes.2 _ _ p.next.2)).1)

pub returns : goal.returns
returns c h w g =
    let p = c.requires in
    passed g _ p.passes.0 p.passes.1 (p.passes.2 h w g) _ _ _ _ _ c.write_through-carry.ensures _ c.first_byte.ensures
