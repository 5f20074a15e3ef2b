-- `writing::lay` meets its contract: the output holds the file of the packets so far.
-- Assumes nothing.
use mathlib.Core.Path.{refl}
use native.Mathlib.Omega.{arith}
use Rattle.writing.proofs.Turns.{none_yet, few_there}
use borrow.Author.Rules.{rules}
use Rattle.writing.proofs.lay.Goals as goal

pub loop-k-init : goal.loop-k-init
loop-k-init c =
    (search rules, none_yet _ _ _ _ _ _ c.blocks_for-blocks.ensures c.begin.ensures)

pub put_packet-requires-clause-few : goal.put_packet-requires-clause-few
put_packet-requires-clause-few c = let l = c.loop-k in
    let pre = c.requires in
    let less = c.loop-k-test.true in omega (arith, few_there _ _ _ _ l.k _ less l.invariant.1)

pub loop-k-preserved : goal.loop-k-preserved
loop-k-preserved c =
    let l = c.loop-k in
    (search rules, c.put_packet.ensures.one_more _ _ _ _ c.loop-k-test.true (λ j h. refl) l.invariant.1)
