-- `entries::first_wrong` meets its contract: before each block the entries of those before it stand in the index.
-- Assumes nothing.
use mathlib.Core.Path.{sym, ◌∙◌}
use native.Mathlib.Omega.{arith}
use Rattle.whole.proofs.Admissions.{few_blocks}
use Rattle.entries.proofs.Entries.{entry_fits}
use Rattle.entries.proofs.Blockwise.{stands_none, stands_silent, stands_next, stands_no_more, stands_all}
use Rattle.entries.proofs.first_wrong.Goals as goal

pub loop-block-init : goal.loop-block-init
loop-block-init c = stands_none _ _ _ _ _

pub loop-block-preserved-then-count-eq0 : goal.loop-block-preserved-then-count-eq0
loop-block-preserved-then-count-eq0 c =
    let l = c.loop-block in
    stands_silent _ _ _ _ _ l.block l.number l.first _ c.loop-block-test.true c.count_byte-count.ensures l.invariant c.if-count-eq0.true

pub stands-requires : goal.stands-requires
stands-requires c =
    let l = c.loop-block in (
      entry_fits _ _ _ _ (λ j. omega (arith, c.shared_slice_known-1.given j)) (few_blocks _ _ c.requires.0)
          (record { block = l.block; there = c.loop-block-test.true; announces = omega (arith, c.if-count-eq0.false, c.count_byte-count.ensures.0); is = c.entry_of-entry.ensures }),
      omega (arith, l.invariant.before.number_few, c.loop-block-test.true, few_blocks _ _ c.requires.0, c.requires.1),
    )

pub returns-then-not-stands : goal.returns-then-not-stands
returns-then-not-stands c =
    let l = c.loop-block in
    stands_no_more _ _ _ _ _ l.block l.number l.first _ c.loop-block-test.true c.count_byte-count.ensures l.invariant c.if-count-eq0.false _ c.entry_of-entry.ensures (sym c.stands.ensures ∙ c.if-not-stands.true)

pub loop-block-preserved : goal.loop-block-preserved
loop-block-preserved c =
    let l = c.loop-block in
    stands_next _ _ _ _ _ l.block l.number l.first _ c.loop-block-test.true c.count_byte-count.ensures l.invariant c.if-count-eq0.false _ c.entry_of-entry.ensures (sym c.stands.ensures ∙ c.if-not-stands.false)

pub returns : goal.returns
returns c =
    let l = c.loop-block in
    stands_all _ _ _ _ _ l.block l.number l.first c.loop-block-test.false l.invariant
