-- `magic::magic_of` meets its contract: by the length and the two names in their order.
-- Assumes nothing.
use borrow.Author.Tests.{lt-ltb, le-ltb}
use Rattle.tables.proofs.Tests.{told}
use Rattle.magic.specs.Magics.{magic_of}
use Rattle.magic.specs.Magics.{magic_of}
use Rattle.magic.proofs.magic_of.Goals as goal

pub returns-then-file-lt4 : goal.returns-then-file-lt4
unfolding magic_of
returns-then-file-lt4 c = simp (lt-ltb _ _ c.if-file-lt4.true)

pub returns-then-is_spelt : goal.returns-then-is_spelt
unfolding magic_of
returns-then-is_spelt c =
    let enough = le-ltb _ _ c.if-file-lt4.false in
    simp (enough, told c.is_spelt.ensures c.if-is_spelt.true, c.dss_by.ensures)

pub returns-then-is_spelt-2 : goal.returns-then-is_spelt-2
unfolding magic_of
returns-then-is_spelt-2 c =
    let enough = le-ltb _ _ c.if-file-lt4.false in
    simp (enough, told c.is_spelt.ensures c.if-is_spelt.false, told c.is_spelt-2.ensures c.if-is_spelt-2.true, c.ds2_by.ensures)

pub returns : goal.returns
unfolding magic_of
returns c =
    let enough = le-ltb _ _ c.if-file-lt4.false in
    simp (enough, told c.is_spelt.ensures c.if-is_spelt.false, told c.is_spelt-2.ensures c.if-is_spelt-2.false)
