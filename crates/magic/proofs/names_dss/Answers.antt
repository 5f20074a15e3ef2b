-- `magic::names_dss` meets its contract: where there is no byte 3 it reads as 0, and so is not an `s`.
-- Assumes nothing.
use native.Mathlib.Omega.{arith}
use mathlib.Core.Bool.{and-false}
use borrow.Author.Tests.{lt-leb}
use lib.ListN.{get_or-eq_default}
use Rattle.magic.specs.Magics.{spells, names_dss}
use Rattle.magic.proofs.names_dss.Goals as goal

pub returns-then-file-ge4 : goal.returns-then-file-ge4
unfolding names_dss
returns-then-file-ge4 c = c.is_spelt.ensures

pub returns-else-file-ge4 : goal.returns-else-file-ge4
unfolding names_dss spells
returns-else-file-ge4 c =
    simp (lt-leb _ _ c.if-file-ge4.false, get_or-eq_default c.args.file.now 0 {n = 3} (omega (arith, c.if-file-ge4.false)), and-false)
