-- `sp::write_ds2` meets its contract: nothing announced, nothing written; otherwise one run.
-- Assumes nothing.
use mathlib.Core.Path.{sym, ◌∙◌}
use native.Mathlib.Omega.{arith}
use Rattle.sp.proofs.ReadLists.{ds2_packets, some_block}
use Rattle.sp.proofs.Written.{written_nothing, written_one}
use Rattle.sp.proofs.write_ds2.Goals as goal

pub returns-then-needed-eq0 : goal.returns-then-needed-eq0
returns-then-needed-eq0 c =
    written_nothing _ _ _ (ds2_packets _ _ _ ∙ sym c.requires.1 ∙ c.if-needed-eq0.true)

pub swap_flag-requires : goal.swap_flag-requires
swap_flag-requires c =
    let some = some_block _ _ _ (λ none. c.if-needed-eq0.false (c.requires.1 ∙ none)) in
    omega (arith, some, c.requires.0.readable.whole)

pub returns : goal.returns
returns c =
    written_one _ _ _ _ _ _ _ _ _ _ (cc (c.swap_flag.ensures, c.requires.1)) c.write_run.ensures
