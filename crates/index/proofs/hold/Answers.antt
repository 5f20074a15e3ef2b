-- `index::hold` meets its contract: the tests in their order, and what each refuses by.
-- Assumes nothing.
use mathlib.Core.Path.{sym, ◌∙◌}
use native.Mathlib.Omega.{arith}
use Rattle.entries.specs.Entries.{contents_in}
use Rattle.index.proofs.Framed.{framed_says}
use Rattle.index.proofs.Reading.{by_totals, entry_wrong, too_long, accepted}
use Rattle.index.proofs.hold.Goals as goal

pub bounds-index-4 : goal.bounds-index-4
bounds-index-4 c = omega (arith, (framed_says _ (sym c.is_framed.ensures ∙ c.if-not-is_framed.false)).0)

pub returns-then-wrong-totals : goal.returns-then-wrong-totals
returns-then-wrong-totals c =
    let a = c.args in
    (entry_wrong a.index.now (contents_in a.file.now a.recording) (sym c.is_framed.ensures ∙ c.if-not-is_framed.false) c.if-version-ne-VERSION.false _ c.first_wrong-wrong.ensures
    (omega (arith, c.if-wrong-totals.true, c.add_up-totals.ensures.entries.0)))

pub returns-then-index-totals : goal.returns-then-index-totals
returns-then-index-totals c =
    let a = c.args in
    (too_long a.index.now (contents_in a.file.now a.recording) (sym c.is_framed.ensures ∙ c.if-not-is_framed.false) c.if-version-ne-VERSION.false _ c.first_wrong-wrong.ensures
    (λ e. c.if-index-totals.true (omega (arith, e, c.add_up-totals.ensures.entries.0))))

pub returns : goal.returns
returns c =
    let a = c.args in
    let t = c.add_up-totals in
    rw (by_totals t.result (contents_in a.file.now a.recording) t.ensures.entries.0 t.ensures.packets)
    (accepted a.index.now (contents_in a.file.now a.recording) (sym c.is_framed.ensures ∙ c.if-not-is_framed.false) c.if-version-ne-VERSION.false _ c.first_wrong-wrong.ensures
    (omega (arith, c.if-wrong-totals.false, t.ensures.entries.0)) (omega (arith, c.if-index-totals.false, t.ensures.entries.0)))
