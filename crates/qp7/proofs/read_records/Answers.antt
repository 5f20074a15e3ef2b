-- `qp7::read_records` meets its contract: what is left computes the rest.
-- Assumes nothing.
use Prim.Native.Nat.{◌+◌}
use mathlib.Core.Path.{◌≡◌, refl, sym, ap}
use native.Mathlib.Omega.{arith}
use Rattle.std.proofs.lemmas.Result.{err_from_is_err_and}
use Rattle.qp7.specs.declared.Walk.{Walk}
use Rattle.qp7.proofs.Records.{record_found}
use Rattle.qp7.proofs.Reading.{reading_goes_on, reading_stops, reading_ends}
use borrow.Author.Rules.{rules}
use Rattle.std.proofs.Common.{rules, ◌≡◌, ◌+◌}
use Rattle.qp7.proofs.read_records.Goals as goal

pub returns-in_err-size-clause-on : goal.returns-in_err-size-clause-on
returns-in_err-size-clause-on c =
    let p = err_from_is_err_and c.from_residual.result c.from_residual.ensures.1 in
    rw (p.1, p.2)
    (λ g e. reading_stops _ _ _ _ g _ _ _ c.loop-k.k (c.loop-k.invariant.3 g e) _ c.loop-k-test.true c.in_err-size.ensures)

pub overflow_add-at : goal.overflow_add-at
overflow_add-at c =
    let there = c.in_ok-size.ensures in
    omega (arith, (record_found _ _ _ _ (sym there)).1)

pub loop-k-preserved : goal.loop-k-preserved
loop-k-preserved c =
    let there = c.in_ok-size.ensures in (
      omega (arith, c.loop-k-test.true),
      (record_found _ _ _ _ (sym there)).1,
      search rules,
      (λ g e.
          reading_goes_on _ _ _ _ g _ _ _ c.loop-k.k (c.loop-k.invariant.3 g e) _ _ _ c.loop-k-test.true there
          (ap (λ (w : Walk). w.records + c.loop-k.k) e) c.note.ensures),
    )

pub returns-clause-on : goal.returns-clause-on
returns-clause-on c = let l = c.loop-k in
    let a = c.args in
    let all : l.k ≡ a.count = omega arith in (λ g e.
    reading_ends _ _ _ _ g _ _ _ l.k (l.invariant.3 g e) _ all refl (ap (λ (w : Walk). w.records + a.count) e)
    (ap (λ (w : Walk). w.segments) e) (ap (λ (w : Walk). w.first) e))
