-- `listing::is_of_record` meets its contract: by the two numbers in the list.
-- Assumes nothing.
use Rattle.std.proofs.Common.{sym}
use borrow.Author.Tests.{eq-eqb, ne_eqb}
use Rattle.tables.proofs.Cases.{by_equal}
use Rattle.refusals.specs.Said.{is_among}
use Rattle.listing.proofs.is_of_record.Goals as goal

pub returns-then-number-eq4 : goal.returns-then-number-eq4
unfolding is_among
returns-then-number-eq4 c = simp (eq-eqb _ 4 c.if-number-eq4.true, eq-eqb 4 _ (sym c.if-number-eq4.true))

pub returns-else-number-eq4 : goal.returns-else-number-eq4
unfolding is_among
returns-else-number-eq4 c =
    let number = c.args.number in
    let four = ne_eqb 4 number (λ e. c.if-number-eq4.false (sym e)) in
    by_equal number 5 (λ five. simp (four, eq-eqb 5 number (sym five), eq-eqb number 5 five))
    (λ other. simp (four, ne_eqb 5 number (λ e. other (sym e)), ne_eqb number 5 other))
