-- `listing::list_line` meets its contract: too long a file is refused, and any other has the line of what its tally says.
-- Assumes nothing.
use Rattle.std.proofs.Common.{sym, ◌∙◌}
use Rattle.listing.proofs.Text.{too_long, short_enough, listed_as}
use Rattle.io.specs.Counts.{IsPrefixLen}
use Rattle.listing.specs.Line.{list_line, Lists}
use Rattle.listing.proofs.list_line.Goals as goal

-- of too long a file, of a refusal and of figures: the line, and that it is inside
long_said : (c : goal.After-put_refusal)
    → Lists (list_line c.args.file.now) c.args.line.now c.put_refusal.new.line c.put_refusal.result × IsPrefixLen c.put_refusal.result c.put_refusal.new.line
long_said c =
    let f = c.args.file.now in
    listed_as f (too_long f c.if-file-gt-MOST.true) c.told-line c.put_refusal.ensures

refused_said : (c : goal.After-put_refusal-in-Err)
    → Lists (list_line c.args.file.now) c.args.line.now c.put_refusal-in-Err.new.line c.put_refusal-in-Err.result
    × IsPrefixLen c.put_refusal-in-Err.result c.put_refusal-in-Err.new.line
refused_said c =
    let f = c.args.file.now in
    listed_as f (short_enough f c.if-file-gt-MOST.false ∙ sym c.in-Err.ensures) c.told-line
    c.put_refusal-in-Err.ensures

counted_said : (c : goal.After-put_figures)
    → Lists (list_line c.args.file.now) c.args.line.now c.put_figures.new.line c.put_figures.result × IsPrefixLen c.put_figures.result c.put_figures.new.line
counted_said c =
    let f = c.args.file.now in
    listed_as f (short_enough f c.if-file-gt-MOST.false ∙ sym c.in-Ok.ensures) c.told-line c.put_figures.ensures

pub returns-then-file-gt-MOST-clause-line : goal.returns-then-file-gt-MOST-clause-line
returns-then-file-gt-MOST-clause-line c = (long_said c).0

pub returns-then-file-gt-MOST-clause-inside : goal.returns-then-file-gt-MOST-clause-inside
returns-then-file-gt-MOST-clause-inside c = (long_said c).1

pub returns-in-Err-clause-line : goal.returns-in-Err-clause-line
returns-in-Err-clause-line c = (refused_said c).0

pub returns-in-Err-clause-inside : goal.returns-in-Err-clause-inside
returns-in-Err-clause-inside c = (refused_said c).1

pub returns-in-Ok-clause-line : goal.returns-in-Ok-clause-line
returns-in-Ok-clause-line c = (counted_said c).0

pub returns-in-Ok-clause-inside : goal.returns-in-Ok-clause-inside
returns-in-Ok-clause-inside c = (counted_said c).1
