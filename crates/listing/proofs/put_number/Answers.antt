-- `listing::put_number` meets its contract: a space is stored, and the digits that io gives are copied after it.
-- Assumes nothing.
use Rattle.std.proofs.Common.{arith}
use Rattle.listing.proofs.Text.{put_copied, put_spaced}
use Rattle.listing.proofs.put_number.Goals as goal

pub returns-clause-put : goal.returns-clause-put
returns-clause-put c =
    let k = c.decimal-k.result in
    let digits = c.decimal-k.ensures in
    put_spaced c.args.n k (omega arith) c.ranges.n.fits digits.len digits.digits
    (put_copied k digits.in_bounds.1 c.copy.ensures)
