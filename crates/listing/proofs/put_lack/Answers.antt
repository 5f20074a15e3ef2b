-- `listing::put_lack` meets its contract: two numbers and the line's end are put one after another, or the line's end alone.
-- Assumes nothing.
use Rattle.std.proofs.Common.{sym, ◌∙◌}
use Rattle.listing.proofs.Text.{put_more, put_end, put_told}
use Rattle.listing.proofs.put_lack.Goals as goal

pub returns-then-not-is_of_record : goal.returns-then-not-is_of_record
returns-then-not-is_of_record c =
    put_told c.args.why (sym c.is_of_record.ensures ∙ c.if-not-is_of_record.true) (put_end c.put_text.ensures)

pub returns : goal.returns
returns c =
    put_told c.args.why (sym c.is_of_record.ensures ∙ c.if-not-is_of_record.false)
    (put_more _ _ c.put_number-at.ensures.put
    (put_more _ _ c.put_number-at-2.ensures.put (put_end c.put_text-2.ensures)))
