-- `listing::put_figures` meets its contract: the name, the six numbers and the line's end are put one after another.
-- Assumes nothing.
use Rattle.listing.proofs.Text.{put_join, put_more, put_end, put_lists}
use Rattle.listing.proofs.put_figures.Goals as goal

pub returns : goal.returns
returns c =
    put_lists
    (put_join c.put_name-at.ensures.put
    (put_more _ _ c.put_number-at.ensures.put
    (put_more _ _ c.put_number-at-2.ensures.put
    (put_more _ _ c.put_number-at-3.ensures.put
    (put_more _ _ c.put_number-at-4.ensures.put
    (put_more _ _ c.put_number-at-5.ensures.put
    (put_more _ _ c.put_number-at-6.ensures.put (put_end c.put_text.ensures))))))))
