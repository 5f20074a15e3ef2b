-- `listing::put_refusal` meets its contract: the word, the two numbers and the rest of the line are put one after another.
-- Assumes nothing.
use Rattle.listing.proofs.Text.{put_join, put_more, put_lists}
use Rattle.listing.proofs.put_refusal.Goals as goal

pub returns : goal.returns
returns c =
    rw (← c.from-why.ensures)
    (put_lists
    (put_join c.put_text-at.ensures
    (put_more _ _ c.put_number-at.ensures.put
    (put_more _ _ c.put_number-at-2.ensures.put c.put_lack.ensures))))
