-- `tally::in_frames::of_open` meets its contract: the open segment announces frames for all its bytes.
-- Assumes nothing.
use Rattle.tally.proofs.Segmentwise.{open_counted}
use Rattle.tally.proofs.in_frames.of_open.Goals as goal

pub returns-clause-counted : goal.returns-clause-counted
returns-clause-counted c = (λ g is.
    open_counted c.args.end c.args.gathering g is c.requires.0.place_is _ _ c.min.ensures c.min-short.ensures)
