-- `tally::in_frames::after_arrival` meets its contract: at the read place nothing is closed, elsewhere the open segment is.
-- Assumes nothing.
use Rattle.tally.proofs.Segmentwise.{none_closed, one_closed}
use Rattle.tally.proofs.in_frames.after_arrival.Goals as goal

pub returns-then-at-gathering : goal.returns-then-at-gathering
returns-then-at-gathering c =
    λ g is out_is. none_closed c.args.end c.args.gathering g is c.requires.near.0.place_is c.args.out out_is _ c.if-at-gathering.true

pub returns : goal.returns
returns c =
    λ g is out_is.
    one_closed c.args.end c.args.gathering g is c.requires.near.0.place_is c.args.out out_is _ _ _ c.if-at-gathering.false
    (c.of_open.ensures.counted g is) c.together.ensures
