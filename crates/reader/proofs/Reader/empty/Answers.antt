-- `reader::Reader::empty` meets its contract: all that it holds is 0, as it is where nothing is taken.
-- Assumes nothing.
use Rattle.reader.proofs.Opened.{fresh_is}
use Rattle.reader.proofs.Reader.empty.Goals as goal

pub returns : goal.returns
returns c = fresh_is c.args.kind c.args.phase
