-- `finding::read` meets its contract: the entry that was found has the packet.
-- Assumes nothing.
use mathlib.Core.Path.{sym}
use Rattle.sp.proofs.Outcome.{may_read}
use Rattle.finding.proofs.Searching.{found_has}
use Rattle.finding.proofs.read.Goals as goal

pub deliver-requires : goal.deliver-requires
deliver-requires c = (may_read _ _ c.requires, found_has _ _ c.args.index.now _ _ (sym c.in_ok-entry.ensures))
