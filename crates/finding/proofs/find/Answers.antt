-- `finding::find` meets its contract: an index that is the recording's can be searched.
-- Assumes nothing.
use native.Mathlib.Omega.{arith}
use Rattle.finding.proofs.Searching.{may_search}
use Rattle.finding.proofs.find.Goals as goal

pub look_up-requires : goal.look_up-requires
look_up-requires c = may_search _ _ _ c.args.packet _ c.in_ok-totals.ensures c.requires (λ i. omega (arith, c.type_inv.file i))
