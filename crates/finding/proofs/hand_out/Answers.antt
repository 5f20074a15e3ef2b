-- `finding::hand_out` meets its contract: one read is made where the entry and the number say.
-- Assumes nothing.
use Prim.Native.Nat.{ℕ, ◌+◌}
use mathlib.Core.Path.{refl, ap}
use Rattle.finding.proofs.Carried.{alone_written, worked_out}
use Rattle.finding.proofs.hand_out.Goals as goal

pub returns : goal.returns
returns c =
    alone_written _ _ _ _ _ _ _ _ (worked_out _ _ _ _ c.requires.has refl c.swap_flag-flag.ensures (ap (λ (m : ℕ). c.args.entry.place.0 + m) c.reach.ensures) c.parity.ensures c.carried_to-carry.ensures) c.write_run.ensures
