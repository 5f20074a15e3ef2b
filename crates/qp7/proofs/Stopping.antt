-- What a recording's refusal says, where its records cannot all be read: what is said of the record at which the walk stops.
-- Assumes nothing.
use mathlib.Core.Path.{◌≡◌, sym}
use mathlib.Core.List.{List}
use Prim.Native.Nat.{ℕ}
use native.Mathlib.Omega.{arith}
use Rattle.blocks.specs.Headers.{Bytes}
use Rattle.refusals.specs.declared.Numbers.{Numbers}
use Rattle.refusals.specs.Said.{answers, refusal}
use Rattle.refusals.proofs.Said.{not_both, by_onward}
use Rattle.whole.specs.declared.Recording.{Recording}
use Rattle.qp7.specs.Lacking.{Lacks}
use Rattle.qp7.specs.Walk.{closing, gathered_to, gathered_from}
use Rattle.qp7.proofs.Keeping.{walk_stops}
use Rattle.qp7.proofs.Lacking.{Stands, standing_kept, lacks_there}

-- so of any recording whose records cannot all be read
pub gathered_lacks : (f : List ℕ) (rec : Recording) → Bytes f → {why : Numbers} → gathered_from f rec ≡ refusal why
    → Lacks f rec why
unfolding gathered_from
gathered_lacks f rec bytes e =
    let a = rec.start.0 in
    let n = rec.blocks in
    by_onward (gathered_to f a n n) (λ g. answers (closing g)) e
    (λ stopped.
    let w = walk_stops {P = Stands n} f a n (standing_kept f a n bytes) n (omega arith) stopped in
    lacks_there f rec w.here.place w.stops w.holds.0 w.holds.1 w.refused)
    (λ g came r. absurd (not_both (sym r)))
