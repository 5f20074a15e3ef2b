-- What is said of a piece, by what was found in its blocks.
-- Assumes nothing.
use Prim.Native.Nat.{ℕ, ◌-◌}
use mathlib.Core.Path.{◌≡◌, ◌∙◌}
use mathlib.Core.List.{List}
use mathlib.Core.Bool.{Bool, true, false}
use lib.ListN.{length}
use lib.Dec.{leb}
use Rattle.blocks.specs.Places.{whole_blocks}
use Rattle.refusals.specs.declared.Numbers.{Numbers}
use Rattle.refusals.specs.Numbers.{numbered}
use Rattle.refusals.specs.Said.{answers, refusal, demand}
use Rattle.hold.specs.declared.Standing.{Standing}
use Rattle.hold.specs.Ready.{ready}
use Rattle.hold.specs.Held.{fits}
use Rattle.pieces.specs.Inner.{Known, gained, judged}
use Rattle.pieces.proofs.Sources.{numbers_of}

-- with a piece so many packets are ready
module _ {dss : Bool} {f partial waiting piece : List ℕ} {a taken : ℕ} {was : Standing}
    (known : Known dss f a taken was partial waiting piece) {now : ℕ} (now_is : now ≡ ready dss f a (whole_blocks (length f) a)) where
  gained_is : now - was.ready ≡ gained dss f a taken
  gained_is = cc (now_is, (numbers_of known).ready_is)

-- so where every block fits it is said whether there is room for them
pub judged_fit : {dss : Bool} {f partial waiting piece : List ℕ} {a taken : ℕ} {was : Standing} → Known dss f a taken was partial waiting piece
    → (now needed room : ℕ) → fits dss f a (whole_blocks (length f) a) ≡ true → now ≡ ready dss f a (whole_blocks (length f) a)
    → needed ≡ now - was.ready → demand (leb needed room) 8 needed (answers needed) ≡ judged dss f a taken room
unfolding judged
judged_fit known now needed room all now_is is = let gain = is ∙ gained_is known now_is in rw (all, ← gain)

-- and where one does not, it is refused
pub judged_full : (dss : Bool) (f : List ℕ) (a taken room : ℕ) {why : Numbers} → fits dss f a (whole_blocks (length f) a) ≡ false
    → why ≡ numbered 7 12288 → refusal why ≡ judged dss f a taken room
unfolding judged
judged_full dss f a taken room full is = rw (full, is)
