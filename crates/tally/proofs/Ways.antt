-- The ways of a tally: a refusal is passed on, and a recording is counted by its kind.
-- Assumes nothing.
use Prim.Native.Nat.{ℕ}
use mathlib.Core.Path.{◌≡◌, ap, ◌∙◌}
use mathlib.Core.List.{List}
use mathlib.Core.Bool.{Bool, not}
use Rattle.refusals.specs.declared.Numbers.{Numbers}
use Rattle.refusals.specs.Said.{Said, answers, refusal}
use Rattle.magic.specs.Magics.{names_dss}
use Rattle.whole.specs.declared.Recording.{Recording}
use Rattle.whole.specs.Admissions.{admission, announced_by}
use Rattle.tally.specs.declared.HandedOut.{HandedOut}
use Rattle.tally.specs.declared.FileKind.{FileKind}
use Rattle.tally.specs.declared.Figures.{Figures}
use Rattle.tally.specs.Tallies.{handed_by, counted_as, kind_in, tallied}

module _ (f : List ℕ) (rec : Recording) where
  -- what is handed out by the kind that was found
  pub handed_as : {said : Said HandedOut} {kind other : FileKind} → kind ≡ other → said ≡ handed_by other f rec → said ≡ handed_by kind f rec
  handed_as p e = rw p e

  -- what cannot be told, and what is counted
  pub not_told : (kind : FileKind) {why : Numbers} → refusal why ≡ handed_by kind f rec → refusal why ≡ counted_as kind f rec
  not_told kind e = rw (← e)

  pub counted : (kind : FileKind) {announced : ℕ} {out : HandedOut} → announced ≡ announced_by f rec → answers out ≡ handed_by kind f rec
      → answers (record { kind = kind; start = rec.start; blocks = rec.blocks; announced = announced; out = out }) ≡ counted_as kind f rec
  counted kind a e = rw (← e, a)

-- what is not admitted, and what is
module _ (f : List ℕ) (dss : Bool) (is : dss ≡ names_dss f) where
  pub not_admitted : {why : Numbers} → refusal why ≡ admission f dss (not dss) → refusal why ≡ tallied f
  unfolding tallied
  not_admitted e = rw (← is, ← e)

  pub admitted : (rec : Recording) (kind : FileKind) {said : Said Figures} → answers rec ≡ admission f dss (not dss) → kind ≡ kind_in dss f rec
      → said ≡ counted_as kind f rec → said ≡ tallied f
  unfolding tallied
  admitted rec kind e k counts = rw (← is, ← e) (counts ∙ ap (λ (x : FileKind). counted_as x f rec) k)
