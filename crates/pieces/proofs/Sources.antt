-- Bytes of a file that was handed over in pieces: each stands in what was kept or in the piece. And what a reader's numbers say of it.
-- Assumes nothing.
use Prim.Native.Nat.{ℕ, ◌+◌, ◌-◌, ◌≤◌, ◌<◌}
use mathlib.Core.Path.{◌≡◌, sym, ap, ◌∙◌, subst}
use mathlib.Core.List.{List}
use mathlib.Core.Bool.{Bool}
use native.Mathlib.Omega.{arith}
use lib.ListN.{length, get_or}
use Rattle.blocks.specs.Places.{whole_blocks, block_at}
use Rattle.blocks.specs.Headers.{header_byte}
use Rattle.hold.specs.declared.Standing.{Standing}
use Rattle.hold.specs.Ready.{ready}
use Rattle.hold.proofs.Numbers.{Numbered, numbered}
use Rattle.pieces.specs.Inner.{Joins, Known}

module _ {f partial piece : List ℕ} {taken tail : ℕ} (joins : Joins f partial piece taken tail) where
  pub joined_old : (p : ℕ) → tail ≤ p → p < taken → get_or partial (p - tail) 0 ≡ get_or f p 0
  joined_old p after before =
      let place : tail + (p - tail) ≡ p = omega arith in
      joins.old (p - tail) (omega arith) ∙ ap (λ (q : ℕ). get_or f q 0) place

  pub joined_new : (p : ℕ) → taken ≤ p → p < taken + length piece → get_or piece (p - taken) 0 ≡ get_or f p 0
  joined_new p after before =
      let place : taken + (p - taken) ≡ p = omega arith in
      joins.new (p - taken) (omega arith) ∙ ap (λ (q : ℕ). get_or f q 0) place

-- so a byte that is the file's at a place, whatever the file, is a header's
pub joined_header : {f partial piece : List ℕ} {taken tail byte p : ℕ} (a block i : ℕ) → tail ≡ block_at a (whole_blocks taken a)
    → Joins f partial piece taken (block_at a (whole_blocks taken a))
    → ((g : List ℕ) → Joins g partial piece taken tail → byte ≡ get_or g p 0) → p ≡ block_at a block + i → byte ≡ header_byte f a block i
joined_header {f} {partial} {piece} {taken} a block i tail-is joins says place =
    says f (subst (λ (t : ℕ). Joins f partial piece taken t) (sym tail-is) joins) ∙ ap (λ (q : ℕ). get_or f q 0) place

pub numbers_of : {dss : Bool} {f partial waiting piece : List ℕ} {a taken : ℕ} {was : Standing} → Known dss f a taken was partial waiting piece
    → Numbered dss f a (whole_blocks (length f) a) (whole_blocks taken a) (ready dss f a (whole_blocks taken a)) was
numbers_of known = numbered _ _ _ _ _ _ _ known.numbers_are
