-- The scan turn by turn, and how far on a start can lie.
-- Assumes nothing.
use Prim.Native.Nat.{ℕ, zero, suc, ◌+◌, ◌*◌, ◌-◌, ◌≤◌, ◌<◌}
use mathlib.Core.Path.{◌≡◌}
use mathlib.Core.List.{List}
use mathlib.Core.Bool.{true, false}
use native.Mathlib.Nat.{not-suc-le-zero}
use native.Mathlib.Omega.{arith}
use borrow.Author.Tests.{lt-ltb, le-ltb, le-leb, lt-leb}
use lib.ListN.{get_or, drop}
use lib.Dec.{leb, ltb, eqb}
use Rattle.tables.proofs.Cases.{either_most}
use Rattle.detect.specs.Header.{good_header}
use Rattle.detect.specs.Start.{in_row, score, scan, scanned, audio_start}

-- v good headers from p on, and then what is left of sixteen
abbrev pub Ran : List ℕ → ℕ → ℕ → Type 0
Ran f p v = score f p ≡ v + in_row f (p + 512 * v) (16 - v)

pub ran_none : (f : List ℕ) (p : ℕ) → Ran f p 0
ran_none f p = let e : p + 512 * 0 ≡ p = omega arith in rw e (omega arith)

row_good : (f : List ℕ) (p k : ℕ) → good_header (drop p f) ≡ true → in_row f p (suc k) ≡ 1 + in_row f (p + 512) k
unfolding in_row
row_good f p k h = simp h

row_bad : (f : List ℕ) (p k : ℕ) → good_header (drop p f) ≡ false → in_row f p (suc k) ≡ 0
unfolding in_row
row_bad f p k h = simp h

pub ran_more : (f : List ℕ) (p v : ℕ) → v < 16 → good_header (drop (p + 512 * v) f) ≡ true → Ran f p v → Ran f p (v + 1)
ran_more f p v h good r =
    let left : 16 - v ≡ suc (16 - (v + 1)) = omega arith in
    let next : p + 512 * v + 512 ≡ p + 512 * (v + 1) = omega arith in
    let l = rw (left, row_good f (p + 512 * v) (16 - (v + 1)) good, next) at r in
    omega (arith, l)

pub ran_ends : (f : List ℕ) (p v : ℕ) → v < 16 → good_header (drop (p + 512 * v) f) ≡ false → Ran f p v → score f p ≡ v
ran_ends f p v h bad r =
    let left : 16 - v ≡ suc (16 - (v + 1)) = omega arith in
    let l = rw (left, row_bad f (p + 512 * v) (16 - (v + 1)) bad) at r in
    omega (arith, l)

module _ (f : List ℕ) (p best most : ℕ) where
  pub scan_none : (k : ℕ) → k ≡ 0 → scan f k p best most ≡ best
  unfolding scan
  scan_none k e = rw e

  pub scan_four : (k : ℕ) → 0 < k → 4 ≤ score f p → scan f k p best most ≡ p
  unfolding scan
  scan_four zero h r = absurd (not-suc-le-zero h)
  scan_four (suc k) h r = simp (le-leb _ _ r)

  pub scan_better : (k j v : ℕ) → k ≡ suc j → score f p ≡ v → v < 4 → most < v
      → scan f k p best most ≡ scan f j (p + 512) p v
  unfolding scan
  scan_better k j v e r h l = rw e (simp (r, lt-leb _ _ h, lt-ltb _ _ l))

  pub scan_worse : (k j v : ℕ) → k ≡ suc j → score f p ≡ v → v < 4 → v ≤ most
      → scan f k p best most ≡ scan f j (p + 512) best most
  unfolding scan
  scan_worse k j v e r h l = rw e (simp (r, lt-leb _ _ h, le-ltb _ _ l))

-- a start lies at 0x10000 at the most
scan_small : (f : List ℕ) (k p best most top : ℕ) → best ≤ top → p + 512 * k ≤ top + 512 → scan f k p best most ≤ top
unfolding scan
scan_small f zero p best most top b h = b
scan_small f (suc k) p best most top b h =
    either_most (leb 4 (score f p)) (omega arith)
    (either_most (ltb most (score f p)) (scan_small f k (p + 512) p (score f p) top (omega arith) (omega arith))
    (scan_small f k (p + 512) best most top b (omega arith)))

pub start_small : (f : List ℕ) → audio_start f ≤ 0x10000
unfolding audio_start scanned
start_small f = either_most (eqb (get_or f 0 0) 7) (scan_small f _ 512 0x1000 0 0x10000 (omega arith) (omega arith)) (omega arith)
