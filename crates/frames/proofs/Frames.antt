-- Laws of a segment's frames: which are found, how many are handed out, short or missing, and that their sizes add up.
-- Assumes nothing.
use Prim.Native.Nat.{ℕ, zero, suc, ◌+◌, ◌*◌, ◌-◌, ◌/◌, ◌%◌, ◌≤◌, ◌<◌, ◌^◌, min}
use mathlib.Core.Path.{◌≡◌, sym, ap, ◌∙◌}
use mathlib.Core.Bool.{true, false, cond}
use native.Mathlib.Nat.{mul-suc}
use native.Mathlib.Omega.{arith}
use borrow.Author.Tests.{le-leb, lt-leb, lt-ltb, le-ltb, eq-eqb, ne_eqb}
use lib.Dec.{eqb}
use Rattle.tables.specs.Table.{table, sum}
use Rattle.tables.specs.Counting.{how_many}
use Rattle.tables.proofs.Cases.{by_order, by_equal}
use Rattle.tables.proofs.Counting.{all_counted, none_such, one_such}
use Rattle.tables.proofs.Table.{same_table}
use Rattle.frames.specs.declared.Found.{Found}
use Rattle.frames.specs.Frames.{is_missing, frame_size, is_short, handed_out, short_among, missing_of, no_frame, frame_of}

-- a place and a size
abbrev found : ℕ → ℕ → Found
found place size = record { place = record { 0 = place }; size = size }

-- what frame k of a segment is
module _ (start long k : ℕ) where
  pub frame_missing : long ≤ 56 * k → frame_of start long k ≡ no_frame
  unfolding frame_of
  frame_missing h = simp (le-leb long (56 * k) h)

  pub frame_found : 56 * k < long → start + 56 * k < 2 ^ 64
      → frame_of start long k ≡ record { place = record { 0 = start + 56 * k }; size = frame_size long k }
  unfolding frame_of
  frame_found h l = simp (lt-leb long (56 * k) h, lt-ltb (start + 56 * k) (2 ^ 64) l)

  -- a place that has no number of 64 bits
  pub frame_too_far : 2 ^ 64 ≤ start + 56 * k → frame_of start long k ≡ no_frame
  unfolding frame_of
  frame_too_far far =
      by_order (56 * k) long (λ h. simp (lt-leb long (56 * k) h, le-ltb (start + 56 * k) (2 ^ 64) far)) (λ h. frame_missing h)

  -- what has place and size 0 is no frame
  pub none_found : (r : Found) → (r.place.0 ≡ 0) × (r.size ≡ 0) → frame_of start long k ≡ no_frame → r ≡ frame_of start long k
  none_found r none e =
      ap (λ (place : ℕ). found place r.size) none.0 ∙ ap (found 0) none.1 ∙ sym e

-- as many of the first n begin inside the segment
pub handed_among : (long n : ℕ) → handed_out long n ≡ min n ((long + 55) / 56)
unfolding how_many
handed_among long zero = omega arith
handed_among long (suc n) =
    let before = handed_among long n in
    by_order (56 * n) long (λ h. simp (lt-leb long (56 * n) h) (omega arith)) (λ h. simp (le-leb long (56 * n) h) (omega arith))

-- each announced frame is handed out or missing
pub handed_and_missing : (long n : ℕ) → handed_out long n + missing_of long n ≡ n
handed_and_missing long n = all_counted n (is_missing long)

-- where all of the segment is announced, as many are handed out as its bytes need
pub handed_is : (long n : ℕ) → long ≤ 56 * n → handed_out long n ≡ (long + 55) / 56
handed_is long n all = omega (arith, handed_among long n)

-- a frame is short if it begins in the segment and ends past it
module _ (long k : ℕ) where
  whole_not_short : 56 * k + 56 ≤ long → is_short long k ≡ false
  whole_not_short h = simp (lt-leb long (56 * k) (omega arith), le-ltb (frame_size long k) 56 (omega arith))

  missing_not_short : long ≤ 56 * k → is_short long k ≡ false
  missing_not_short h = simp (le-leb long (56 * k) h)

  last_is_short : 56 * k < long → long < 56 * k + 56 → is_short long k ≡ true
  last_is_short h l = simp (lt-leb long (56 * k) h, lt-ltb (frame_size long k) 56 (omega arith))

-- at most one is short, and none where the bytes come out even
pub short_is : (long n : ℕ) → long ≤ 56 * n → short_among long n ≡ cond (eqb (long % 56) 0) 0 1
short_is long n all =
    by_equal (long % 56) 0
    (λ e.
    none_such n (is_short long)
    (λ k h. by_order (56 * k) long (λ l. whole_not_short long k (omega arith)) (λ l. missing_not_short long k l))
    ∙ simp (eq-eqb (long % 56) 0 e))
    (λ e.
    one_such n (is_short long) (long / 56) (omega arith) (last_is_short long (long / 56) (omega arith) (omega arith))
    (λ k other. by_order k (long / 56) (λ l. whole_not_short long k (omega arith)) (λ l. missing_not_short long k (omega arith)))
    ∙ simp (ne_eqb (long % 56) 0 e))

-- the sizes of the first n add up to what of the segment lies before frame n
sizes_sum : (n long : ℕ) → sum (table n (frame_size long)) ≡ min (56 * n) long
unfolding sum table
sizes_sum zero long = omega arith
sizes_sum (suc n) long =
    let rest : sum (table n (λ k. frame_size long (suc k))) ≡ min (56 * n) (long - 56) =
    ap sum (same_table n (λ k. frame_size long (suc k)) (frame_size (long - 56)) (λ k h. omega (arith, mul-suc 56 k))) ∙ sizes_sum n (long - 56) in
    omega (arith, rest, mul-suc 56 n)

-- where all of the segment is announced, its frames have all its bytes
pub sizes_add_up : (long n : ℕ) → long ≤ 56 * n → sum (table n (frame_size long)) ≡ long
sizes_add_up long n all = omega (arith, sizes_sum n long)
