-- A record's size by its second byte, and the ways of finding a record at a place: refusals 4 and 5, or the record.
-- Assumes nothing.
use Prim.Native.Nat.{ℕ, ◌+◌, ◌≤◌, ◌<◌}
use mathlib.Core.Path.{◌≡◌, ap}
use mathlib.Core.Bool.{true, false}
use native.Mathlib.Omega.{arith}
use borrow.Author.Tests.{le-leb, lt-leb, leb-true}
use lib.Dec.{leb}
use Rattle.tables.proofs.Cases.{by_order}
use Rattle.blocks.specs.Headers.{flag_of}
use Rattle.refusals.specs.Numbers.{lacking}
use Rattle.refusals.specs.Said.{answers, refusal}
use Rattle.refusals.proofs.Said.{passed_by}
use Rattle.qp7.specs.Records.{record_size, absent_of, record_at}

-- bit 7 is on
pub long_size : (second : ℕ) → 128 ≤ second → record_size second ≡ 56
unfolding record_size flag_of
long_size second h = simp (le-leb 128 second h)

-- bit 7 is off
pub short_size : (second : ℕ) → second < 128 → record_size second ≡ 12
unfolding record_size flag_of
short_size second h = simp (lt-leb 128 second h)

-- either is above 0 and at most 56
pub size_bounds : (second : ℕ) → (0 < record_size second) × (record_size second ≤ 56)
size_bounds second =
    by_order second 128 (λ h. (omega (arith, short_size second h), omega (arith, short_size second h)))
    (λ h. (omega (arith, long_size second h), omega (arith, long_size second h)))

module _ (s : ℕ → ℕ) (long q : ℕ) where
  -- fewer than 2 bytes are left
  pub no_selector : long < q + 2 → refusal (lacking 4 q 0 (absent_of long q 2)) ≡ record_at s long q
  unfolding record_at
  no_selector h = simp (lt-leb (q + 2) long h)

  -- the record runs past the end
  pub runs_past : (size : ℕ) → q + 2 ≤ long → size ≡ record_size (s (q + 1)) → long < q + size
      → refusal (lacking 5 q size (absent_of long q size)) ≡ record_at s long q
  unfolding record_at
  runs_past size l is h =
      let past : leb (q + record_size (s (q + 1))) long ≡ false = rw (← is) (lt-leb (q + size) long h) in
      simp (le-leb (q + 2) long l, past) (ap (λ (n : ℕ). refusal (lacking 5 q n (absent_of long q n))) is)

  -- the record ends in the stream
  pub record_there : (size : ℕ) → q + 2 ≤ long → size ≡ record_size (s (q + 1)) → q + size ≤ long → answers size ≡ record_at s long q
  unfolding record_at
  record_there size l is h =
      let inside : leb (q + record_size (s (q + 1))) long ≡ true = rw (← is) (le-leb (q + size) long h) in
      simp (le-leb (q + 2) long l, inside) (ap answers is)

  -- a record that was found has its size by its second byte, and ends in the stream
  pub record_found : (size : ℕ) → record_at s long q ≡ answers size → (size ≡ record_size (s (q + 1))) × (q + size ≤ long)
  unfolding record_at
  record_found size e =
      let told = passed_by (leb (q + 2) long) _ _ e in
      let fits = passed_by (leb (q + record_size (s (q + 1))) long) _ (answers (record_size (s (q + 1)))) told.1 in
      let is : size ≡ record_size (s (q + 1)) = cc in
      let inside : q + record_size (s (q + 1)) ≤ long = leb-true (q + record_size (s (q + 1))) long fits.0 in
      (is, omega (arith, is, inside))
