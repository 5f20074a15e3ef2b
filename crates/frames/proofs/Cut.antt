-- Laws of a segment's bytes cut by 56, and of the frames that are found and fetched one after another: they are the parts so cut.
-- Assumes nothing.
use Prim.Native.Nat.{ℕ, zero, suc, ◌+◌, ◌*◌, ◌-◌, ◌≤◌, ◌<◌, ◌^◌}
use mathlib.Core.Path.{◌≡◌, refl, sym, ap, ◌∙◌}
use mathlib.Core.List.{List, [], ◌∷◌, ◌++◌}
use mathlib.Core.Bool.{true, false}
use native.Mathlib.Nat.{not-suc-le-zero, le_of_suc-le-suc}
use native.Mathlib.Omega.{arith}
use borrow.Author.Tests.{ne_eqb}
use lib.ListN.{length, get_or, take, drop, length-take, length-drop}
use lib.Seq.{drop-drop}
use Rattle.tables.proofs.Parts.{take_least, drop_of_take}
use Rattle.tables.proofs.Cases.{by_order}
use Rattle.blocks.specs.Stream.{joined}
use Rattle.blocks.proofs.Stream.{joined_long}
use Rattle.refusals.specs.Said.{answers}
use Rattle.whole.specs.declared.Recording.{Recording}
use Rattle.whole.specs.Admissions.{admission}
use Rattle.whole.proofs.Admissions.{sound, few_blocks}
use Rattle.frames.specs.Frames.{frame_size, handed_out}
use Rattle.frames.specs.Cut.{cut, fetched_at, fetched_frames}
use Rattle.frames.proofs.Frames.{frame_found, frame_missing, handed_among}
use Rattle.frames.proofs.Shown.{can_be_fetched, fetched_joined}

-- nothing is cut into no parts
cut_none : (n : ℕ) → cut n [] ≡ []
unfolding cut
cut_none zero = refl
cut_none (suc n) = refl

-- and some bytes into their first 56 and the parts of the rest
cut_more : (n : ℕ) (bytes : List ℕ) → 0 < length bytes → cut (suc n) bytes ≡ take 56 bytes ∷ cut n (drop 56 bytes)
unfolding cut
cut_more n [] some = absurd (not-suc-le-zero some)
cut_more n (byte ∷ bytes) some = refl

-- there are as many parts as frames are handed out of so many bytes
pub cut_many : (n : ℕ) (bytes : List ℕ) → length (cut n bytes) ≡ handed_out (length bytes) n
unfolding cut
cut_many zero bytes = omega (arith, handed_among (length bytes) zero)
cut_many (suc n) [] = omega (arith, handed_among 0 (suc n))
cut_many (suc n) (byte ∷ bytes) =
    omega (arith, cut_many n (drop 56 (byte ∷ bytes)), length-drop 56 (byte ∷ bytes), handed_among (length (drop 56 (byte ∷ bytes))) n, handed_among (suc (length bytes)) (suc n))

-- and each is as long as its frame
pub cut_long : (n : ℕ) (bytes : List ℕ) (k : ℕ) → k < n → length (get_or (cut n bytes) k []) ≡ frame_size (length bytes) k
unfolding cut
cut_long zero bytes k h = absurd (not-suc-le-zero h)
cut_long (suc n) [] k h = omega arith
cut_long (suc n) (byte ∷ bytes) zero h = length-take 56 (byte ∷ bytes) ∙ omega arith
cut_long (suc n) (byte ∷ bytes) (suc k) h =
    cut_long n (drop 56 (byte ∷ bytes)) k (le_of_suc-le-suc h) ∙ omega (arith, length-drop 56 (byte ∷ bytes))

-- what is left of a segment from its frame k on
abbrev left_from : List ℕ → ℕ → ℕ → ℕ → List ℕ
left_from bytes start long k = take (long - 56 * k) (drop (start + 56 * k) bytes)

-- without its first 56 bytes it is what is left from the next frame on
left_next : (bytes : List ℕ) (start long k : ℕ) → drop 56 (left_from bytes start long k) ≡ left_from bytes start long (k + 1)
left_next bytes start long k =
    let size : long - 56 * k - 56 ≡ long - 56 * (k + 1) = omega arith in
    let place : start + 56 * k + 56 ≡ start + 56 * (k + 1) = omega arith in
    drop_of_take 56 (long - 56 * k) (drop (start + 56 * k) bytes)
    ∙ ap (take (long - 56 * k - 56)) (drop-drop 56 (start + 56 * k) bytes)
    ∙ ap (λ (x : ℕ). take x (drop (start + 56 * k + 56) bytes)) size
    ∙ ap (λ (x : ℕ). take (long - 56 * (k + 1)) (drop x bytes)) place

-- nothing is left from a missing frame on
left_none : (bytes : List ℕ) (start long k : ℕ) → long ≤ 56 * k → left_from bytes start long k ≡ []
left_none bytes start long k h = let none : long - 56 * k ≡ 0 = omega arith in rw none

-- the frames of a segment that lies in the stream of an admitted file
module _ (f : List ℕ) (rec : Recording) (scratch : ℕ → List ℕ) (start long : ℕ) (admitted : admission f false true ≡ answers rec)
    (there : start + long ≤ 506 * rec.blocks) (roomy : (k : ℕ) → 56 ≤ length (scratch k)) where
  -- a missing one gives nothing
  at_missing : (k : ℕ) → long ≤ 56 * k → fetched_at f scratch start long k ≡ []
  unfolding fetched_at
  at_missing k h = rw (frame_missing start long k h)

  -- one that is found gives the first 56 bytes of what is left
  at_found : (k : ℕ) → 56 * k < long
      → fetched_at f scratch start long k ≡ take 56 (left_from (joined f rec.start.0 rec.blocks) start long k) ∷ []
  unfolding fetched_at
  at_found k h =
      let fits : start + 56 * k < 2 ^ 64 = omega (arith, few_blocks f rec (sound f false true rec admitted)) in
      let some : 0 < frame_size long k = omega arith in
      let none : frame_size long k ≡ 0 → ⊥ = λ e. omega arith in
      let can = can_be_fetched f rec (start + 56 * k) (frame_size long k) (length (scratch k)) admitted some (omega arith) (omega arith) (roomy k) in
      rw (frame_found start long k h fits)
      (simp (ne_eqb (frame_size long k) 0 none)
      (ap (λ (l : List ℕ). l ∷ [])
      (fetched_joined f rec (start + 56 * k) (frame_size long k) (scratch k) can
      ∙ sym (take_least 56 (long - 56 * k) (drop (start + 56 * k) (joined f rec.start.0 rec.blocks))))))

  -- n of them from number k on give what is left, cut
  pub fetched_cut : (n k : ℕ) → fetched_frames f scratch start long n k ≡ cut n (left_from (joined f rec.start.0 rec.blocks) start long k)
  unfolding fetched_frames cut
  fetched_cut zero k = refl
  fetched_cut (suc n) k =
      let bytes = joined f rec.start.0 rec.blocks in
      by_order (56 * k) long
      (λ h.
      let some : 0 < length (left_from bytes start long k) =
      simp (length-take, length-drop) (omega (arith, joined_long f rec.start.0 rec.blocks (sound f false true rec admitted).whole)) in
      ap (λ (l : List (List ℕ)). l ++ fetched_frames f scratch start long n (k + 1)) (at_found k h)
      ∙ ap (λ (l : List (List ℕ)). take 56 (left_from bytes start long k) ∷ l) (fetched_cut n (k + 1) ∙ ap (cut n) (sym (left_next bytes start long k)))
      ∙ sym (cut_more n (left_from bytes start long k) some))
      (λ h.
      ap (λ (l : List (List ℕ)). l ++ fetched_frames f scratch start long n (k + 1)) (at_missing k h)
      ∙ fetched_cut n (k + 1) ∙ ap (cut n) (left_none bytes start long (k + 1) (omega arith)) ∙ cut_none n
      ∙ sym (ap (cut (suc n)) (left_none bytes start long k h)))
