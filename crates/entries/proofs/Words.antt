-- Four bytes and the number that they make.
-- Assumes nothing.
use Prim.Native.Nat.{ℕ, zero, suc, ◌+◌, ◌*◌, ◌/◌, ◌%◌, ◌≤◌, ◌<◌, ◌^◌}
use mathlib.Core.Path.{◌≡◌, refl, sym, ap, ◌∙◌}
use mathlib.Core.List.{List, [], ◌∷◌}
use native.Mathlib.Omega.{arith}
use lib.ListN.{length, get_or, take, drop}
use Rattle.std.specs.Int.{to_be_bytes}
use Rattle.std.proofs.Common.{w32}
use Rattle.std.proofs.lemmas.Nat.{be_bytes_4}
use lib.Seq.{drop-cons, get_or-take, get_or-drop}
use Rattle.blocks.specs.Headers.{Bytes}
use Rattle.entries.specs.Words.{word32, word_at}

-- four bytes are those of the number that they make
bytes_back : (a b c d n : ℕ) → a ≤ 255 → b ≤ 255 → c ≤ 255 → d ≤ 255 → 16777216 * a + 65536 * b + 256 * c + d ≡ n → a ∷ b ∷ c ∷ d ∷ [] ≡ word32 n
bytes_back a b c d n p q r s e =
    let one : a ≡ n / 16777216 % 256 = omega arith in
    let two : b ≡ n / 65536 % 256 = omega arith in
    let three : c ≡ n / 256 % 256 = omega arith in
    let four : d ≡ n % 256 = omega arith in
    cc (one, two, three, four)

-- and a number is read where its four bytes stand
pub word_back : (x : List ℕ) (i n : ℕ) → n < 2 ^ 32 → ((k : ℕ) → k < 4 → get_or x (i + k) 0 ≡ get_or (word32 n) k 0) → word_at x i ≡ n
word_back x i n small stand =
    let zero : i + 0 ≡ i = omega arith in
    let p : get_or x i 0 ≡ n / 16777216 % 256 = ap (λ (j : ℕ). get_or x j 0) (sym zero) ∙ stand 0 (omega arith) in
    let q : get_or x (i + 1) 0 ≡ n / 65536 % 256 = stand 1 (omega arith) in
    let r : get_or x (i + 2) 0 ≡ n / 256 % 256 = stand 2 (omega arith) in
    let s : get_or x (i + 3) 0 ≡ n % 256 = stand 3 (omega arith) in
    let one : n ≡ 256 * (n / 256) + n % 256 = omega arith in
    let two : n / 256 ≡ 256 * (n / 65536) + n / 256 % 256 = omega arith in
    let three : n / 65536 ≡ 256 * (n / 16777216) + n / 65536 % 256 = omega arith in
    let four : n / 16777216 ≡ n / 16777216 % 256 = omega arith in
    omega (arith, one, two, three, four, p, q, r, s)

-- the four bytes at a place
four_at : (x : List ℕ) (i : ℕ) → i + 4 ≤ length x
    → take 4 (drop i x) ≡ get_or x i 0 ∷ get_or x (i + 1) 0 ∷ get_or x (i + 2) 0 ∷ get_or x (i + 3) 0 ∷ []
four_at x i there =
    let two : suc (i + 1) ≡ i + 2 = omega arith in
    let three : suc (i + 2) ≡ i + 3 = omega arith in
    let one : suc i ≡ i + 1 = omega arith in
    let a = drop-cons x i 0 (omega arith) ∙ ap (λ (j : ℕ). get_or x i 0 ∷ drop j x) one in
    let b = drop-cons x (i + 1) 0 (omega arith) ∙ ap (λ (j : ℕ). get_or x (i + 1) 0 ∷ drop j x) two in
    let c = drop-cons x (i + 2) 0 (omega arith) ∙ ap (λ (j : ℕ). get_or x (i + 2) 0 ∷ drop j x) three in
    let d = drop-cons x (i + 3) 0 (omega arith) in
    rw (a, b, c, d)

module _ (x : List ℕ) (i n : ℕ) (there : i + 4 ≤ length x) where
  -- the bytes at a place are a number's if that is read there
  pub word_stands : Bytes x → word_at x i ≡ n → take 4 (drop i x) ≡ word32 n
  word_stands bytes e = four_at x i there ∙ bytes_back _ _ _ _ n (bytes i) (bytes (i + 1)) (bytes (i + 2)) (bytes (i + 3)) e

  -- and only then
  pub word_read : n < 2 ^ 32 → take 4 (drop i x) ≡ word32 n → word_at x i ≡ n
  word_read small e =
      word_back x i n small
      (λ k h. sym (get_or-take 4 (drop i x) k 0 h ∙ get_or-drop i x k 0) ∙ ap (λ (l : List ℕ). get_or l k 0) e)

-- std's bytes of a number's lowest 32 bits, the highest first, are the word
pub word_bytes : (n : ℕ) → to_be_bytes w32 (n % 2 ^ 32) ≡ word32 n
word_bytes n = be_bytes_4 (word32 n) (n % 2 ^ 32) refl (λ i. below i) (omega arith)
  where
    below : (i : ℕ) → get_or (word32 n) i 0 < 256
    below zero = omega arith
    below (suc zero) = omega arith
    below (suc (suc zero)) = omega arith
    below (suc (suc (suc zero))) = omega arith
    below (suc (suc (suc (suc i)))) = omega arith
