-- A number's decimal digits: they are those that io writes, there are few of them, reading them back gives the number,
-- and there is no zero in front. Assumes nothing.
use Prim.Native.Nat.{ℕ, zero, suc, ◌+◌, ◌-◌, ◌*◌, ◌/◌, ◌%◌, ◌^◌, ◌≤◌, ◌<◌}
use mathlib.Core.Path.{◌≡◌, refl, sym, ap, ◌∙◌}
use mathlib.Core.List.{List, [], ◌∷◌, ◌++◌}
use native.Mathlib.Nat.{not-suc-le-zero, pow-suc, one-le-pow, pow-le-pow_right}
use native.Mathlib.Omega.{arith}
use borrow.Author.Tests.{lt-ltb, le-ltb}
use lib.ListN.{length, get_or, length-append, get_or-append}
use Rattle.io.specs.Digits.{last_digits, hex_digit_ascii, IsDigitCount}
use Rattle.tables.proofs.Cases.{by_order}
use Rattle.listing.specs.Decimal.{digit, decimal_in, decimal}

-- none where there is no room, one digit for a number below 10, and one more than a tenth has for any other
in_none : (n : ℕ) → decimal_in 0 n ≡ []
unfolding decimal_in
in_none n = refl

in_one : (k n : ℕ) → n < 10 → decimal_in (suc k) n ≡ digit n ∷ []
unfolding decimal_in
in_one k n h = simp (lt-ltb n 10 h)

in_more : (k n : ℕ) → 10 ≤ n → decimal_in (suc k) n ≡ decimal_in k (n / 10) ++ (digit (n % 10) ∷ [])
unfolding decimal_in
in_more k n h = simp (le-ltb n 10 h)

-- io's character for a digit
glyph_is : (d : ℕ) → d < 10 → hex_digit_ascii d ≡ digit d
glyph_is d h = simp (lt-ltb d 10 h)

-- io's digits, where it gives the fewest and there is room for as many
digits_in : (most n k : ℕ) → k ≤ most → IsDigitCount 10 1 n k → last_digits 10 k n ≡ decimal_in most n
digits_in most n zero room f = absurd (not-suc-le-zero f.0)
digits_in zero n (suc k) room f = absurd (not-suc-le-zero room)
digits_in (suc most) n (suc zero) room f =
    let small : n < 10 = omega (arith, f.1) in
    let whole : n % 10 ≡ n = omega arith in
    ap (λ (d : ℕ). hex_digit_ascii d ∷ []) whole ∙ ap (λ (d : ℕ). d ∷ []) (glyph_is n small) ∙ sym (in_one most n small)
digits_in (suc most) n (suc (suc k)) room f =
    let before : suc (suc k) - 1 ≡ suc k = omega arith in
    let whole : 10 ^ suc k ≤ n = rw before at (f.2 (omega arith)) in
    let more : 10 ≤ n = omega (arith, pow-suc 10 k, one-le-pow k 10 (omega arith)) in
    let tenth : 10 ^ (suc k - 1) ≤ n / 10 = let last : suc k - 1 ≡ k = omega arith in rw last (omega (arith, pow-suc 10 k)) in
    let rest : last_digits 10 (suc k) (n / 10) ≡ decimal_in most (n / 10) =
    digits_in most (n / 10) (suc k) (omega arith) (omega arith, omega (arith, f.1, pow-suc 10 (suc k)), λ _. tenth) in
    ap (λ (l : List ℕ). l ++ (hex_digit_ascii (n % 10) ∷ [])) rest
    ∙ ap (λ (d : ℕ). decimal_in most (n / 10) ++ (d ∷ [])) (glyph_is (n % 10) (omega arith))
    ∙ sym (in_more most n more)

-- a number of 64 bits has at most 20 digits
pub few_digits : (n k : ℕ) → n < 2 ^ 64 → IsDigitCount 10 1 n k → k ≤ 20
few_digits n k small f =
    by_order 20 k
    (λ h.
    let more : 20 ≤ k - 1 = omega arith in
    let power : 10 ^ 20 ≤ 10 ^ (k - 1) = pow-le-pow_right (omega arith) more in
    absurd (omega (arith, f.2 (omega arith))))
    (λ h. h)

-- io's digits of a number are the number as text
pub decimal_is : (n k : ℕ) → n < 2 ^ 64 → IsDigitCount 10 1 n k → last_digits 10 k n ≡ decimal n
decimal_is n k small f = digits_in 20 n k (few_digits n k small f) f

-- there are at most as many as there is room for
in_few : (k n : ℕ) → length (decimal_in k n) ≤ k
in_few zero n = rw in_none (omega arith)
in_few (suc k) n =
    by_order n 10 (λ h. rw (in_one k n h) (omega arith))
    (λ h. rw (in_more k n h, length-append) (omega (arith, in_few k (n / 10))))

pub decimal_few : (n : ℕ) → length (decimal n) ≤ 20
decimal_few n = in_few 20 n

-- and at least one
in_some : (k n : ℕ) → 0 < length (decimal_in (suc k) n)
in_some k n =
    by_order n 10 (λ h. rw (in_one k n h) (omega arith)) (λ h. rw (in_more k n h, length-append) (omega arith))

-- the number that a text of digits is read as, after a value for what stands before it
abbrev pub value_of : ℕ → List ℕ → ℕ
value_of value [] = value
value_of value (d ∷ rest) = value_of (10 * value + (d - 48)) rest

-- one digit more
value_more : (value : ℕ) (text : List ℕ) (d : ℕ) → value_of value (text ++ (d ∷ [])) ≡ 10 * value_of value text + (d - 48)
value_more value [] d = refl
value_more value (x ∷ rest) d = value_more (10 * value + (x - 48)) rest d

-- the digits read back give the number
pub reads_back_in : (k n : ℕ) → n < 10 ^ k → value_of 0 (decimal_in k n) ≡ n
reads_back_in zero n h = rw in_none (omega arith)
reads_back_in (suc k) n h =
    by_order n 10 (λ l. rw (in_one k n l) (omega arith))
    (λ l.
    let tenth : n / 10 < 10 ^ k = omega (arith, pow-suc 10 k) in
    rw (in_more k n l, value_more, reads_back_in k (n / 10) tenth) (omega arith))

pub reads_back : (n : ℕ) → n < 10 ^ 20 → value_of 0 (decimal n) ≡ n
reads_back n h = reads_back_in 20 n h

-- no zero stands in front, but for the number 0
pub first_above_zero_in : (k n : ℕ) → 0 < n → n < 10 ^ k → 48 < get_or (decimal_in k n) 0 0
first_above_zero_in zero n some h = absurd (omega arith)
first_above_zero_in (suc zero) n some h = rw (in_one 0 n (omega arith)) (omega arith)
first_above_zero_in (suc (suc k)) n some h =
    by_order n 10 (λ l. rw (in_one (suc k) n l) (omega arith))
    (λ l.
    let tenth : n / 10 < 10 ^ suc k = omega (arith, pow-suc 10 (suc k)) in
    rw (in_more (suc k) n l, get_or-append (decimal_in (suc k) (n / 10)) (digit (n % 10) ∷ []) 0 0 (in_some k (n / 10)))
    (first_above_zero_in (suc k) (n / 10) (omega arith) tenth))

pub first_above_zero : (n : ℕ) → 0 < n → n < 10 ^ 20 → 48 < get_or (decimal n) 0 0
first_above_zero n some h = first_above_zero_in 20 n some h
