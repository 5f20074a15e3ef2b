-- Laws of header fields: the flag is a bit of its byte, the announced sum grows block by block by 255 at most, and a longer file keeps both.
-- Assumes nothing.
use Prim.Native.Nat.{ℕ, zero, suc, ◌+◌, ◌*◌, ◌-◌, ◌/◌, ◌%◌, ◌≤◌, ◌<◌}
use mathlib.Core.Path.{◌≡◌, refl, sym, ap, ◌∙◌}
use mathlib.Core.List.{List, ◌++◌}
use native.Mathlib.Numerals.{add-one}
use native.Mathlib.Omega.{arith}
use borrow.Author.Tests.{le-leb, lt-leb, eq-eqb, ne_eqb}
use lib.ListN.{length, get_or-append}
use lib.Dec.{eqb}
use Rattle.tables.proofs.Cases.{by_order}
use Rattle.blocks.specs.Places.{Whole, whole_blocks, block_at}
use Rattle.blocks.specs.Headers.{Bytes, header_byte, flag_of, count_of, announced_in}

-- the flag is the digit of 128 in the byte
pub flag_is_bit_7 : (x : ℕ) → x < 256 → flag_of x ≡ eqb (x / 128 % 2) 1
unfolding flag_of
flag_is_bit_7 x small =
    by_order x 128
    (λ h. let off : x / 128 % 2 ≡ 1 → ⊥ = λ e. omega arith in lt-leb 128 x h ∙ sym (ne_eqb (x / 128 % 2) 1 off))
    (λ h. let on : x / 128 % 2 ≡ 1 = omega arith in le-leb 128 x h ∙ sym (eq-eqb (x / 128 % 2) 1 on))

pub announced_none : (f : List ℕ) (a : ℕ) → announced_in f a 0 ≡ 0
unfolding announced_in
announced_none f a = refl

pub announced_more : (f : List ℕ) (a b : ℕ) → announced_in f a (b + 1) ≡ announced_in f a b + count_of f a b
unfolding announced_in
announced_more f a b = ap (announced_in f a) (add-one b)

-- more blocks announce no less
pub announced_upto : (f : List ℕ) (a b n : ℕ) → b ≤ n → announced_in f a b ≤ announced_in f a n
announced_upto f a b zero h = let none : b ≡ 0 = omega arith in rw none (omega arith)
announced_upto f a b (suc n) h =
    by_order n b (λ l. let all : b ≡ suc n = omega arith in rw all (omega arith))
    (λ l. rw (← add-one n) (omega (arith, announced_upto f a b n l, announced_more f a n)))

-- a count is a byte, so each block announces 255 more at most
pub announced_grows : (f : List ℕ) (a b n : ℕ) → Bytes f → b ≤ n → announced_in f a n ≤ announced_in f a b + 255 * (n - b)
announced_grows f a b zero bytes h = let none : b ≡ 0 = omega arith in rw none (omega arith)
announced_grows f a b (suc n) bytes h =
    by_order n b (λ l. let all : b ≡ suc n = omega arith in rw all (omega arith))
    (λ l. rw (← add-one n) (omega (arith, announced_grows f a b n bytes l, announced_more f a n, bytes (block_at a n + 2))))

pub announced_most : (f : List ℕ) (a n : ℕ) → Bytes f → announced_in f a n ≤ 255 * n
announced_most f a n bytes = omega (arith, announced_grows f a 0 n bytes (omega arith), announced_none f a)

-- a longer file has the same headers in front, and they announce the same
pub header_kept : (f p : List ℕ) (a b i : ℕ) → Whole f a (b + 1) → i < 6 → header_byte f a b i ≡ header_byte (f ++ p) a b i
header_kept f p a b i whole h = sym (get_or-append f p 0 (a + 512 * b + i) (omega arith))

pub announced_kept : (f p : List ℕ) (a n : ℕ) → Whole f a n → announced_in f a n ≡ announced_in (f ++ p) a n
unfolding announced_in
announced_kept f p a zero whole = refl
announced_kept f p a (suc b) whole =
    let here = header_kept f p a b 2 (omega arith) (omega arith) in
    omega (arith, announced_kept f p a b (omega arith), here)

-- and so do all whole blocks, if there are any
pub announced_same : (f rest : List ℕ) (a : ℕ) → announced_in f a (whole_blocks (length f) a) ≡ announced_in (f ++ rest) a (whole_blocks (length f) a)
announced_same f rest a =
    by_order (length f) a
    (λ short. let none : whole_blocks (length f) a ≡ 0 = omega arith in rw none (announced_none f a ∙ sym (announced_none (f ++ rest) a)))
    (λ full. announced_kept f rest a (whole_blocks (length f) a) (omega arith))
