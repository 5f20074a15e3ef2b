-- A list written from a function has its values, and a list that has them is that list.
-- Assumes nothing.
use Prim.Native.Nat.{ℕ, zero, suc, ◌+◌, ◌<◌}
use mathlib.Core.Path.{◌≡◌, refl, sym, ap, ◌∙◌, subst}
use mathlib.Core.List.{List, [], ◌∷◌, ◌++◌}
use native.Mathlib.Nat.{le_of_suc-le-suc, not-suc-le-zero}
use native.Mathlib.Numerals.{add-one}
use native.Mathlib.Omega.{arith}
use lib.ListN.{length, get_or, length-append, get_or-append}
use lib.Seq.{ext_get_or, get_or-append_seam}
use Rattle.tables.proofs.Cases.{by_order}
use Rattle.tables.specs.Table.{table, sum, sum_of, Each}

pub length_table : (n : ℕ) (f : ℕ → ℕ) → length (table n f) ≡ n
unfolding table
length_table zero f = refl
length_table (suc n) f = ap suc (length_table n (λ k. f (suc k)))

pub table_at : (n : ℕ) (f : ℕ → ℕ) (i : ℕ) → i < n → get_or (table n f) i 0 ≡ f i
unfolding table
table_at zero f i h = absurd (not-suc-le-zero h)
table_at (suc n) f zero h = refl
table_at (suc n) f (suc i) h = table_at n (λ k. f (suc k)) i (le_of_suc-le-suc h)

-- a list of n elements that has f's values is their table
pub is_table : (n : ℕ) (f : ℕ → ℕ) (l : List ℕ) → length l ≡ n → ((k : ℕ) → k < n → get_or l k 0 ≡ f k) → l ≡ table n f
is_table n f l long all =
    ext_get_or 0 l (table n f) (long ∙ sym (length_table n f))
    (λ i h. let inside : i < n = omega arith in all i inside ∙ sym (table_at n f i inside))

-- functions with the same values below n have the same table
pub same_table : (n : ℕ) (f g : ℕ → ℕ) → ((k : ℕ) → k < n → f k ≡ g k) → table n f ≡ table n g
same_table n f g same =
    is_table n g (table n f) (length_table n f) (λ k h. table_at n f k h ∙ same k h)

-- the sum of a table with one place more
table_sum_suc : (n : ℕ) (f : ℕ → ℕ) → sum (table (suc n) f) ≡ sum (table n f) + f n
unfolding table sum
table_sum_suc zero f = omega arith
table_sum_suc (suc n) f = let rest = table_sum_suc n (λ k. f (suc k)) in omega (arith, rest)

pub table_sum_more : (n : ℕ) (f : ℕ → ℕ) → sum (table (n + 1) f) ≡ sum (table n f) + f n
table_sum_more n f = ap (λ (m : ℕ). sum (table m f)) (add-one n) ∙ table_sum_suc n f

pub table_sum_none : (f : ℕ → ℕ) → sum (table 0 f) ≡ 0
unfolding table sum
table_sum_none f = refl

-- the sum of a table is that of its first m places and that of the n after them
pub table_sum_parts : (m n : ℕ) (f : ℕ → ℕ) → sum (table (m + n) f) ≡ sum (table m f) + sum (table n (λ k. f (m + k)))
table_sum_parts m zero f = let front : m + 0 ≡ m = omega arith in rw front (omega (arith, table_sum_none (λ k. f (m + k))))
table_sum_parts m (suc n) f =
    let number : m + suc n ≡ m + n + 1 = omega arith in
    rw number
    (rw (← add-one n) (omega (arith, table_sum_parts m n f, table_sum_more (m + n) f, table_sum_more n (λ k. f (m + k)))))

-- one thing more
pub sum_more : {A : Type 0} (number : A → ℕ) (xs : List A) (x : A) → sum_of number (xs ++ (x ∷ [])) ≡ sum_of number xs + number x
unfolding sum_of
sum_more number [] x = omega arith
sum_more number (y ∷ rest) x = omega (arith, sum_more number rest x)

pub sum_none : {A : Type 0} (number : A → ℕ) → sum_of number [] ≡ 0
unfolding sum_of
sum_none number = refl

-- two numbers that are the same of each such thing
pub sum_same : {A : Type 0} (Such : A → Type 0) (one other : A → ℕ) → ((x : A) → Such x → one x ≡ other x) → (xs : List A) → Each Such xs
    → sum_of one xs ≡ sum_of other xs
unfolding sum_of Each
sum_same Such one other same [] all = refl
sum_same Such one other same (x ∷ rest) all = omega (arith, same x all.0, sum_same Such one other same rest all.1)

-- two numbers of each that make up a third
pub sum_both : {A : Type 0} (one other both : A → ℕ) → ((x : A) → one x + other x ≡ both x) → (xs : List A)
    → sum_of one xs + sum_of other xs ≡ sum_of both xs
unfolding sum_of
sum_both one other both is [] = refl
sum_both one other both is (x ∷ rest) = omega (arith, is x, sum_both one other both is rest)

pub each_none : {A : Type 0} (Such : A → Type 0) → Each Such []
unfolding Each
each_none Such = tt

pub each_more : {A : Type 0} (Such : A → Type 0) (xs : List A) (x : A) → Each Such xs → Such x → Each Such (xs ++ (x ∷ []))
unfolding Each
each_more Such [] x all such = (such, tt)
each_more Such (y ∷ rest) x all such = (all.0, each_more Such rest x all.1 such)

-- what holds of each holds of the one at a place
pub each_at : {A : Type 0} (Such : A → Type 0) (xs : List A) (none : A) → Each Such xs → (i : ℕ) → i < length xs → Such (get_or xs i none)
unfolding Each
each_at Such [] none all i h = absurd (not-suc-le-zero h)
each_at Such (y ∷ rest) none all zero h = all.0
each_at Such (y ∷ rest) none all (suc i) h = each_at Such rest none all.1 i (le_of_suc-le-suc h)

-- what holds of the one at each place, with one more at the end
pub place_more : {A : Type 0} (Such : ℕ → A → Type 0) (xs : List A) (x none : A) → ((i : ℕ) → i < length xs → Such i (get_or xs i none))
    → Such (length xs) x → (i : ℕ) → i < length (xs ++ (x ∷ [])) → Such i (get_or (xs ++ (x ∷ [])) i none)
place_more {A} Such xs x none all last i h =
    by_order i (length xs) (λ l. subst (Such i) (sym (get_or-append xs (x ∷ []) none i l)) (all i l))
    (λ l.
    let end : length xs ≡ i = omega (arith, length-append xs (x ∷ [])) in
    subst (λ (j : ℕ). Such j (get_or (xs ++ (x ∷ [])) j none)) end (subst (Such (length xs)) (sym (get_or-append_seam xs x [] none)) last))
