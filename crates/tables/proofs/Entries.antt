-- A table that is written entry by entry, up to the equation for the whole.
-- Assumes nothing.
use Prim.Native.Nat.{ℕ, zero, suc, ◌+◌, ◌*◌, ◌≤◌, ◌<◌, min}
use mathlib.Core.Path.{◌≡◌, refl, sym, ap, ◌∙◌, subst}
use mathlib.Core.List.{List, [], ◌∷◌, ◌++◌, append_assoc, append-nil}
use native.Mathlib.Nat.{mul-le-mul_left, mul-suc, mul-zero, not-suc-le-zero, le_of_suc-le-suc}
use native.Mathlib.Omega.{arith}
use lib.ListN.{length, get_or, set, length-append, get_or-append}
use lib.Seq.{get_or-append-add, ext_get_or}
use Rattle.tables.specs.Table.{sum_of, Each}
use Rattle.tables.specs.Lent.{Leaves}
use Rattle.tables.specs.Entries.{in_turn, fronted}
use Rattle.tables.specs.Inner.{Fronts, Puts}
use Rattle.tables.proofs.Cases.{by_order}
use Rattle.tables.proofs.Lent.{leaves_none, leaves_first, leaves_more, leaves_to, leaves_as, leaves_join, leaves_over, over_in, over_long, over_leaves}

-- entries of one width, so many in all
pub in_turn_long : {A : Type 0} (entry : A → List ℕ) (w : ℕ) → ((x : A) → length (entry x) ≡ w) → (xs : List A)
    → length (in_turn entry xs) ≡ w * length xs
unfolding in_turn
in_turn_long entry w wide [] = omega (arith, mul-zero w)
in_turn_long entry w wide (x ∷ rest) =
    length-append (entry x) (in_turn entry rest) ∙ omega (arith, wide x, in_turn_long entry w wide rest, mul-suc w (length rest))

-- one thing more is one entry more
pub in_turn_more : {A : Type 0} (entry : A → List ℕ) (xs : List A) (x : A) → in_turn entry (xs ++ (x ∷ [])) ≡ in_turn entry xs ++ entry x
unfolding in_turn
in_turn_more entry [] x = append-nil (entry x)
in_turn_more entry (y ∷ rest) x =
    ap (λ (l : List ℕ). entry y ++ l) (in_turn_more entry rest x) ∙ sym (append_assoc (entry y) (in_turn entry rest) (entry x))

-- where each gives the same, all give the same
pub in_turn_same : {A B : Type 0} (Such : A → Type 0) (gives gives' : A → List B) → ((x : A) → Such x → gives x ≡ gives' x) → (xs : List A)
    → Each Such xs → in_turn gives xs ≡ in_turn gives' xs
unfolding in_turn Each
in_turn_same Such gives gives' same [] all = refl
in_turn_same {A} {B} Such gives gives' same (x ∷ rest) all =
    ap (λ (l : List B). l ++ in_turn gives rest) (same x all.0) ∙ ap (λ (l : List B). gives' x ++ l) (in_turn_same Such gives gives' same rest all.1)

-- how many things all give
pub in_turn_many : {A B : Type 0} (Such : A → Type 0) (gives : A → List B) (many : A → ℕ) → ((x : A) → Such x → length (gives x) ≡ many x)
    → (xs : List A) → Each Such xs → length (in_turn gives xs) ≡ sum_of many xs
unfolding in_turn Each sum_of
in_turn_many Such gives many is [] all = refl
in_turn_many Such gives many is (x ∷ rest) all =
    length-append (gives x) (in_turn gives rest) ∙ omega (arith, is x all.0, in_turn_many Such gives many is rest all.1)

-- word k of entry i
pub in_turn_at : {A : Type 0} (entry : A → List ℕ) (w : ℕ) → ((x : A) → length (entry x) ≡ w) → (xs : List A) (none : A) (i k : ℕ) → i < length xs
    → k < w → get_or (in_turn entry xs) (w * i + k) 0 ≡ get_or (entry (get_or xs i none)) k 0
unfolding in_turn
in_turn_at entry w wide [] none i k h l = absurd (not-suc-le-zero h)
in_turn_at entry w wide (x ∷ rest) none zero k h l =
    let first : w * 0 + k ≡ k = omega (arith, mul-zero w) in
    rw first (get_or-append (entry x) (in_turn entry rest) 0 k (omega (arith, wide x, l)))
in_turn_at entry w wide (x ∷ rest) none (suc i) k h l =
    let past : w * suc i + k ≡ length (entry x) + (w * i + k) = omega (arith, mul-suc w i, wide x) in
    rw past
    (get_or-append-add (entry x) (in_turn entry rest) (w * i + k) 0 ∙ in_turn_at entry w wide rest none i k (le_of_suc-le-suc h) l)

-- nothing is written yet
pub fronts_none : (d : List ℕ) (most : ℕ) → Fronts d most [] d
fronts_none d most = leaves_to (omega arith) (leaves_none d 0 (λ k. get_or [] k 0))

pub fronts_begin : {A : Type 0} (entry : A → List ℕ) (d : List ℕ) (most : ℕ) → Fronts d most (in_turn entry []) d
unfolding in_turn
fronts_begin entry d most = fronts_none d most

-- an entry below a number of them lies below that many in words
entry_below : (w n most : ℕ) → n < most → w * n + w ≤ w * most
entry_below w n most h = let whole : w * suc n ≤ w * most = mul-le-mul_left w h in omega (arith, mul-suc w n)

-- words stored one after another from a on, the first i of them before
abbrev pub stored_from : List ℕ → ℕ → ℕ → List ℕ → List ℕ
stored_from e a i [] = e
stored_from e a i (x ∷ rest) = stored_from (set e (a + i) x) a (i + 1) rest

-- what they leave
stores : (d : List ℕ) (a i : ℕ) (f : ℕ → ℕ) (e rest : List ℕ) → a + (i + length rest) ≤ length d
    → ((k : ℕ) → k < length rest → get_or rest k 0 ≡ f (i + k)) → Leaves d a i f e → Leaves d a (i + length rest) f (stored_from e a i rest)
stores d a i f e [] room are w = leaves_to (omega arith) w
stores d a i f e (x ∷ rest) room are w =
    let here : i + 0 ≡ i = omega arith in
    let first : x ≡ f i = are 0 (omega arith) ∙ ap f here in
    leaves_to (omega arith)
    (stores d a (i + 1) f (set e (a + i) x) rest (omega arith)
    (λ k h. let next : i + suc k ≡ i + 1 + k = omega arith in are (suc k) (omega arith) ∙ ap f next) (leaves_more d a i f e x (omega arith) first w))

-- an entry's words are stored in their place, where it is one that is to be written
pub puts_words : (d : List ℕ) (number most x : ℕ) (rest : List ℕ) → suc (length rest) * most ≤ length d → number < most
    → Puts d number most (x ∷ rest) (stored_from (set d (suc (length rest) * number) x) (suc (length rest) * number) 1 rest)
puts_words d number most x rest room below =
    record {
      put = λ _.
          leaves_to (omega arith)
          (stores d at 1 word (set d at x) rest (omega (arith, fits)) (λ k h. let next : suc k ≡ 1 + k = omega arith in ap word next) (leaves_first d at word x (omega (arith, fits)) refl));
      left_out = λ past. absurd (omega arith);
    }
  where
    at : ℕ
    at = suc (length rest) * number

    word : ℕ → ℕ
    word k = get_or (x ∷ rest) k 0

    fits : at + suc (length rest) ≤ suc (length rest) * most
    fits = entry_below (suc (length rest)) number most below

-- an entry of one word
pub puts_word : (d : List ℕ) (number most v : ℕ) → most ≤ length d → number < most → Puts d number most (v ∷ []) (set d number v)
puts_word d number most v room below =
    let at : 1 * number ≡ number = omega arith in
    subst (λ (a : ℕ). Puts d number most (v ∷ []) (set d a v)) at (puts_words d number most v [] (omega arith) below)

-- words that are there stay where they are when more come after them
front_stays : (words entry : List ℕ) (k : ℕ) → k < length words → get_or words k 0 ≡ get_or (words ++ entry) k 0
front_stays words entry k h = sym (get_or-append words entry 0 k h)

-- one entry more
pub fronts_more : {d e e' : List ℕ} (w n most : ℕ) (words entry : List ℕ) → length words ≡ w * n → length entry ≡ w
    → Fronts d (w * most) words e → Puts e n most entry e' → Fronts d (w * most) (words ++ entry) e'
fronts_more {d} {e} {e'} w n most words entry long wide f p = by_order n most put left_out
  where
    all : length (words ++ entry) ≡ w * n + w
    all = length-append words entry ∙ omega (arith, long, wide)

    front : (k : ℕ) → k < min (w * most) (length words) → get_or words k 0 ≡ get_or (words ++ entry) k 0
    front k h = front_stays words entry k (omega arith)

    left_out : most ≤ n → Fronts d (w * most) (words ++ entry) e'
    left_out h =
        let past : w * most ≤ w * n = mul-le-mul_left w h in
        subst (Fronts d (w * most) (words ++ entry)) (sym (p.left_out h))
        (leaves_to (omega (arith, past, long, all)) (leaves_as (λ k. get_or (words ++ entry) k 0) front f))

    put : n < most → Fronts d (w * most) (words ++ entry) e'
    put h =
        let below : w * n + w ≤ w * most = entry_below w n most h in
        let so_far : Leaves d 0 (w * n) (λ k. get_or (words ++ entry) k 0) e =
        leaves_to (omega (arith, below, long)) (leaves_as (λ k. get_or (words ++ entry) k 0) front f) in
        let at : length entry * n ≡ 0 + w * n = ap (λ (x : ℕ). x * n) wide ∙ omega arith in
        let new : Leaves e (0 + w * n) w (λ k. get_or entry k 0) e' =
        leaves_to wide (subst (λ (x : ℕ). Leaves e x (length entry) (λ k. get_or entry k 0) e') at (p.put h)) in
        leaves_to (omega (arith, below, all))
        (leaves_join d 0 (w * n) w (λ k. get_or (words ++ entry) k 0) (λ k. get_or entry k 0) e e' so_far new
        (λ k l. sym (get_or-append-add words entry k 0) ∙ ap (λ (x : ℕ). get_or (words ++ entry) (x + k) 0) long))

-- where there is room for all words, all are written, and what lies past them is as it was
pub fronts_all : {d e : List ℕ} (most : ℕ) (words : List ℕ) → length words ≤ most → Fronts d most words e → e ≡ fronted words d
fronts_all most words h f = leaves_over (leaves_to (omega arith) f)

-- where none is to be written, nothing changes
pub fronts_nothing : {d e : List ℕ} (most : ℕ) (words : List ℕ) → most ≡ 0 → Fronts d most words e → e ≡ d
fronts_nothing {d} {e} most words none f = ext_get_or 0 e d f.long (λ i h. f.high i (omega arith))

-- where all entries are over a table's front, entry i has the w words from w i on, and every other word, and the length, is as it was
pub entries_stand : {A : Type 0} (entry : A → List ℕ) (w : ℕ) → ((x : A) → length (entry x) ≡ w) → (xs : List A) (none : A) (d : List ℕ)
    → w * length xs ≤ length d
    → ((i k : ℕ) → i < length xs → k < w → get_or (fronted (in_turn entry xs) d) (w * i + k) 0 ≡ get_or (entry (get_or xs i none)) k 0)
    × ((j : ℕ) → w * length xs ≤ j → get_or (fronted (in_turn entry xs) d) j 0 ≡ get_or d j 0)
    × (length (fronted (in_turn entry xs) d) ≡ length d)
entries_stand entry w wide xs none d room = (
  (λ i k h l.
      let below : w * i + w ≤ w * length xs = entry_below w i (length xs) h in
      over_in (length (in_turn entry xs)) (λ j. get_or (in_turn entry xs) j 0) d (w * i + k) (omega (arith, long, below)) (omega (arith, below))
      ∙ in_turn_at entry w wide xs none i k h l),
  (λ j past. (over_leaves (length (in_turn entry xs)) (λ j. get_or (in_turn entry xs) j 0) d (omega (arith, long))).high j (omega (arith, long))),
  over_long (length (in_turn entry xs)) (λ j. get_or (in_turn entry xs) j 0) d,
)
  where
    long : length (in_turn entry xs) ≡ w * length xs
    long = in_turn_long entry w wide xs
