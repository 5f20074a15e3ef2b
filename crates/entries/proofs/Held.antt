-- Lists that are the same; the parts of entries' bytes; and when the rest of an index is the entries, test by test.
-- Assumes nothing.
use Prim.Native.Nat.{ℕ, ◌+◌, ◌*◌, ◌-◌, ◌/◌, ◌%◌, ◌≤◌, ◌<◌, ◌^◌}
use mathlib.Core.Path.{◌≡◌, refl, sym, ap, ◌∙◌}
use mathlib.Core.List.{List, [], ◌∷◌, ◌++◌}
use mathlib.Core.Bool.{Bool, true, false, ◌&&◌}
use native.Mathlib.Omega.{arith}
use borrow.Author.Tests.{eq-eqb, eqb-true, ne_eqb}
use lib.ListN.{length, get_or, take, drop, length-take, length-drop}
use lib.Seq.{ext_get_or, get_or-take, get_or-drop, drop-drop, take-add, take-take}
use lib.Dec.{eqb}
use Rattle.tables.proofs.Cases.{by_order, by_equal, by_test, never}
use Rattle.tables.proofs.Tests.{both_hold}
use Rattle.tables.proofs.Parts.{drop_of_take}
use Rattle.tables.proofs.Entries.{in_turn_at}
use Rattle.tables.proofs.Leading.{Leads, leading_leads, leads_only}
use Rattle.blocks.specs.Headers.{Bytes}
use Rattle.entries.specs.declared.Entry.{Entry}
use Rattle.entries.specs.Words.{word32, word_at}
use Rattle.entries.specs.Entries.{entry_by}
use Rattle.entries.specs.Index.{entry_bytes, entries_bytes}
use Rattle.entries.specs.Held.{same, part, first_wrong}
use Rattle.entries.specs.Inner.{entry_at, entry_place, Fits}
use Rattle.entries.proofs.Words.{word_stands, word_read}
use Rattle.entries.proofs.Laying.{entries_long}

pub same_is : (xs ys : List ℕ) → same xs ys ≡ true → xs ≡ ys
unfolding same
same_is [] [] e = refl
same_is [] (y ∷ ys) e = absurd (never e refl)
same_is (x ∷ xs) [] e = absurd (never e refl)
same_is (x ∷ xs) (y ∷ ys) e =
    let w = both_hold (eqb x y) (same xs ys) e in
    cc (eqb-true x y w.0, same_is xs ys w.1)

same_self : (xs : List ℕ) → same xs xs ≡ true
unfolding same
same_self [] = refl
same_self (x ∷ xs) = simp (eq-eqb x x refl, same_self xs)

pub same_if : (xs ys : List ℕ) → xs ≡ ys → same xs ys ≡ true
same_if xs ys e = rw (← e) (same_self xs)

pub same_not : (xs ys : List ℕ) → (xs ≡ ys → ⊥) → same xs ys ≡ false
same_not xs ys other = by_test (same xs ys) (λ e. absurd (other (same_is xs ys e))) (λ e. e)

-- whether an entry's bytes stand at a place, word by word
module _ (x : List ℕ) (at : ℕ) (entry : Entry) where
  -- the twelve bytes there
  abbrev there : List ℕ
  there = take 12 (drop at x)

  -- are three of four
  in_words : there ≡ take 4 (drop at x) ++ (take 4 (drop (at + 4) x) ++ take 4 (drop (at + 8) x))
  in_words =
      let more : at + 4 + 4 ≡ at + 8 = omega arith in
      take-add 4 8 (drop at x)
      ∙ ap (λ (l : List ℕ). take 4 (drop at x) ++ l)
      (ap (take 8) (drop-drop 4 at x) ∙ take-add 4 4 (drop (at + 4) x)
      ∙ ap (λ (l : List ℕ). take 4 (drop (at + 4) x) ++ take 4 l) (drop-drop 4 (at + 4) x ∙ ap (λ (i : ℕ). drop i x) more))

  word_there : (i : ℕ) → i ≤ 8 → take 4 (drop i there) ≡ take 4 (drop (at + i) x)
  word_there i near =
      ap (take 4) (drop_of_take i 12 (drop at x)) ∙ take-take 4 (12 - i) (drop i (drop at x)) (omega arith) ∙ ap (take 4) (drop-drop i at x)

  pub stands_cut : length x < at + 12 → false ≡ same there (entry_bytes entry)
  stands_cut cut =
      sym (same_not there (entry_bytes entry)
      (λ e. absurd (omega (arith, ap length e, length-take 12 (drop at x), length-drop at x))))

  module _ (room : at + 12 ≤ length x) where
    -- where the entry's bytes stand each of its words is read
    pub word_of : (i n : ℕ) → i ≤ 8 → n < 2 ^ 32 → take 4 (drop i (entry_bytes entry)) ≡ word32 n → there ≡ entry_bytes entry → word_at x (at + i) ≡ n
    word_of i n near small is e =
        word_read x (at + i) n (omega arith) small (sym (word_there i near) ∙ ap (λ (l : List ℕ). take 4 (drop i l)) e ∙ is)

    -- so they do not stand where a word is read otherwise
    pub other_word : (i n m : ℕ) → i ≤ 8 → n < 2 ^ 32 → take 4 (drop i (entry_bytes entry)) ≡ word32 n → m ≡ word_at x (at + i) → (m ≡ n → ⊥)
        → false ≡ same there (entry_bytes entry)
    other_word i n m near small is read other =
        sym (same_not there (entry_bytes entry) (λ e. other (read ∙ word_of i n near small is e)))

    pub all_words : Bytes x → word_at x at ≡ entry.number → word_at x (at + 4) ≡ entry.first → word_at x (at + 8) ≡ entry.place.0
        → true ≡ same there (entry_bytes entry)
    all_words bytes one two three =
        sym (same_if there (entry_bytes entry)
        (in_words
        ∙ cc (
          word_stands x at entry.number (omega arith) bytes one,
          word_stands x (at + 4) entry.first (omega arith) bytes two,
          word_stands x (at + 8) entry.place.0 (omega arith) bytes three,
        )))

    -- so they stand where each word is the entry's, and only there
    pub words_stand : Bytes x → Fits entry
        → (eqb (word_at x at) entry.number && (eqb (word_at x (at + 4)) entry.first && eqb (word_at x (at + 8)) entry.place.0))
        ≡ same there (entry_bytes entry)
    words_stand bytes fits =
        let front : at + 0 ≡ at = omega arith in
        by_equal (word_at x at) entry.number
        (λ one.
        by_equal (word_at x (at + 4)) entry.first
        (λ two.
        by_equal (word_at x (at + 8)) entry.place.0
        (λ three. simp (eq-eqb _ _ one, eq-eqb _ _ two, eq-eqb _ _ three) (all_words bytes one two three))
        (λ not. simp (eq-eqb _ _ one, eq-eqb _ _ two, ne_eqb _ _ not) (other_word 8 entry.place.0 _ (omega arith) fits.place refl refl not)))
        (λ not. simp (eq-eqb _ _ one, ne_eqb _ _ not) (other_word 4 entry.first _ (omega arith) fits.first refl refl not)))
        (λ not.
        simp (ne_eqb _ _ not) (other_word 0 entry.number _ (omega arith) fits.number refl (ap (word_at x) (sym front)) not))

-- the parts of entries' bytes are the entries
pub part_is : (entries : List Entry) (none : Entry) (i : ℕ) → i < length entries → part i (entries_bytes entries) ≡ entry_bytes (get_or entries i none)
part_is entries none i h =
    let long = entries_long entries in
    ext_get_or 0 (part i (entries_bytes entries)) (entry_bytes (get_or entries i none))
    (omega (arith, length-take 12 (drop (12 * i) (entries_bytes entries)), length-drop (12 * i) (entries_bytes entries), long))
    (λ k l.
    let inside : k < 12 = omega (arith, length-take 12 (drop (12 * i) (entries_bytes entries))) in
    get_or-take 12 (drop (12 * i) (entries_bytes entries)) k 0 inside
    ∙ get_or-drop (12 * i) (entries_bytes entries) k 0
    ∙ in_turn_at entry_bytes 12 (λ e. refl) entries none i k h inside)

-- a part of what is left behind a front is what stands at the entry's place
pub part_behind : (x : List ℕ) (front i : ℕ) → part i (drop front x) ≡ take 12 (drop (entry_place front i) x)
part_behind x front i = ap (take 12) (drop-drop (12 * i) front x)

-- an entry read is the entry written, wherever the entries begin
pub entry_read : (entries : List Entry) (none : Entry) (x : List ℕ) (front i : ℕ) → drop front x ≡ entries_bytes entries → i < length entries
    → Fits (get_or entries i none) → entry_at x (entry_place front i) ≡ get_or entries i none
entry_read entries none x front i behind h fits =
    let e = get_or entries i none in
    let at = entry_place front i in
    let bytes : take 12 (drop at x) ≡ entry_bytes e = sym (part_behind x front i) ∙ ap (part i) behind ∙ part_is entries none i h in
    let room : at + 12 ≤ length x = omega (arith, ap length behind, length-drop front x, entries_long entries) in
    let zero : at + 0 ≡ at = omega arith in
    let number : word_at x at ≡ e.number = ap (word_at x) (sym zero) ∙ word_of x at e room 0 e.number (omega arith) fits.number refl bytes in
    let first : word_at x (at + 4) ≡ e.first = word_of x at e room 4 e.first (omega arith) fits.first refl bytes in
    let place : word_at x (at + 8) ≡ e.place.0 = word_of x at e room 8 e.place.0 (omega arith) fits.place refl bytes in
    let fields : entry_at x at ≡ entry_by e.number e.first e.place.0 = cc (number, first, place) in
    fields

module _ (entries : List Entry) (rest : List ℕ) where
  -- part i is the entry's
  abbrev pub right : ℕ → Bool
  right i = same (part i rest) (part i (entries_bytes entries))

  -- the first that is wrong is where the parts cease to be right
  pub wrong_leads : Leads right (length entries) (first_wrong entries rest)
  unfolding first_wrong
  wrong_leads = leading_leads right (length entries)

  pub wrong_is : {j : ℕ} → Leads right (length entries) j → j ≡ first_wrong entries rest
  wrong_is l = leads_only l wrong_leads

  -- what is not right somewhere is not the entries
  pub wrong_not : first_wrong entries rest < length entries → rest ≡ entries_bytes entries → ⊥
  wrong_not h e =
      never (same_if (part (first_wrong entries rest) rest) (part (first_wrong entries rest) (entries_bytes entries)) (ap (part (first_wrong entries rest)) e))
      (wrong_leads.stops h)

  -- what is right everywhere is as long at least
  pub all_long : length entries ≤ first_wrong entries rest → length rest ≤ 12 * length entries → length rest ≡ 12 * length entries
  all_long all most =
      by_order 0 (length entries)
      (λ some.
      let i = length entries - 1 in
      let equal = same_is (part i rest) (part i (entries_bytes entries)) (wrong_leads.before i (omega (arith, all))) in
      omega (
        arith,
        ap length equal,
        length-take 12 (drop (12 * i) rest),
        length-drop (12 * i) rest,
        length-take 12 (drop (12 * i) (entries_bytes entries)),
        length-drop (12 * i) (entries_bytes entries),
        entries_long entries,
        most,
      ))
      (λ none. omega (arith, most))

  -- what is right everywhere, and as long, is the entries
  pub all_right : length entries ≤ first_wrong entries rest → length rest ≡ 12 * length entries → rest ≡ entries_bytes entries
  all_right all long =
      ext_get_or 0 rest (entries_bytes entries) (long ∙ sym (entries_long entries))
      (λ j h.
      let i = j / 12 in
      let k = j % 12 in
      let number : 12 * i + k ≡ j = omega arith in
      let inside : k < 12 = omega arith in
      let equal = same_is (part i rest) (part i (entries_bytes entries)) (wrong_leads.before i (omega (arith, all))) in
      ap (λ (m : ℕ). get_or rest m 0) (sym number)
      ∙ sym (byte_of rest i k inside)
      ∙ ap (λ (l : List ℕ). get_or l k 0) equal
      ∙ byte_of (entries_bytes entries) i k inside
      ∙ ap (λ (m : ℕ). get_or (entries_bytes entries) m 0) number)
    where
      byte_of : (l : List ℕ) (i k : ℕ) → k < 12 → get_or (part i l) k 0 ≡ get_or l (12 * i + k) 0
      byte_of l i k h = get_or-take 12 (drop (12 * i) l) k 0 h ∙ get_or-drop (12 * i) l k 0
