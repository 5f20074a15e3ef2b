-- Bytes laid over an output, part after part.
-- Assumes nothing.
use Prim.Native.Nat.{ℕ, ◌+◌, ◌*◌, ◌≤◌}
use mathlib.Core.Path.{◌≡◌, refl, sym, ap, ◌∙◌, subst}
use mathlib.Core.List.{List, [], ◌∷◌, ◌++◌}
use native.Mathlib.Omega.{arith}
use lib.ListN.{length, get_or, set, length-append, get_or-append}
use lib.Seq.{get_or-append-add}
use Rattle.tables.proofs.Lent.{leaves_none, leaves_first, leaves_more, leaves_join, leaves_as, leaves_to}
use Rattle.tables.proofs.Entries.{in_turn_long}
use Rattle.entries.specs.declared.Entry.{Entry}
use Rattle.entries.specs.Words.{word32}
use Rattle.entries.specs.Entries.{entry_by}
use Rattle.entries.specs.Index.{entry_bytes, entries_bytes, front_bytes, index_bytes}
use Rattle.entries.specs.Inner.{Lays}

-- bytes after bytes
pub lays_join : {d e e' : List ℕ} {a b : ℕ} (xs ys : List ℕ) → b ≡ a + length xs → Lays d a xs e → Lays e b ys e' → Lays d a (xs ++ ys) e'
lays_join {d} {e} {e'} {a} {b} xs ys at w v =
    leaves_to (sym (length-append xs ys))
    (leaves_join d a (length xs) (length ys) (λ i. get_or (xs ++ ys) i 0) (λ i. get_or ys i 0) e e'
    (leaves_as (λ i. get_or (xs ++ ys) i 0) (λ i h. sym (get_or-append xs ys 0 i h)) w)
    (subst (λ (p : ℕ). Lays e p ys e') at v) (λ i h. sym (get_or-append-add xs ys i 0)))

-- no bytes
pub lays_none : (d : List ℕ) (a : ℕ) → Lays d a [] d
lays_none d a = leaves_none d a (λ i. get_or [] i 0)

-- a word, byte after byte
pub lays_word : (d : List ℕ) (a n p q r s : ℕ) → a + 4 ≤ length d → p ∷ q ∷ r ∷ s ∷ [] ≡ word32 n
    → Lays d a (word32 n) (set (set (set (set d a p) (a + 1) q) (a + 2) r) (a + 3) s)
lays_word d a n p q r s room is =
    let w : ℕ → ℕ = λ i. get_or (word32 n) i 0 in
    leaves_more d a 3 w _ s (omega arith) (ap (λ (l : List ℕ). get_or l 3 0) is)
    (leaves_more d a 2 w _ r (omega arith) (ap (λ (l : List ℕ). get_or l 2 0) is)
    (leaves_more d a 1 w _ q (omega arith) (ap (λ (l : List ℕ). get_or l 1 0) is)
    (leaves_first d a w p (omega arith) (ap (λ (l : List ℕ). get_or l 0 0) is))))

-- how many bytes entries have, and an index
pub entries_long : (entries : List Entry) → length (entries_bytes entries) ≡ 12 * length entries
entries_long entries = in_turn_long entry_bytes 12 (λ e. refl) entries

pub index_long : (head : List ℕ) (entries : List Entry) → length (index_bytes head entries) ≡ 4 + length head + 12 * length entries
index_long head entries =
    length-append (front_bytes head (length entries)) (entries_bytes entries) ∙ omega (arith, entries_long entries)

-- Twelve bytes of an entry, each another: a number's highest byte stands first.
pub twelve_bytes : entry_bytes (entry_by 0x01020304 0x05060708 0x090A0B0C) ≡ 1 ∷ 2 ∷ 3 ∷ 4 ∷ 5 ∷ 6 ∷ 7 ∷ 8 ∷ 9 ∷ 10 ∷ 11 ∷ 12 ∷ []
twelve_bytes = refl
