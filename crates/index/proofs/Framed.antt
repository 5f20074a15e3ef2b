-- The length field of an index, test by test; and the index of any head, which is framed, and is all that is framed so.
-- Assumes nothing.
use Prim.Native.Nat.{ℕ, ◌+◌, ◌*◌, ◌-◌, ◌≤◌, ◌<◌, ◌^◌}
use mathlib.Core.Path.{◌≡◌, sym, ap, ◌∙◌}
use mathlib.Core.List.{List, ◌++◌, append_assoc}
use mathlib.Core.Bool.{true, false, ◌&&◌}
use native.Mathlib.Omega.{arith}
use borrow.Author.Tests.{le-leb, lt-leb, lt-ltb, le-ltb, eq-eqb, leb-true, ltb-true, eqb-true}
use lib.ListN.{length, get_or, take, drop, length-take, length-drop, length-append, take-append-drop, get_or-append}
use lib.Seq.{drop-drop}
use lib.Dec.{eqb, leb, ltb}
use Rattle.tables.proofs.Tests.{both_hold}
use Rattle.blocks.specs.Headers.{Bytes}
use Rattle.entries.specs.declared.Entry.{Entry}
use Rattle.entries.specs.Words.{word32, word_at}
use Rattle.entries.specs.Index.{entries_bytes, front_bytes, index_bytes}
use Rattle.entries.proofs.Words.{word_back, word_stands}
use Rattle.entries.proofs.Laying.{entries_long, index_long}
use Rattle.index.specs.Reading.{framed}
use Rattle.index.specs.Unreadable.{HasLength}

-- by the tests of the code
module _ (x : List ℕ) where
  pub framed_cut : length x < 4 → false ≡ framed x
  unfolding framed
  framed_cut h = simp (lt-leb 4 (length x) h)

  pub framed_empty : (follow : ℕ) → 4 ≤ length x → follow ≡ word_at x 0 → follow ≡ 0 → false ≡ framed x
  unfolding framed
  framed_empty follow h is none = simp (le-leb 4 (length x) h, le-ltb 0 (word_at x 0) (omega arith))

  pub framed_so : (follow : ℕ) → 4 ≤ length x → follow ≡ word_at x 0 → (follow ≡ 0 → ⊥) → eqb follow (length x - 4) ≡ framed x
  unfolding framed
  framed_so follow h is some =
      let above : 0 < word_at x 0 = omega arith in
      rw is (simp (le-leb 4 (length x) h, lt-ltb 0 (word_at x 0) above))

  -- what it says, and that it says no more
  pub has_length : framed x ≡ true → HasLength x
  unfolding framed
  has_length e =
      let one = both_hold (leb 4 (length x)) (ltb 0 (word_at x 0) && eqb (word_at x 0) (length x - 4)) e in
      let two = both_hold (ltb 0 (word_at x 0)) (eqb (word_at x 0) (length x - 4)) one.1 in
      record {
        there = leb-true 4 (length x) one.0;
        some = ltb-true 0 (word_at x 0) two.0;
        follow = eqb-true (word_at x 0) (length x - 4) two.1;
      }

  pub with_length : HasLength x → framed x ≡ true
  unfolding framed
  with_length h =
      simp (le-leb 4 (length x) h.there, lt-ltb 0 (word_at x 0) h.some, eq-eqb (word_at x 0) (length x - 4) h.follow)

  pub framed_says : framed x ≡ true → (5 ≤ length x) × (word_at x 0 ≡ length x - 4)
  framed_says e =
      let h = has_length e in
      (omega (arith, h.there, h.some, h.follow), h.follow)

module _ (head : List ℕ) (entries : List Entry) where
  -- bytes that are framed, have this head and then these entries, are the index
  pub is_index : (x : List ℕ) → Bytes x → framed x ≡ true → take (length head) (drop 4 x) ≡ head → drop (4 + length head) x ≡ entries_bytes entries
      → x ≡ index_bytes head entries
  is_index x bytes frame named rest =
      let says = framed_says x frame in
      let headed : length head ≤ length x - 4 = omega (arith, ap length named, length-take (length head) (drop 4 x), length-drop 4 x) in
      let size : word_at x 0 ≡ length head + 12 * length entries =
      omega (arith, says.0, says.1, headed, ap length rest, length-drop (4 + length head) x, entries_long entries) in
      let word : take 4 x ≡ word32 (length head + 12 * length entries) = word_stands x 0 _ (omega (arith, says.0)) bytes size in
      let behind : drop 4 x ≡ head ++ entries_bytes entries =
      sym (take-append-drop (length head) (drop 4 x)) ∙ cc (named, drop-drop (length head) 4 x, rest) in
      sym (take-append-drop 4 x) ∙ cc (word, behind) ∙ sym (append_assoc (word32 (length head + 12 * length entries)) head (entries_bytes entries))

  -- and the index is framed, if its length fits four bytes
  pub framed_built : 0 < length head → length head + 12 * length entries < 2 ^ 32 → framed (index_bytes head entries) ≡ true
  framed_built some few =
      let x : List ℕ = index_bytes head entries in
      let n : ℕ = length head + 12 * length entries in
      let long = index_long head entries in
      let size : word_at x 0 ≡ n = word_back x 0 n few first in
      let there : 4 ≤ length x = omega (arith, long) in
      let above : 0 < word_at x 0 = omega (arith, size) in
      let follow : word_at x 0 ≡ length x - 4 = omega (arith, size, long) in
      with_length x (record { there = there; some = above; follow = follow })
    where
      first : (k : ℕ) → k < 4 → get_or (index_bytes head entries) (0 + k) 0 ≡ get_or (word32 (length head + 12 * length entries)) k 0
      first k h =
          let front : 0 + k ≡ k = omega arith in
          rw front
          (get_or-append (front_bytes head (length entries)) (entries_bytes entries) 0 k (omega (arith, length-append (word32 (length head + 12 * length entries)) head))
          ∙ get_or-append (word32 (length head + 12 * length entries)) head 0 k h)
