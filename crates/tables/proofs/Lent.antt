-- What a call leaves in a lent buffer, element by element and part by part, up to the equation for the whole.
-- Assumes nothing.
use Prim.Native.Nat.{ℕ, ◌+◌, ◌-◌, ◌≤◌, ◌<◌}
use mathlib.Core.Path.{◌≡◌, refl, sym, ap, ◌∙◌, subst}
use mathlib.Core.List.{List}
use mathlib.Core.Bool.{cond}
use native.Mathlib.Nat.{not-suc-le-zero}
use native.Mathlib.Omega.{arith}
use borrow.Author.Tests.{lt-ltb, le-ltb, eq-eqb, ne_eqb}
use lib.ListN.{length, get_or, set, length-set, get_or-eq_default}
use lib.Seq.{get_or-set_same, get_or-set_other}
use lib.Dec.{ltb, eqb}
use Rattle.tables.proofs.Cases.{by_order, by_equal}
use Rattle.tables.specs.Table.{table}
use Rattle.tables.proofs.Table.{length_table, table_at, is_table}
use Rattle.tables.specs.Lent.{Leaves, over}

-- nothing is written yet
pub leaves_none : (d : List ℕ) (a : ℕ) (f : ℕ → ℕ) → Leaves d a 0 f d
leaves_none d a f =
    record { long = refl; new = λ k h. absurd (not-suc-le-zero h); low = λ k h. refl; high = λ k h. refl }

-- one element more
pub leaves_more : (d : List ℕ) (a n : ℕ) (f : ℕ → ℕ) (e : List ℕ) (v : ℕ) → a + n < length d → v ≡ f n → Leaves d a n f e
    → Leaves d a (n + 1) f (set e (a + n) v)
leaves_more d a n f e v room value w =
    record {
      long = length-set e (a + n) v ∙ w.long;
      new = new;
      low = λ k h. get_or-set_other e (a + n) k v 0 (omega arith) ∙ w.low k h;
      high = λ k h. get_or-set_other e (a + n) k v 0 (omega arith) ∙ w.high k (omega arith);
    }
  where
    new : (k : ℕ) → k < n + 1 → get_or (set e (a + n) v) (a + k) 0 ≡ f k
    new k h =
        by_order k n (λ l. get_or-set_other e (a + n) (a + k) v 0 (omega arith) ∙ w.new k l)
        (λ l.
        let last : k ≡ n = omega arith in
        let there : a + n < length e = omega (arith, w.long) in
        ap (λ (j : ℕ). get_or (set e (a + n) v) (a + j) 0) last ∙ get_or-set_same e (a + n) v 0 there ∙ value ∙ ap f (sym last))

-- the same from the front on, where the code has no sum
pub leaves_next : (d : List ℕ) (n : ℕ) (f : ℕ → ℕ) (e : List ℕ) (v : ℕ) → n < length d → v ≡ f n → Leaves d 0 n f e
    → Leaves d 0 (n + 1) f (set e n v)
leaves_next d n f e v room value w =
    let front : 0 + n ≡ n = omega arith in
    subst (λ (j : ℕ). Leaves d 0 (n + 1) f (set e j v)) front (leaves_more d 0 n f e v (omega arith) value w)

-- the first of several
pub leaves_first : (d : List ℕ) (a : ℕ) (f : ℕ → ℕ) (v : ℕ) → a < length d → v ≡ f 0 → Leaves d a 1 f (set d a v)
leaves_first d a f v room value =
    let there : a + 0 ≡ a = omega arith in
    subst (λ (j : ℕ). Leaves d a 1 f (set d j v)) there (leaves_more d a 0 f d v (omega arith) value (leaves_none d a f))

-- a single element
pub leaves_one : (d : List ℕ) (a v : ℕ) → a < length d → Leaves d a 1 (λ k. v) (set d a v)
leaves_one d a v room = leaves_first d a (λ k. v) v room refl

-- a part that follows a part
pub leaves_join : (d : List ℕ) (a m n : ℕ) (f g : ℕ → ℕ) (e e' : List ℕ) → Leaves d a m f e → Leaves e (a + m) n g e'
    → ((k : ℕ) → k < n → g k ≡ f (m + k)) → Leaves d a (m + n) f e'
leaves_join d a m n f g e e' w v values =
    record {
      long = v.long ∙ w.long;
      new = new;
      low = λ k h. v.low k (omega arith) ∙ w.low k h;
      high = λ k h. v.high k (omega arith) ∙ w.high k (omega arith);
    }
  where
    new : (k : ℕ) → k < m + n → get_or e' (a + k) 0 ≡ f k
    new k h =
        by_order k m (λ l. v.low (a + k) (omega arith) ∙ w.new k l)
        (λ l.
        let at : a + m + (k - m) ≡ a + k = omega arith in
        let back : m + (k - m) ≡ k = omega arith in
        ap (λ (j : ℕ). get_or e' j 0) (sym at) ∙ v.new (k - m) (omega arith) ∙ values (k - m) (omega arith) ∙ ap f back)

-- one of the written places is stored again
pub leaves_again : {d e : List ℕ} {a n : ℕ} {f : ℕ → ℕ} (i v : ℕ) → i < n → a + n ≤ length d → Leaves d a n f e
    → Leaves d a n (λ k. cond (eqb k i) v (f k)) (set e (a + i) v)
leaves_again {d} {e} {a} {n} {f} i v inside room w =
    record {
      long = length-set e (a + i) v ∙ w.long;
      new = new;
      low = λ k h. get_or-set_other e (a + i) k v 0 (omega arith) ∙ w.low k h;
      high = λ k h. get_or-set_other e (a + i) k v 0 (omega arith) ∙ w.high k h;
    }
  where
    new : (k : ℕ) → k < n → get_or (set e (a + i) v) (a + k) 0 ≡ cond (eqb k i) v (f k)
    new k h =
        by_equal k i
        (λ q.
        let there : a + i < length e = omega (arith, w.long) in
        ap (λ (j : ℕ). get_or (set e (a + i) v) (a + j) 0) q ∙ get_or-set_same e (a + i) v 0 there ∙ simp (eq-eqb k i q))
        (λ q. get_or-set_other e (a + i) (a + k) v 0 (omega arith) ∙ w.new k h ∙ simp (ne_eqb k i q))

-- the same values under another name
pub leaves_as : {d e : List ℕ} {a n : ℕ} {f : ℕ → ℕ} (g : ℕ → ℕ) → ((k : ℕ) → k < n → f k ≡ g k) → Leaves d a n f e → Leaves d a n g e
leaves_as g same w = record { long = w.long; new = λ k h. w.new k h ∙ same k h; low = w.low; high = w.high }

-- the same at an equal number
pub leaves_to : {d e : List ℕ} {a m n : ℕ} {f : ℕ → ℕ} → m ≡ n → Leaves d a m f e → Leaves d a n f e
leaves_to {d} {e} {a} {m} {n} {f} q w = subst (λ (i : ℕ). Leaves d a i f e) q w

-- what stands at a written place, from the front on
pub leaves_at : {d e : List ℕ} {n : ℕ} {f : ℕ → ℕ} → Leaves d 0 n f e → (k : ℕ) → k < n → get_or e k 0 ≡ f k
leaves_at {d} {e} w k h = let front : k ≡ 0 + k = omega arith in ap (λ (j : ℕ). get_or e j 0) front ∙ w.new k h

-- a part that is written again
pub leaves_twice : {d e e' : List ℕ} {a n : ℕ} {f g : ℕ → ℕ} → Leaves d a n f e → Leaves e a n g e' → Leaves d a n g e'
leaves_twice w v =
    record {
      long = v.long ∙ w.long;
      new = v.new;
      low = λ k h. v.low k h ∙ w.low k h;
      high = λ k h. v.high k h ∙ w.high k h;
    }

-- what stands outside the part
pub leaves_kept : {d e : List ℕ} {a n : ℕ} {f : ℕ → ℕ} → Leaves d a n f e → (x : ℕ) → (a ≤ x → x < a + n → ⊥) → get_or e x 0 ≡ get_or d x 0
leaves_kept {d} {e} {a} {n} w x outside =
    by_order x a (λ low. w.low x low) (λ from. by_order x (a + n) (λ inside. absurd (outside from inside)) (λ high. w.high x high))

-- a list that is written to its end is the function's table
pub leaves_table : (n : ℕ) {d e : List ℕ} {f : ℕ → ℕ} → length d ≡ n → Leaves d 0 n f e → e ≡ table n f
leaves_table n {d} {e} {f} long w = is_table n f e (w.long ∙ long) (λ k h. leaves_at w k h)

-- from the relation to the equation
pub leaves_over : {d e : List ℕ} {n : ℕ} {f : ℕ → ℕ} → Leaves d 0 n f e → e ≡ over n f d
unfolding over
leaves_over {d} {e} {n} {f} w =
    is_table (length d) (λ k. cond (ltb k n) (f k) (get_or d k 0)) e w.long
    (λ k h.
    by_order k n (λ l. leaves_at w k l ∙ simp (lt-ltb k n l)) (λ l. w.high k (omega arith) ∙ simp (le-ltb k n l)))

pub over_long : (n : ℕ) (f : ℕ → ℕ) (d : List ℕ) → length (over n f d) ≡ length d
unfolding over
over_long n f d = length_table (length d) _

pub over_in : (n : ℕ) (f : ℕ → ℕ) (d : List ℕ) (k : ℕ) → k < n → k < length d → get_or (over n f d) k 0 ≡ f k
unfolding over
over_in n f d k h l = table_at (length d) _ k l ∙ simp (lt-ltb k n h)

pub over_past : (n : ℕ) (f : ℕ → ℕ) (d : List ℕ) (k : ℕ) → n ≤ k → k < length d → get_or (over n f d) k 0 ≡ get_or d k 0
unfolding over
over_past n f d k h l = table_at (length d) _ k l ∙ simp (le-ltb k n h)

-- and from the equation back to the relation, where the list has so many places
pub over_leaves : (n : ℕ) (f : ℕ → ℕ) (d : List ℕ) → n ≤ length d → Leaves d 0 n f (over n f d)
over_leaves n f d room =
    record {
      long = over_long n f d;
      new = λ k h. let front : 0 + k ≡ k = omega arith in rw front (over_in n f d k h (omega arith));
      low = λ k h. absurd (not-suc-le-zero h);
      high = λ k h.
          by_order k (length d) (λ l. over_past n f d k (omega arith) l)
          (λ l. get_or-eq_default (over n f d) 0 (omega (arith, over_long n f d)) ∙ sym (get_or-eq_default d 0 l));
    }
