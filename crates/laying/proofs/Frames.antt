-- In which block frames begin: those that begin before block b are the first so many, those that begin in it follow them, and frames of
-- 12 bytes or more leave few to a block. Assumes nothing.
use Prim.Native.Nat.{ℕ, zero, suc, ◌+◌, ◌*◌, ◌-◌, ◌≤◌, ◌<◌}
use mathlib.Core.Path.{◌≡◌, refl}
use native.Mathlib.Nat.{not-suc-le-zero}
use native.Mathlib.Omega.{arith}
use borrow.Author.Tests.{eq-eqb, ne_eqb, lt-ltb, le-ltb}
use lib.Dec.{ltb, eqb}
use Rattle.tables.specs.Counting.{how_many}
use Rattle.tables.proofs.Counting.{none_such}
use Rattle.tables.proofs.Cases.{by_order, by_equal}
use Rattle.laying.specs.Laid.{Laid, block_of, count_in, first_in}

-- a number lies below b + 1 if it lies below b or is b
below_more : (of : ℕ → ℕ) (n b : ℕ) → how_many n (λ k. ltb (of k) (b + 1)) ≡ how_many n (λ k. ltb (of k) b) + how_many n (λ k. eqb (of k) b)
unfolding how_many
below_more of zero b = omega arith
below_more of (suc n) b =
    let rest = below_more of n b in
    by_order (of n) b
    (λ below.
    let other : of n ≡ b → ⊥ = λ e. omega arith in
    simp (lt-ltb (of n) b below, lt-ltb (of n) (b + 1) (omega arith), ne_eqb (of n) b other) (omega (arith, rest)))
    (λ above.
    by_equal (of n) b
    (λ e. simp (le-ltb (of n) b above, lt-ltb (of n) (b + 1) (omega arith), eq-eqb (of n) b e) (omega (arith, rest)))
    (λ e. simp (le-ltb (of n) b above, le-ltb (of n) (b + 1) (omega arith), ne_eqb (of n) b e) (omega (arith, rest))))

below_all : (of : ℕ → ℕ) (n b : ℕ) → ((k : ℕ) → k < n → of k < b) → how_many n (λ k. ltb (of k) b) ≡ n
unfolding how_many
below_all of zero b all = refl
below_all of (suc n) b all =
    let rest = below_all of n b (λ k h. all k (omega arith)) in
    simp (lt-ltb (of n) b (all n (omega arith))) (omega (arith, rest))

pub first_none : (l : Laid) → first_in l 0 ≡ 0
unfolding first_in
first_none l = none_such l.many (λ k. ltb (block_of l k) 0) (λ k h. le-ltb (block_of l k) 0 (omega arith))

pub first_more : (l : Laid) (b : ℕ) → first_in l (b + 1) ≡ first_in l b + count_in l b
unfolding first_in count_in
first_more l b = below_more (block_of l) l.many b

pub first_all : (l : Laid) (b : ℕ) → ((k : ℕ) → k < l.many → block_of l k < b) → first_in l b ≡ l.many
unfolding first_in
first_all l b all = below_all (block_of l) l.many b all

-- of n numbers, the first m and no others lie below b
pub record Split (of : ℕ → ℕ) (n b m : ℕ) : Type 0 where
  pub few : m ≤ n
  pub below : (j : ℕ) → j < m → of j < b
  pub rest : (j : ℕ) → m ≤ j → j < n → b ≤ of j

module _ (of : ℕ → ℕ) (ascends : (j k : ℕ) → j ≤ k → of j ≤ of k) where
  split : (n b : ℕ) → Split of n b (how_many n (λ k. ltb (of k) b))
  unfolding how_many
  split zero b =
      record { few = omega arith; below = λ j h. absurd (not-suc-le-zero h); rest = λ j h l. absurd (not-suc-le-zero l) }
  split (suc n) b =
      let before : Split of n b (how_many n (λ k. ltb (of k) b)) = split n b in
      by_order (of n) b
      (λ h.
      let all : how_many n (λ k. ltb (of k) b) ≡ n = below_all of n b (λ k l. omega (arith, ascends k n (omega arith))) in
      simp (lt-ltb (of n) b h)
      (record {
        few = omega (arith, all);
        below = λ j l. omega (arith, ascends j n (omega (arith, all)));
        rest = λ j l m. omega (arith, all);
      }))
      (λ h.
      simp (le-ltb (of n) b h)
      (record {
        few = omega (arith, before.few);
        below = λ j l. before.below j (omega arith);
        rest = λ j l m. by_order j n (λ inside. before.rest j (omega arith) inside) (λ last. omega (arith, ascends n j last));
      }))

-- frames that begin one after another, each 12 bytes or more after the one before it
pub record Apart (at : ℕ → ℕ) : Type 0 where
  pub next : (k : ℕ) → at k + 12 ≤ at (suc k)

pub spread : (at : ℕ → ℕ) → Apart at → (j n : ℕ) → at j + 12 * n ≤ at (j + n)
spread at apart j zero = let same : j + 0 ≡ j = omega arith in rw same (omega arith)
spread at apart j (suc n) =
    let later : j + suc n ≡ suc (j + n) = omega arith in
    rw later (omega (arith, spread at apart j n, apart.next (j + n)))

pub ascends : (at : ℕ → ℕ) → Apart at → (j k : ℕ) → j ≤ k → at j ≤ at k
ascends at apart j k h = let to : j + (k - j) ≡ k = omega arith in omega (arith, rw to at (spread at apart j (k - j)))

module _ (l : Laid) (apart : Apart l.at) where
  blocks_ascend : (j k : ℕ) → j ≤ k → block_of l j ≤ block_of l k
  blocks_ascend j k h = omega (arith, ascends l.at apart j k h)

  -- the first so many begin before block b
  pub first_splits : (b : ℕ) → Split (block_of l) l.many b (first_in l b)
  unfolding first_in
  first_splits b = split (block_of l) blocks_ascend l.many b

  -- and the next so many in it
  pub begins_in : (b k : ℕ) → first_in l b ≤ k → k < first_in l b + count_in l b → block_of l k ≡ b
  begins_in b k from to =
      let below : block_of l k < b + 1 = (first_splits (b + 1)).below k (omega (arith, first_more l b)) in
      omega (arith, (first_splits b).rest k from (omega (arith, first_more l b, (first_splits (b + 1)).few)))

  -- so that few do
  pub few_in : (b : ℕ) → count_in l b ≤ 43
  few_in b =
      by_order 43 (count_in l b)
      (λ many.
      omega (arith, begins_in b (first_in l b) (omega arith) (omega arith), begins_in b (first_in l b + 43) (omega arith) (omega arith), spread l.at apart (first_in l b) 43))
      (λ few. few)
