-- The rules of detection in their own words, as theorems about the definitions: which candidate the scan takes, and which block gives
-- the type. `Taken` and `Typed` are the rules, case by case, and the theorems say that every file is one of the cases. Assumes nothing.
use Prim.Native.Nat.{ℕ, zero, suc, ◌+◌, ◌*◌, ◌-◌, ◌/◌, ◌≤◌, ◌<◌, min}
use mathlib.Core.Path.{◌≡◌, refl, sym, ap, ◌∙◌}
use mathlib.Core.List.{List}
use mathlib.Core.Bool.{false}
use mathlib.Core.Logic.{⊎_elim}
use native.Mathlib.Nat.{not-suc-le-zero}
use native.Mathlib.Omega.{arith}
use lib.ListN.{length, drop}
use Rattle.tables.proofs.Cases.{by_order}
use Rattle.tables.proofs.Search.{First, Top, first_or_none, top_one}
use Rattle.blocks.specs.Places.{whole_blocks}
use Rattle.blocks.specs.Headers.{count_of, type_of}
use Rattle.detect.specs.Start.{score, scan, scanned}
use Rattle.detect.specs.Header.{good_header}
use Rattle.detect.specs.Kinds.{first_type, format_type}
use Rattle.detect.proofs.Start.{ran_none, ran_ends, scan_none, scan_four, scan_better, scan_worse}
use Rattle.detect.proofs.Types.{type_none, type_here, type_later}

-- how many candidates there are, candidate number j, and its score
abbrev pub candidates : List ℕ → ℕ
candidates f = min 0x10000 (length f - 6) / 512

abbrev pub candidate : ℕ → ℕ
candidate j = 512 + 512 * j

abbrev pub score_of : List ℕ → ℕ → ℕ
score_of f j = score f (candidate j)

-- the scan stops at the first place with four good headers; else the best score wins, the earliest on a tie; with none, 0x1000
pub data Taken (f : List ℕ) (a : ℕ) : Type 0 where
  first_with_four : (j : ℕ) → First (score_of f) 4 (candidates f) j → a ≡ candidate j → Taken f a
  best_score : (j : ℕ) → ((i : ℕ) → i < candidates f → score_of f i < 4) → Top (score_of f) (candidates f) j → 0 < score_of f j
      → a ≡ candidate j → Taken f a
  none_good : ((i : ℕ) → i < candidates f → score_of f i ≤ 0) → a ≡ 0x1000 → Taken f a

-- byte 4 of the first whole block with byte 2 above 0, else 0
pub data Typed (f : List ℕ) (a t : ℕ) : Type 0 where
  first_announcing : (b : ℕ) → First (count_of f a) 1 (whole_blocks (length f) a) b → t ≡ type_of f a b → Typed f a t
  all_silent : ((i : ℕ) → i < whole_blocks (length f) a → count_of f a i < 1) → t ≡ 0 → Typed f a t

module _ (f : List ℕ) where
  at_next : (p i : ℕ) → score f (p + 512 * suc i) ≡ score f (p + 512 + 512 * i)
  at_next p i = let e : p + 512 * suc i ≡ p + 512 + 512 * i = omega arith in ap (score f) e

  at_first : (p : ℕ) → score f (p + 512 * 0) ≡ score f p
  at_first p = let e : p + 512 * 0 ≡ p = omega arith in ap (score f) e

  -- a candidate with under four good headers is passed, whether it becomes the best or not
  passing : (k p best most n : ℕ) → score f p < 4 → (most < score f p → scan f k (p + 512) p (score f p) ≡ n)
      → (score f p ≤ most → scan f k (p + 512) best most ≡ n) → scan f (suc k) p best most ≡ n
  passing k p best most n few better worse =
      by_order most (score f p)
      (λ l. scan_better f p best most (suc k) k (score f p) refl refl few l ∙ better l)
      (λ l. scan_worse f p best most (suc k) k (score f p) refl refl few l ∙ worse l)

  stops : (k p best most j : ℕ) → j < k → 4 ≤ score f (p + 512 * j) → ((i : ℕ) → i < j → score f (p + 512 * i) < 4)
      → scan f k p best most ≡ p + 512 * j
  stops zero p best most j h four few = absurd (not-suc-le-zero h)
  stops (suc k) p best most zero h four few =
      scan_four f p best most (suc k) (omega arith) (omega (arith, at_first p)) ∙ omega arith
  stops (suc k) p best most (suc j) h four few =
      let later : (b m : ℕ) → scan f k (p + 512) b m ≡ p + 512 * suc j =
      λ b m.
      stops k (p + 512) b m j (omega arith) (omega (arith, at_next p j)) (λ i l. omega (arith, at_next p i, few (suc i) (omega arith)))
      ∙ omega arith in
      passing k p best most (p + 512 * suc j) (omega (arith, few 0 (omega arith), at_first p)) (λ l. later p (score f p)) (λ l. later best most)

  keeps : (k p best most : ℕ) → ((i : ℕ) → i < k → score f (p + 512 * i) < 4) → ((i : ℕ) → i < k → score f (p + 512 * i) ≤ most)
      → scan f k p best most ≡ best
  keeps zero p best most few no_more = scan_none f p best most 0 refl
  keeps (suc k) p best most few no_more =
      scan_worse f p best most (suc k) k (score f p) refl refl (omega (arith, few 0 (omega arith), at_first p))
      (omega (arith, no_more 0 (omega arith), at_first p))
      ∙ keeps k (p + 512) best most (λ i l. omega (arith, at_next p i, few (suc i) (omega arith)))
      (λ i l. omega (arith, at_next p i, no_more (suc i) (omega arith)))

  takes : (k p best most j : ℕ) → j < k → ((i : ℕ) → i < k → score f (p + 512 * i) < 4) → most < score f (p + 512 * j)
      → ((i : ℕ) → i < j → score f (p + 512 * i) < score f (p + 512 * j))
      → ((i : ℕ) → i < k → score f (p + 512 * i) ≤ score f (p + 512 * j)) → scan f k p best most ≡ p + 512 * j
  takes zero p best most j h few more first best_of = absurd (not-suc-le-zero h)
  takes (suc k) p best most zero h few more first best_of =
      scan_better f p best most (suc k) k (score f p) refl refl (omega (arith, few 0 (omega arith), at_first p)) (omega (arith, more, at_first p))
      ∙ keeps k (p + 512) p (score f p) (λ i l. omega (arith, at_next p i, few (suc i) (omega arith)))
      (λ i l. omega (arith, at_next p i, best_of (suc i) (omega arith), at_first p))
      ∙ omega arith
  takes (suc k) p best most (suc j) h few more first best_of =
      let later : (b m : ℕ) → m < score f (p + 512 + 512 * j) → scan f k (p + 512) b m ≡ p + 512 * suc j =
      λ b m l.
      takes k (p + 512) b m j (omega arith) (λ i s. omega (arith, at_next p i, few (suc i) (omega arith))) l
      (λ i s. omega (arith, at_next p i, at_next p j, first (suc i) (omega arith)))
      (λ i s. omega (arith, at_next p i, at_next p j, best_of (suc i) (omega arith)))
      ∙ omega arith in
      passing k p best most (p + 512 * suc j) (omega (arith, few 0 (omega arith), at_first p))
      (λ l. later p (score f p) (omega (arith, first 0 (omega arith), at_first p, at_next p j)))
      (λ l. later best most (omega (arith, more, at_next p j)))

  pub scan_takes : Taken f (scanned f)
  unfolding scanned
  scan_takes =
      ⊎_elim (λ w. first_with_four w.0 w.1 (stops (candidates f) 512 0x1000 0 w.0 w.1.inside w.1.enough w.1.before))
      (λ few. by_order 0 (candidates f) (some few) (λ h. silence few (λ i l. omega arith)))
      (first_or_none (score_of f) 4 (candidates f))
    where
      silence : ((i : ℕ) → i < candidates f → score_of f i < 4) → ((i : ℕ) → i < candidates f → score_of f i ≤ 0)
          → Taken f (scan f (candidates f) 512 0x1000 0)
      silence few all = none_good all (keeps (candidates f) 512 0x1000 0 few all)

      some : ((i : ℕ) → i < candidates f → score_of f i < 4) → 0 < candidates f → Taken f (scan f (candidates f) 512 0x1000 0)
      some few h =
          let k : ℕ = candidates f - 1 in
          let more : suc k ≡ candidates f = omega arith in
          let w = top_one (score_of f) k in
          let top : Top (score_of f) (candidates f) w.0 = rw more at w.1 in
          by_order 0 (score_of f w.0)
          (λ l.
          best_score w.0 few top l
          (takes (candidates f) 512 0x1000 0 w.0 top.inside few l top.before top.all))
          (λ l. silence few (λ i s. omega (arith, top.all i s)))

  module _ (a : ℕ) where
    from_first : (n b k : ℕ) → k < n → 1 ≤ count_of f a (b + k) → ((i : ℕ) → i < k → count_of f a (b + i) ≤ 0)
        → first_type f a n b ≡ type_of f a (b + k)
    from_first zero b k h some silent = absurd (not-suc-le-zero h)
    from_first (suc n) b zero h some silent =
        let e : b + 0 ≡ b = omega arith in
        type_here f a (suc n) b n refl (rw e at some) ∙ ap (type_of f a) (sym e)
    from_first (suc n) b (suc k) h some silent =
        let e : b + suc k ≡ b + 1 + k = omega arith in
        let z : b + 0 ≡ b = omega arith in
        type_later f a (suc n) b n refl (rw z at (silent 0 (omega arith)))
        ∙ from_first n (b + 1) k (omega arith) (rw e at some)
        (λ i l. let s : b + suc i ≡ b + 1 + i = omega arith in rw s at (silent (suc i) (omega arith)))
        ∙ ap (type_of f a) (sym e)

    from_silence : (n b : ℕ) → ((i : ℕ) → i < n → count_of f a (b + i) ≤ 0) → first_type f a n b ≡ 0
    from_silence zero b s = type_none f a 0 b refl
    from_silence (suc n) b s =
        let z : b + 0 ≡ b = omega arith in
        type_later f a (suc n) b n refl (rw z at (s 0 (omega arith)))
        ∙ from_silence n (b + 1) (λ i l. let e : b + suc i ≡ b + 1 + i = omega arith in rw e at (s (suc i) (omega arith)))

    pub type_takes : Typed f a (format_type f a)
    unfolding format_type
    type_takes =
        ⊎_elim
        (λ w.
        let e : 0 + w.0 ≡ w.0 = omega arith in
        first_announcing w.0 w.1
        (from_first (whole_blocks (length f) a) 0 w.0 w.1.inside (rw (← e) at w.1.enough)
        (λ i l. let z : 0 + i ≡ i = omega arith in rw z (omega (arith, w.1.before i l)))
        ∙ ap (type_of f a) e))
        (λ few.
        all_silent few
        (from_silence (whole_blocks (length f) a) 0 (λ i l. let z : 0 + i ≡ i = omega arith in rw z (omega (arith, few i l)))))
        (first_or_none (count_of f a) 1 (whole_blocks (length f) a))

-- with no good header at any candidate the start is 0x1000
pub none_good_start : (f : List ℕ) → ((j : ℕ) → j < candidates f → good_header (drop (candidate j) f) ≡ false) → scanned f ≡ 0x1000
none_good_start f none = by_rule (scan_takes f)
  where
    no_score : (j : ℕ) → j < candidates f → score_of f j ≡ 0
    no_score j h =
        let place : candidate j ≡ candidate j + 512 * 0 = omega arith in
        ran_ends f (candidate j) 0 (omega arith) (rw place at (none j h)) (ran_none f (candidate j))

    by_rule : Taken f (scanned f) → scanned f ≡ 0x1000
    by_rule (first_with_four j first at) = absurd (not-suc-le-zero (rw (no_score j first.inside) at first.enough))
    by_rule (best_score j few top some at) = absurd (not-suc-le-zero (rw (no_score j top.inside) at some))
    by_rule (none_good all at) = at
