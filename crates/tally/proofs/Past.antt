-- Whether what is carried past a run came from the file, by the last unswapped read in it; and so all that a run adds.
-- Assumes nothing.
use Prim.Native.Nat.{ℕ, zero, suc, ◌+◌, ◌*◌, ◌-◌, ◌≤◌, ◌<◌}
use mathlib.Core.Path.{◌≡◌, refl, sym, ap, ◌∙◌}
use mathlib.Core.List.{List, [], ◌∷◌, ◌++◌}
use mathlib.Core.Bool.{Bool, true, false, cond}
use native.Mathlib.Omega.{arith}
use borrow.Author.Tests.{lt-ltb, eq-eqb, ne_eqb, not-true}
use lib.Dec.{ltb}
use Rattle.tables.proofs.Cases.{by_order, by_equal, by_test}
use Rattle.tables.proofs.Tests.{same_tests}
use Rattle.packets.specs.Walk.{reach, parity}
use Rattle.packets.specs.Inner.{upto_unswapped}
use Rattle.packets.proofs.Reaches.{reach_most}
use Rattle.packets.proofs.Walk.{parity_flips, reach_more}
use Rattle.packets.proofs.Unswapped.{upto_none, upto_plain, upto_swapped}
use Rattle.sp.specs.declared.Run.{Run}
use Rattle.sp.specs.Runs.{packets_in}
use Rattle.sp.specs.Readings.{walk_at}
use Rattle.sp.specs.Whole.{sourced_at}
use Rattle.sp.proofs.Sourced.{sourced_anew, sourced_kept}
use Rattle.tally.specs.declared.in_packets.Added.{Added}
use Rattle.tally.specs.Inner.{past_by, adds_by, sourced_past, Adds}
use Rattle.tally.proofs.Packetwise.{ours_most, longer, all_packets, sourced_before, begins, flagged, run_adds}

-- what adds the same three numbers and carries on alike is the same
pub same_added : {many short short' bytes bytes' : ℕ} {sourced sourced' : Bool} → short ≡ short' → bytes ≡ bytes' → sourced ≡ sourced'
    → ◌≡◌ {A = Added} (record { out = record { many = many; short = short; bytes = bytes }; sourced = sourced })
    (record { out = record { many = many; short = short'; bytes = bytes' }; sourced = sourced' })
same_added p q r = cc

-- there are some if there is an unswapped one, be it the first or the second, and they do not go further than all
upto_least : (swap : Bool) (count : ℕ) → count - 1 ≤ upto_unswapped swap count
upto_least swap count = by_test (parity swap count) (λ t. rw t (omega arith)) (λ t. rw t (omega arith))

upto_some : (swap : Bool) (count : ℕ) → cond swap 1 0 < count → 0 < upto_unswapped swap count
upto_some true count more = omega (arith, upto_least true count)
upto_some false count more =
    by_order 1 count (λ two. omega (arith, upto_least false count)) (λ few. let one : count ≡ 1 = omega arith in rw one (omega arith))

upto_few : (swap : Bool) (count : ℕ) → count ≤ cond swap 1 0 → upto_unswapped swap count ≡ 0
upto_few true count few =
    by_order 0 count (λ some. let one : count ≡ 1 = omega arith in rw one) (λ none. let zero_count : count ≡ 0 = omega arith in rw zero_count)
upto_few false count few = let none : count ≡ 0 = omega arith in rw none (upto_none false)

upto_within : (swap : Bool) (count : ℕ) → reach swap (upto_unswapped swap count) ≤ reach swap count
upto_within swap count = by_test (parity swap count) (λ t. rw t (omega arith)) (λ t. rw t (less swap))
  where
    less : (swap : Bool) → reach swap (count - 1) ≤ reach swap count
    less true = omega arith
    less false = omega arith

-- if no fewer bytes are left than the reads take, an unswapped one is enough, and without one it is as before
pub past_more : (swap : Bool) (count left : ℕ) (sourced : Bool) → cond swap 1 0 < count → reach swap count ≤ left
    → true ≡ past_by swap count left sourced
past_more swap count left sourced more all =
    let reads = upto_unswapped swap count in
    let some : reads ≡ 0 → ⊥ = λ none. omega (arith, upto_some swap count more) in
    simp (ne_eqb reads 0 some) (sym (lt-ltb (reach swap reads) (left + 2) (omega (arith, upto_within swap count))))

pub past_few : (swap : Bool) (count left : ℕ) (sourced : Bool) → count ≤ cond swap 1 0 → sourced ≡ past_by swap count left sourced
past_few swap count left sourced few = simp (eq-eqb (upto_unswapped swap count) 0 (upto_few swap count few))

module _ (s : ℕ → ℕ) (long : ℕ) (runs : List Run) (run : Run) where
  -- after an unswapped read: its byte 40 is the last but one
  after_unswapped : (k : ℕ) → k < run.count → parity run.swap k ≡ false
      → sourced_at (longer s long runs run) (suc (packets_in runs + k)) ≡ ltb (reach run.swap (suc k)) (long - run.start.0 + 2)
  after_unswapped k h plain =
      let r = longer s long runs run in
      let place = begins s long runs run k h in
      let far : reach run.swap (suc k) ≡ reach run.swap k + 42 = reach_more run.swap k ∙ rw plain in
      sourced_anew r (packets_in runs + k) (flagged s long runs run k h ∙ plain)
      ∙ same_tests ((walk_at r (packets_in runs + k)).place + 40) long (reach run.swap (suc k)) (long - run.start.0 + 2)
      (λ l. omega (arith, place, far)) (λ l. omega (arith, place, far))

  -- without packets what was carried into the run
  pub kept_past : run.count ≡ 0 → sourced_past s long (runs ++ (run ∷ [])) ≡ sourced_past s long runs
  kept_past none =
      let all : packets_in (runs ++ (run ∷ [])) ≡ packets_in runs = omega (arith, all_packets s long runs run) in
      ap (sourced_at (longer s long runs run)) all ∙ sourced_before s long runs run

  -- by how many reads there are up to the last unswapped one
  abbrev PastBy : ℕ → Type 0
  PastBy reads =
      (reads ≡ 0 → sourced_past s long (runs ++ (run ∷ [])) ≡ sourced_past s long runs)
      × (0 < reads → sourced_past s long (runs ++ (run ∷ [])) ≡ ltb (reach run.swap reads) (long - run.start.0 + 2))

  -- the run's last packet is packet n, and unswapped; or swapped, so that the one before it is not, if there is one
  last_plain : (n : ℕ) → run.count ≡ suc n → parity run.swap n ≡ false → PastBy (suc n)
  last_plain n count plain =
      let r = longer s long runs run in
      let all : packets_in (runs ++ (run ∷ [])) ≡ suc (packets_in runs + n) = omega (arith, all_packets s long runs run) in
      ((λ e. absurd (omega arith)), (λ e. ap (sourced_at r) all ∙ after_unswapped n (omega arith) plain))

  last_swapped : (n : ℕ) → run.count ≡ suc n → parity run.swap n ≡ true → PastBy n
  last_swapped n count swapped =
      let r = longer s long runs run in
      let all : packets_in (runs ++ (run ∷ [])) ≡ suc (packets_in runs + n) = omega (arith, all_packets s long runs run) in
      before n (omega arith) swapped
      (ap (sourced_at r) all ∙ sourced_kept r (packets_in runs + n) (flagged s long runs run n (omega arith) ∙ swapped))
    where
      before : (n : ℕ) → n < run.count → parity run.swap n ≡ true
          → sourced_past s long (runs ++ (run ∷ [])) ≡ sourced_at (longer s long runs run) (packets_in runs + n) → PastBy n
      before zero h swapped kept =
          let number : packets_in runs + 0 ≡ packets_in runs = omega arith in (
            (λ e. kept ∙ ap (sourced_at (longer s long runs run)) number ∙ sourced_before s long runs run),
            (λ e. absurd (omega arith)),
          )
      before (suc m) h swapped kept =
          let number : packets_in runs + suc m ≡ suc (packets_in runs + m) = omega arith in
          let plain : parity run.swap m ≡ false = not-true (parity run.swap m) (sym (parity_flips run.swap m) ∙ swapped) in (
            (λ e. absurd (omega arith)),
            (λ e. kept ∙ ap (sourced_at (longer s long runs run)) number ∙ after_unswapped m (omega arith) plain),
          )

  past_by_lem : PastBy (upto_unswapped run.swap run.count)
  past_by_lem = of_count run.count refl
    where
      of_count : (n : ℕ) → run.count ≡ n → PastBy (upto_unswapped run.swap n)
      of_count zero none = ((λ e. kept_past none), (λ some. absurd (omega (arith, upto_none run.swap))))
      of_count (suc n) count =
          by_test (parity run.swap n)
          (λ swapped. rw (upto_swapped run.swap n swapped) (last_swapped n count swapped))
          (λ plain. rw (upto_plain run.swap n plain) (last_plain n count plain))

  -- What a run adds of which so many reads are complete, by what was carried into it.
  pub adds_by_lem : (sourced : Bool) → sourced ≡ sourced_past s long runs → (m : ℕ) → m ≤ run.count → reach run.swap m ≤ long - run.start.0
      → (m < run.count → long - run.start.0 < reach run.swap (m + 1))
      → Adds s long runs run (adds_by run.swap run.count m (long - run.start.0) sourced)
  adds_by_lem sourced carried m upto within past =
      let reads = upto_unswapped run.swap run.count in
      record {
        out_is = run_adds s long runs run m upto within past sourced carried _ refl refl refl;
        sourced_is =
            by_equal reads 0
            (λ none. simp (eq-eqb reads 0 none) (carried ∙ sym (past_by_lem.0 none)))
            (λ some. simp (ne_eqb reads 0 some) (sym (past_by_lem.1 (omega arith))));
      }

-- And it is no more than the run has.
pub run_added : (run : Run) (long : ℕ) (sourced : Bool) (added : Added) (m : ℕ)
    → added ≡ adds_by run.swap run.count m (long - run.start.0) sourced → m ≤ run.count → reach run.swap m ≤ long - run.start.0
    → (m < run.count → long - run.start.0 < reach run.swap (m + 1))
    → ((s : ℕ → ℕ) (runs : List Run) → sourced ≡ sourced_past s long runs → Adds s long runs run added)
    × ((added.out.many ≡ run.count) × (added.out.short ≤ run.count) × (added.out.bytes ≤ 42 * run.count))
run_added run long sourced added m is upto within past = (
  (λ s runs carried. rw is (adds_by_lem s long runs run sourced carried m upto within past)),
  rw is (
    refl,
    omega (arith, ours_most run.swap sourced m),
    omega (arith, reach_most run.swap run.count),
  ),
)
