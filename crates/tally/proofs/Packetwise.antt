-- What one run more hands out, after others: packet by packet the bytes of its first n packets, and how many of them are short.
-- Assumes nothing.
use Prim.Native.Nat.{ℕ, zero, suc, ◌+◌, ◌-◌, ◌≤◌, ◌<◌, min}
use mathlib.Core.Path.{◌≡◌, refl, sym, ap, ◌∙◌}
use mathlib.Core.List.{List, [], ◌∷◌, ◌++◌}
use mathlib.Core.Bool.{Bool, true, false, not, cond, ◌&&◌}
use native.Mathlib.Nat.{not-suc-le-zero}
use native.Mathlib.Numerals.{add-one}
use native.Mathlib.Omega.{arith}
use borrow.Author.Tests.{lt-ltb, le-ltb}
use lib.Dec.{ltb}
use Rattle.tables.specs.Table.{table, sum}
use Rattle.tables.specs.Counting.{how_many}
use Rattle.tables.proofs.Cases.{by_order, by_test, never, either_most}
use Rattle.tables.proofs.Counting.{same_many, many_parts}
use Rattle.tables.proofs.Table.{same_table, table_sum_none, table_sum_more, table_sum_parts}
use Rattle.packets.specs.Packet.{read_size, file_count}
use Rattle.packets.specs.Walk.{Walk, step, steps, reach, parity}
use Rattle.packets.proofs.Reaches.{reach_most}
use Rattle.packets.proofs.Walk.{steps_more, steps_place, steps_swap}
use Rattle.sp.specs.declared.Run.{Run}
use Rattle.sp.specs.Runs.{run_begin, packets_in, carry_past}
use Rattle.sp.specs.Readings.{Reading, total, walk_at, file_count_at, CompleteAt}
use Rattle.sp.specs.Whole.{sourced_at, whole_at}
use Rattle.sp.proofs.Runs.{packets_none, packets_of, packets_joined, stands_before, stands_after, stands_first}
use Rattle.sp.proofs.Sourced.{whole_if, short_if_cut, short_if_ours, follower_whole, sourced_same, whole_same}
use Rattle.tally.specs.declared.HandedOut.{HandedOut}
use Rattle.tally.specs.HandedOut.{packets_out}
use Rattle.tally.specs.Inner.{none_out, together, ours_in, by, sourced_past}

-- what has the same three numbers is the same
pub same_numbers : {m m' s s' b b' : ℕ} → m ≡ m' → s ≡ s' → b ≡ b'
    → ◌≡◌ {A = HandedOut} (record { many = m; short = s; bytes = b }) (record { many = m'; short = s'; bytes = b' })
same_numbers many short bytes = cc

pub same_out : (x y : HandedOut) → x.many ≡ y.many → x.short ≡ y.short → x.bytes ≡ y.bytes → x ≡ y
same_out x y many short bytes = same_numbers many short bytes

-- a reading of no packets hands out nothing
pub nothing_out : (reading : Reading) → total reading ≡ 0 → none_out ≡ packets_out reading
unfolding how_many
nothing_out reading none =
    same_out none_out (packets_out reading) (sym none) (rw none) (rw none (sym (table_sum_none (file_count_at reading))))

-- where m reads end within so many bytes and no more, a read before those ends within them, and one after past them
ends_within : (swap : Bool) (m n left : ℕ) → reach swap m ≤ left → n < m → (reach swap (n + 1) ≤ left) × (0 < left)
ends_within true m n left h l = (omega arith, omega arith)
ends_within false m n left h l = (omega arith, omega arith)

ends_past : (swap : Bool) (m n left : ℕ) → left < reach swap (m + 1) → m ≤ n → left < reach swap (n + 1)
ends_past true m n left h l = omega arith
ends_past false m n left h l = omega arith

-- the first packet of a run is ours in part, or is not
pub ours_first : (swap sourced : Bool) → swap ≡ true → sourced ≡ false → (swap && not sourced) ≡ true
ours_first swap sourced p q = rw (p, q)

pub not_ours_sourced : (swap sourced : Bool) → sourced ≡ true → (swap && not sourced) ≡ false
not_ours_sourced true sourced p = rw p
not_ours_sourced false sourced p = refl

pub not_ours_plain : (swap sourced : Bool) → swap ≡ false → (swap && not sourced) ≡ false
not_ours_plain swap sourced p = rw p

pub ours_most : (swap sourced : Bool) (complete : ℕ) → ours_in swap sourced complete ≤ complete
ours_most swap sourced complete =
    by_order 0 complete (λ some. simp (lt-ltb 0 complete some) (either_most (swap && not sourced) (omega arith) (omega arith)))
    (λ none. simp (le-ltb 0 complete none) (omega arith))

pub not_ours : (swap sourced : Bool) (complete : ℕ) → (swap && not sourced) ≡ false → 0 ≡ ours_in swap sourced complete
not_ours swap sourced complete other = by_test (ltb 0 complete) (λ some. simp (some, other)) (λ none. simp none)

-- fewer reads end where less is reached
pub fewer_reach : (swap : Bool) (m n : ℕ) → reach swap m < reach swap n → m < n
fewer_reach true m n h = omega arith
fewer_reach false m n h = omega arith

module _ (s : ℕ → ℕ) (long : ℕ) (runs : List Run) (run : Run) where
  -- the reading with this run, and the number of its first packet
  abbrev pub longer : Reading
  longer = by s long (runs ++ (run ∷ []))

  abbrev first : ℕ
  first = packets_in runs

  pub all_packets : total longer ≡ first + run.count
  all_packets = omega (arith, packets_joined runs (run ∷ []), packets_of run [], packets_none)

  -- the packets before it are as they were
  reads_before : (k : ℕ) → k < first
      → ((walk_at longer k).place ≡ (walk_at (by s long runs) k).place) × ((walk_at longer k).swap ≡ (walk_at (by s long runs) k).swap)
  reads_before k h =
      let same = stands_before s 0 runs (run ∷ []) k h in
      (ap (λ (w : Walk). w.place) same, ap (λ (w : Walk). w.swap) same)

  pub sourced_before : sourced_at longer first ≡ sourced_past s long runs
  sourced_before = sourced_same longer (by s long runs) first refl reads_before first (omega arith)

  -- where packet k of the run stands, begins and ends
  pub stands_there : (k : ℕ) → k < run.count → walk_at longer (first + k) ≡ steps s (run_begin (carry_past s 0 runs) run) k
  stands_there k h = stands_after s 0 runs (run ∷ []) k ∙ stands_first s (carry_past s 0 runs) run [] k h

  pub begins : (k : ℕ) → k < run.count → (walk_at longer (first + k)).place ≡ run.start.0 + reach run.swap k
  begins k h = ap (λ (w : Walk). w.place) (stands_there k h) ∙ steps_place s (run_begin (carry_past s 0 runs) run) k

  pub flagged : (k : ℕ) → k < run.count → (walk_at longer (first + k)).swap ≡ parity run.swap k
  flagged k h = ap (λ (w : Walk). w.swap) (stands_there k h) ∙ steps_swap s (run_begin (carry_past s 0 runs) run) k

  ends : (k : ℕ) → k < run.count
      → (walk_at longer (first + k)).place + read_size (walk_at longer (first + k)).swap ≡ run.start.0 + reach run.swap (k + 1)
  ends k h =
      let w = run_begin (carry_past s 0 runs) run in
      ap (λ (v : Walk). v.place + read_size v.swap) (stands_there k h)
      ∙ ap (λ (v : Walk). v.place) (sym (steps_more s w k))
      ∙ steps_place s w (k + 1)

  -- its first n packets have as many bytes as they take, or as the stream has from the start on
  bytes_upto : (n : ℕ) → n ≤ run.count
      → sum (table n (λ k. file_count_at longer (first + k))) ≡ min (reach run.swap n) (long - run.start.0)
  unfolding file_count
  bytes_upto zero h = omega (arith, table_sum_none (λ k. file_count_at longer (first + k)), reach_most run.swap 0)
  bytes_upto (suc n) h =
      rw (← add-one n)
      (omega (arith, table_sum_more n (λ k. file_count_at longer (first + k)), bytes_upto n (omega arith), begins n h, ends n h))

  -- and all are short but the first m, whose reads end within the stream; and of these the first, if it is swapped and nothing of the file is
  -- carried to it
  module _ (m : ℕ) (upto : m ≤ run.count) (within : reach run.swap m ≤ long - run.start.0)
      (past : m < run.count → long - run.start.0 < reach run.swap (m + 1)) (sourced : Bool) (carried : sourced ≡ sourced_past s long runs) where
    abbrev short_at : ℕ → Bool
    short_at k = not (whole_at longer (first + k))

    complete_before : (k : ℕ) → k < run.count → k < m → CompleteAt longer (first + k)
    complete_before k h l =
        let e = ends_within run.swap m k (long - run.start.0) within l in
        omega (arith, ends k h, e.0, e.1)

    short_after : (k : ℕ) → k < run.count → m ≤ k → whole_at longer (first + k) ≡ false
    short_after k h l =
        short_if_cut longer (first + k)
        (λ complete. omega (arith, complete, ends k h, ends_past run.swap m k (long - run.start.0) (past (omega arith)) l))

    whole_later : (k : ℕ) → suc k < run.count → suc k < m → whole_at longer (first + suc k) ≡ true
    whole_later k h l =
        let w = run_begin (carry_past s 0 runs) run in
        let number : first + suc k ≡ suc (first + k) = omega arith in
        let follows : walk_at longer (suc (first + k)) ≡ step s (walk_at longer (first + k)) =
        ap (walk_at longer) (sym number)
        ∙ stands_there (suc k) h
        ∙ ap (steps s w) (sym (add-one k))
        ∙ steps_more s w k
        ∙ ap (step s) (sym (stands_there k (omega arith))) in
        rw number (follower_whole longer (first + k) follows (rw number at (complete_before (suc k) h l)))

    first_short : 0 < run.count → 0 < m → short_at 0 ≡ (run.swap && not sourced)
    first_short h l =
        let number : first + 0 ≡ first = omega arith in
        let flag : (walk_at longer (first + 0)).swap ≡ run.swap = flagged 0 h in
        let here : sourced_at longer (first + 0) ≡ sourced = ap (sourced_at longer) number ∙ sourced_before ∙ sym carried in
        let complete = complete_before 0 h l in
        by_test run.swap
        (λ swapped.
        by_test sourced
        (λ from_file.
        ap not (whole_if longer (first + 0) complete (λ t. here ∙ from_file)) ∙ sym (not_ours_sourced run.swap sourced from_file))
        (λ not_so.
        ap not (short_if_ours longer (first + 0) (flag ∙ swapped) (here ∙ not_so)) ∙ sym (ours_first run.swap sourced swapped not_so)))
        (λ plain.
        ap not (whole_if longer (first + 0) complete (λ t. absurd (never t (flag ∙ plain)))) ∙ sym (not_ours_plain run.swap sourced plain))

    short_all : m ≡ 0 → (n : ℕ) → n ≤ run.count → how_many n short_at ≡ n
    unfolding how_many
    short_all none zero h = refl
    short_all none (suc n) h =
        let before = short_all none n (omega arith) in
        simp (short_after n h (omega arith)) (omega arith)

    short_some : 0 < m → (n : ℕ) → n < run.count → how_many (suc n) short_at ≡ suc n - min (suc n) m + cond (run.swap && not sourced) 1 0
    unfolding how_many
    short_some some zero h = rw (first_short h some) (omega arith)
    short_some some (suc n) h =
        let before = short_some some n (omega arith) in
        by_order (suc n) m (λ l. simp (whole_later n h l) (omega arith)) (λ l. simp (short_after (suc n) h l) (omega arith))

    short_from : 0 < m → (n : ℕ) → 0 < n → n ≤ run.count
        → how_many n short_at ≡ n - min n m + cond (run.swap && not sourced) 1 0
    short_from some zero h l = absurd (not-suc-le-zero h)
    short_from some (suc n) h l = short_some some n l

    short_upto : how_many run.count short_at ≡ run.count - m + ours_in run.swap sourced m
    unfolding how_many
    short_upto =
        by_order 0 m
        (λ some.
        let all : min run.count m ≡ m = omega arith in
        simp (lt-ltb 0 m some) (rw all at (short_from some run.count (omega arith) (omega arith))))
        (λ none. simp (le-ltb 0 m none) (omega (arith, short_all (omega arith) run.count (omega arith))))

    -- so the whole run adds this
    pub run_adds : (out : HandedOut) → out.many ≡ run.count → out.short ≡ run.count - m + ours_in run.swap sourced m
        → out.bytes ≡ min (reach run.swap run.count) (long - run.start.0)
        → together (packets_out (by s long runs)) out ≡ packets_out longer
    run_adds out many short bytes =
        same_out (together (packets_out (by s long runs)) out) (packets_out longer) (omega (arith, all_packets))
        (rw all_packets
        (omega (arith, many_parts first run.count (λ k. not (whole_at longer k)), shorts_before, short_upto)))
        (rw all_packets
        (omega (arith, table_sum_parts first run.count (file_count_at longer), bytes_before, bytes_upto run.count (omega arith))))
      where
        shorts_before : how_many first (λ k. not (whole_at longer k)) ≡ how_many first (λ k. not (whole_at (by s long runs) k))
        shorts_before =
            same_many first (λ k. not (whole_at longer k)) (λ k. not (whole_at (by s long runs) k))
            (λ k h. ap not (whole_same longer (by s long runs) first refl reads_before k h))

        bytes_before : sum (table first (file_count_at longer)) ≡ sum (table first (file_count_at (by s long runs)))
        bytes_before =
            ap sum
            (same_table first (file_count_at longer) (file_count_at (by s long runs))
            (λ k h. let same = reads_before k h in cc (same.0, same.1)))

-- a run that is read first hands out what it adds to nothing
pub run_alone : (s : ℕ → ℕ) (long : ℕ) (run : Run) (out : HandedOut)
    → together (packets_out (by s long [])) out ≡ packets_out (by s long (run ∷ [])) → out ≡ packets_out (by s long (run ∷ []))
run_alone s long run out adds =
    let none : together none_out out ≡ together (packets_out (by s long [])) out =
    ap (λ (x : HandedOut). together x out) (nothing_out (by s long []) packets_none) in
    same_out out (together none_out out) (omega arith) (omega arith) (omega arith) ∙ none ∙ adds
