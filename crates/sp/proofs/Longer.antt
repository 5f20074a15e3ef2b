-- What a longer file keeps: as long as every read so far is complete, the reading stands where it stands in the longer one.
-- Assumes nothing.
use Prim.Native.Nat.{ℕ, zero, suc, ◌+◌, ◌*◌, ◌-◌, ◌≤◌, ◌<◌}
use mathlib.Core.Path.{◌≡◌, refl, sym, ap, ◌∙◌, subst}
use mathlib.Core.List.{List, [], ◌∷◌, ◌++◌}
use native.Mathlib.Numerals.{add-one}
use native.Mathlib.Nat.{not-suc-le-zero}
use native.Mathlib.Omega.{arith}
use lib.ListN.{length-append}
use Rattle.tables.proofs.Cases.{by_order}
use Rattle.tables.specs.Table.{table}
use Rattle.blocks.specs.Places.{Whole, stream_at}
use Rattle.blocks.specs.Headers.{header_byte, flag_of, count_of, announced_in}
use Rattle.blocks.proofs.Headers.{header_kept, announced_kept, announced_upto}
use Rattle.blocks.proofs.Stream.{longer_agrees}
use Rattle.whole.specs.declared.Recording.{Recording}
use Rattle.whole.specs.Admissions.{recording_at, Sound}
use Rattle.packets.specs.Packet.{read_size}
use Rattle.packets.specs.Walk.{Walk, steps, byte_of, count_at, Complete}
use Rattle.packets.proofs.Walk.{steps_none, steps_more, steps_upto}
use Rattle.packets.proofs.Longer.{Agree, same_at, steps_longer}
use Rattle.sp.specs.declared.Run.{Run}
use Rattle.sp.specs.Runs.{run_begin, run_end, packets_in, stands_at}
use Rattle.sp.specs.ReadLists.{dss_run, dss_runs, ds2_run, ds2_runs}
use Rattle.sp.specs.Readings.{Reading, total, walk_at, CompleteAt, reading_of}
use Rattle.sp.specs.Longer.{SameAt}
use Rattle.sp.proofs.Runs.{stands_first, stands_later, stands_before}
use Rattle.sp.proofs.ReadLists.{runs_none, runs_more, runs_same, runs_go_on, ds2_packets, dss_packets, some_block}

module _ (s t : ℕ → ℕ) (n : ℕ) (agree : Agree s t n) where
  -- a run whose reads are all complete ends alike in both streams
  ends_alike : (w : Walk) (count : ℕ) → ((j : ℕ) → j < count → Complete n (steps s w j)) → steps s w count ≡ steps t w count
  ends_alike w zero all = steps_none s w ∙ sym (steps_none t w)
  ends_alike w (suc m) all =
      let here : (steps s w (m + 1)).place ≤ n = rw steps_more (all m (omega arith)) in
      steps_longer s t n w (suc m) agree (rw (← add-one m) here)

  pub stands_alike : (carry : ℕ) (runs : List Run) (k : ℕ) → k < packets_in runs
      → ((j : ℕ) → j ≤ k → Complete n (stands_at s carry runs j))
      → stands_at s carry runs k ≡ stands_at t carry runs k
  unfolding packets_in
  stands_alike carry [] k h all = absurd (not-suc-le-zero h)
  stands_alike carry (run ∷ rest) k h all =
      by_order k run.count
      (λ m.
      let complete = in_run k (omega arith) m in
      stands_first s carry run rest k m ∙ steps_longer s t n w k agree (omega arith) ∙ sym (stands_first t carry run rest k m))
      (λ m.
      let ended = ends_alike w run.count (λ j l. in_run j (omega arith) l) in
      stands_later s carry run rest k m
      ∙ stands_alike (run_end s carry run).carry rest (k - run.count) (omega arith) (λ j l. after j m l)
      ∙ ap (λ (u : Walk). stands_at t u.carry rest (k - run.count)) ended
      ∙ sym (stands_later t carry run rest k m))
    where
      w : Walk
      w = run_begin carry run

      in_run : (j : ℕ) → j ≤ k → j < run.count → Complete n (steps s w j)
      in_run j l m = subst (Complete n) (stands_first s carry run rest j m) (all j l)

      after : (j : ℕ) → run.count ≤ k → j ≤ k - run.count → Complete n (stands_at s (run_end s carry run).carry rest j)
      after j m l =
          let number : run.count + j - run.count ≡ j = omega arith in
          subst (Complete n)
          (stands_later s carry run rest (run.count + j) (omega arith) ∙ ap (stands_at s (run_end s carry run).carry rest) number)
          (all (run.count + j) (omega arith))

-- one reading extends another: its stream agrees as far as the other's goes, it begins with the same carry, and goes by the same runs as far as
-- they go
pub record Extends (one other : Reading) : Type 0 where
  pub agree : Agree one.stream other.stream one.long
  pub longer : one.long ≤ other.long
  pub more : total one ≤ total other
  pub carried : one.carry ≡ other.carry
  pub runs_alike : (s : ℕ → ℕ) (k : ℕ) → k < total one
      → stands_at s one.carry one.runs k ≡ stands_at s other.carry other.runs k

-- a packet is the same in both if its read, and those of all before it, are complete
pub same_upto : (one other : Reading) → Extends one other → (k : ℕ) → k < total one → ((j : ℕ) → j ≤ k → CompleteAt one j) → SameAt one other k
same_upto one other x k h all =
    let stands = stands_alike one.stream other.stream one.long x.agree one.carry one.runs k h all ∙ x.runs_alike other.stream k h in
    let same = same_at one.stream other.stream one.long other.long (walk_at one k) x.agree x.longer (all k (omega arith)) in
    record {
      there = omega (arith, x.more);
      bytes = same.0 ∙ ap (λ (w : Walk). table 42 (byte_of other.stream w)) stands;
      count = same.1 ∙ ap (count_at other.long) stands;
    }

-- in one run a complete read has only complete ones before it
pub complete_before : (s : ℕ → ℕ) (n : ℕ) (run : Run) (j k : ℕ) → j ≤ k → k < run.count → Complete n (stands_at s 0 (run ∷ []) k)
    → Complete n (stands_at s 0 (run ∷ []) j)
complete_before s n run j k l h complete =
    by_order j k
    (λ less.
    let next : (steps s w j).place + read_size (steps s w j).swap ≤ (steps s w k).place =
    rw steps_more at (steps_upto s w (j + 1) k (omega arith)) in
    let here = subst (Complete n) (stands_first s 0 run [] k h) complete in
    subst (Complete n) (sym (stands_first s 0 run [] j (omega arith))) (omega (arith, next, here)))
    (λ same. let e : k ≡ j = omega arith in subst (λ (i : ℕ). Complete n (stands_at s 0 (run ∷ []) i)) e complete)
  where
    w : Walk
    w = run_begin 0 run

-- the blocks in front are the same in a longer file, and so are their runs
module _ (f p : List ℕ) (a : ℕ) where
  run_kept : (b : ℕ) → Whole f a (b + 1) → dss_run f a b ≡ dss_run (f ++ p) a b
  run_kept b whole =
      cc
      (header_kept f p a b 0 whole (omega arith), header_kept f p a b 1 whole (omega arith), header_kept f p a b 2 whole (omega arith))

  runs_kept : (n : ℕ) → Whole f a n → dss_runs f a n ≡ dss_runs (f ++ p) a n
  runs_kept zero whole = runs_none f a ∙ sym (runs_none (f ++ p) a)
  runs_kept (suc b) whole =
      let here : Whole f a (b + 1) = omega arith in
      let count : count_of f a b ≡ count_of (f ++ p) a b = header_kept f p a b 2 here (omega arith) in
      let before : dss_runs f a b ≡ dss_runs (f ++ p) a b = runs_kept b (omega arith) in
      rw (← add-one b)
      (by_order 0 (count_of f a b)
      (λ h.
      runs_more f a b h
      ∙ ap (λ (runs : List Run). runs ++ (dss_run f a b ∷ [])) before
      ∙ ap (λ (run : Run). dss_runs (f ++ p) a b ++ (run ∷ [])) (run_kept b here)
      ∙ sym (runs_more (f ++ p) a b (omega (arith, count))))
      (λ h. runs_same f a b h ∙ before ∙ sym (runs_same (f ++ p) a b (omega (arith, count)))))

module _ (f p : List ℕ) (a n m : ℕ) (whole : Whole f a n) (more : n ≤ m) where
  announced_more_or_same : announced_in f a n ≤ announced_in (f ++ p) a m
  announced_more_or_same = omega (arith, announced_kept f p a n whole, announced_upto (f ++ p) a n m more)

  of_the_longer : (runs runs' : List Run) → packets_in runs ≡ announced_in f a n → packets_in runs' ≡ announced_in (f ++ p) a m
      → ((s : ℕ → ℕ) (k : ℕ) → k < packets_in runs → stands_at s 0 runs k ≡ stands_at s 0 runs' k)
      → Extends (record { stream = stream_at f a n; long = 506 * n; carry = 0; runs = runs })
      (record { stream = stream_at (f ++ p) a m; long = 506 * m; carry = 0; runs = runs' })
  of_the_longer runs runs' one other alike =
      record {
        agree = λ q h. longer_agrees f p a n m q whole more h;
        longer = omega arith;
        more = omega (arith, one, other, announced_more_or_same);
        carried = refl;
        runs_alike = alike;
      }

  pub dss_extends : Extends (record { stream = stream_at f a n; long = 506 * n; carry = 0; runs = dss_runs f a n })
      (record { stream = stream_at (f ++ p) a m; long = 506 * m; carry = 0; runs = dss_runs (f ++ p) a m })
  dss_extends =
      of_the_longer (dss_runs f a n) (dss_runs (f ++ p) a m) (dss_packets f a n) (dss_packets (f ++ p) a m)
      (λ s k h.
      let rest = runs_go_on (f ++ p) a n (m - n) in
      let number : n + (m - n) ≡ m = omega arith in
      let joined : dss_runs f a n ++ rest.0 ≡ dss_runs (f ++ p) a m =
      ap (λ (runs : List Run). runs ++ rest.0) (runs_kept f p a n whole) ∙ sym rest.1 ∙ ap (dss_runs (f ++ p) a) number in
      sym (stands_before s 0 (dss_runs f a n) rest.0 k h) ∙ ap (λ (runs : List Run). stands_at s 0 runs k) joined)

  pub ds2_extends : Extends (record { stream = stream_at f a n; long = 506 * n; carry = 0; runs = ds2_runs f a n })
      (record { stream = stream_at (f ++ p) a m; long = 506 * m; carry = 0; runs = ds2_runs (f ++ p) a m })
  ds2_extends =
      of_the_longer (ds2_runs f a n) (ds2_runs (f ++ p) a m) (ds2_packets f a n) (ds2_packets (f ++ p) a m)
      (λ s k h.
      let few : k < announced_in f a n = omega (arith, ds2_packets f a n) in
      let some : 1 ≤ n = some_block f a n (λ none. omega arith) in
      let flag : flag_of (header_byte f a 0 0) ≡ flag_of (header_byte (f ++ p) a 0 0) =
      ap flag_of (header_kept f p a 0 0 (omega arith) (omega arith)) in
      stands_first s 0 (ds2_run f a n) [] k few
      ∙ ap (λ (w : Walk). steps s w k) (cc flag)
      ∙ sym (stands_first s 0 (ds2_run (f ++ p) a m) [] k (omega (arith, announced_more_or_same))))

-- of two recordings, one of a file and one of a longer file, whose audio starts at the same place
pub recordings_extend : (f p : List ℕ) (a b : ℕ) (rec rec' : Recording) (runs : List ℕ → ℕ → ℕ → List Run) → recording_at f a ≡ rec → a ≡ b
    → recording_at (f ++ p) b ≡ rec' → Sound f rec → Sound (f ++ p) rec'
    → ((n m : ℕ) → Whole f rec.start.0 n → n ≤ m
    → Extends (record { stream = stream_at f rec.start.0 n; long = 506 * n; carry = 0; runs = runs f rec.start.0 n })
    (record { stream = stream_at (f ++ p) rec.start.0 m; long = 506 * m; carry = 0; runs = runs (f ++ p) rec.start.0 m }))
    → Extends (reading_of f rec runs) (reading_of (f ++ p) rec' runs)
recordings_extend f p a b rec rec' runs one same other here there law =
    let start : rec.start.0 ≡ rec'.start.0 =
    sym (ap (λ (r : Recording). r.start.0) one) ∙ same ∙ ap (λ (r : Recording). r.start.0) other in
    rw (← start)
    (law rec.blocks rec'.blocks here.whole (omega (arith, here.all, there.all, start, length-append f p)))
