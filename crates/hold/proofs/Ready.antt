-- Which packets are ready: no more than are announced, each with a complete read; for DS2 in closed form, for DSS block by block.
-- Assumes nothing.
use Prim.Native.Nat.{ℕ, zero, suc, ◌+◌, ◌*◌, ◌-◌, ◌≤◌, ◌<◌, min}
use mathlib.Core.Path.{◌≡◌, refl, sym, ap, ◌∙◌, subst}
use mathlib.Core.List.{List, []}
use mathlib.Core.Bool.{Bool, true, false}
use native.Mathlib.Numerals.{add-one}
use native.Mathlib.Omega.{arith}
use borrow.Author.Tests.{le-leb, leb-true, leb-false}
use Rattle.tables.proofs.Cases.{by_order, by_test, never}
use Rattle.tables.proofs.Leading.{Leads, leading_leads, leads_only}
use Rattle.blocks.specs.Headers.{swap_of, first_of, count_of, announced_in}
use Rattle.blocks.proofs.Headers.{announced_none, announced_more, announced_upto}
use Rattle.packets.specs.Packet.{read_size}
use Rattle.packets.specs.Walk.{Walk, steps, reach, Complete}
use Rattle.packets.proofs.Walk.{steps_more, steps_place, steps_upto}
use Rattle.packets.proofs.Start.{start_most}
use Rattle.sp.specs.declared.Run.{Run}
use Rattle.sp.specs.Runs.{run_begin, carry_past}
use Rattle.sp.specs.ReadLists.{dss_run, dss_runs, ds2_run}
use Rattle.sp.specs.Readings.{total, walk_at, CompleteAt}
use Rattle.sp.proofs.Runs.{stands_first}
use Rattle.sp.proofs.ReadLists.{packets_announced, dss_stands}
use Rattle.sp.proofs.Longer.{complete_before}
use Rattle.hold.specs.Ready.{reading_in, ends_at, is_complete, read_in, front, ready}
use Rattle.hold.specs.Held.{base_at}

pub total_is : (dss : Bool) (f : List ℕ) (a n : ℕ) → total (reading_in dss f a n) ≡ announced_in f a n
total_is dss f a n = packets_announced dss f a n

-- a packet that the blocks announce is a packet of one of them
pub record InBlock (f : List ℕ) (a n k : ℕ) : Type 0 where
  pub block : ℕ
  pub inside : block < n
  pub after : announced_in f a block ≤ k
  pub before : k < announced_in f a block + count_of f a block

pub in_block : (f : List ℕ) (a n k : ℕ) → k < announced_in f a n → InBlock f a n k
in_block f a zero k h = absurd (omega (arith, announced_none f a))
in_block f a (suc n) k h =
    by_order k (announced_in f a n)
    (λ l.
    let v = in_block f a n k l in
    record { block = v.block; inside = omega (arith, v.inside); after = v.after; before = v.before })
    (λ l. record { block = n; inside = omega arith; after = l; before = omega (arith, announced_more f a n, ap (announced_in f a) (add-one n)) })

-- a read of a run that ends inside is complete
pub run_complete : (s : ℕ → ℕ) (carry long : ℕ) (run : Run) (i : ℕ) → i < run.count → ends_at run ≤ long
    → Complete long (steps s (run_begin carry run) i)
run_complete s carry long run i h ends =
    let w = run_begin carry run in
    let next : (steps s w i).place + read_size (steps s w i).swap ≤ (steps s w run.count).place =
    rw steps_more at (steps_upto s w (i + 1) run.count (omega arith)) in
    omega (arith, next, steps_place s w run.count)

-- a walk does not go back, and begins at 0
pub reach_upto : (swap : Bool) (j k : ℕ) → j ≤ k → reach swap j ≤ reach swap k
reach_upto true j k h = omega arith
reach_upto false j k h = omega arith

reach_none : (swap : Bool) (n : ℕ) → reach swap 0 ≤ n
reach_none true n = omega arith
reach_none false n = omega arith

module _ (f : List ℕ) (a n : ℕ) where
  pub front_leads : Leads (read_in f a n) n (front f a n)
  unfolding front
  front_leads = leading_leads (read_in f a n) n

  pub front_within : front f a n ≤ n
  front_within = front_leads.within

  -- DSS: the packets of the blocks that have left
  pub dss_ready : ready true f a n ≡ announced_in f a (front f a n)
  unfolding ready
  dss_ready = refl

  -- a block has left exactly when it and all before it are read
  pub dss_exactly : (b : ℕ) → b < n
      → (b < front f a n → (i : ℕ) → i ≤ b → read_in f a n i ≡ true) × (((i : ℕ) → i ≤ b → read_in f a n i ≡ true) → b < front f a n)
  dss_exactly b h = (
    (λ l i m. front_leads.before i (omega arith)),
    (λ all.
        by_order b (front f a n) (λ l. l)
        (λ l. absurd (never (all (front f a n) l) (front_leads.stops (omega arith))))),
  )

  -- DS2: the walk goes on until a read is not complete
  pub ds2_leads : Leads (is_complete (reading_in false f a n)) (announced_in f a n) (ready false f a n)
  unfolding ready
  ds2_leads = leading_leads (is_complete (reading_in false f a n)) (announced_in f a n)

  -- where a packet's read ends
  pub ds2_next : (k : ℕ) → k < announced_in f a n
      → (walk_at (reading_in false f a n) k).place + read_size (walk_at (reading_in false f a n) k).swap ≡ reach (swap_of f a 0) (k + 1)
  ds2_next k h =
      let s = (reading_in false f a n).stream in
      let w = run_begin 0 (ds2_run f a n) in
      ap (λ (v : Walk). v.place + read_size v.swap) (stands_first s 0 (ds2_run f a n) [] k h)
      ∙ ap (λ (v : Walk). v.place) (sym (steps_more s w k))
      ∙ steps_place s w (k + 1)
      ∙ omega arith

  -- so the packets that are ready are known with no walk
  pub ds2_ready_is : (r : ℕ) → reach (swap_of f a 0) r ≤ 506 * n → 506 * n < reach (swap_of f a 0) (r + 1)
      → ready false f a n ≡ min (announced_in f a n) r
  ds2_ready_is r some no_more =
      leads_only ds2_leads
      (record {
        within = omega arith;
        before = λ i h.
            let in_place = ds2_next i (omega arith) in
            le-leb _ (506 * n) (omega (arith, in_place, reach_upto (swap_of f a 0) (i + 1) r (omega arith)));
        stops = λ h.
            let least : min (announced_in f a n) r ≡ r = omega arith in
            rw least
            (by_test (is_complete (reading_in false f a n) r)
            (λ complete. absurd (omega (arith, leb-true _ (506 * n) complete, ds2_next r (omega arith))))
            (λ cut. cut));
      })

  pub ready_complete : (dss : Bool) (k : ℕ) → k < ready dss f a n → CompleteAt (reading_in dss f a n) k
  ready_complete false k h = leb-true _ (506 * n) (ds2_leads.before k h)
  ready_complete true k h =
      let s = (reading_in true f a n).stream in
      let v = in_block f a (front f a n) k (omega (arith, dss_ready)) in
      let b = v.block in
      let i : ℕ = k - announced_in f a b in
      let number : announced_in f a b + i ≡ k = omega (arith, v.after) in
      let there = dss_stands s f a n b i (omega (arith, v.inside, front_within)) (omega (arith, v.before)) in
      let ends = leb-true _ _ (front_leads.before b v.inside) in
      subst (λ (j : ℕ). CompleteAt (reading_in true f a n) j) number
      (subst (Complete (506 * n)) (sym there) (run_complete s _ (506 * n) (dss_run f a b) i (omega (arith, v.before)) ends))

pub ready_within : (dss : Bool) (f : List ℕ) (a n : ℕ) → ready dss f a n ≤ announced_in f a n
ready_within true f a n = omega (arith, dss_ready f a n, announced_upto f a (front f a n) n (front_within f a n))
ready_within false f a n = (ds2_leads f a n).within

pub ready_none : (dss : Bool) (f : List ℕ) (a : ℕ) → ready dss f a 0 ≡ 0
ready_none dss f a = omega (arith, ready_within dss f a 0, announced_none f a)

module _ (f : List ℕ) (a n : ℕ) where
  -- DS2: a packet is ready exactly when its read is complete
  pub ds2_exactly : (k : ℕ) → k < announced_in f a n
      → (k < ready false f a n → CompleteAt (reading_in false f a n) k) × (CompleteAt (reading_in false f a n) k → k < ready false f a n)
  ds2_exactly k h = (
    ready_complete f a n false k,
    (λ complete.
        by_order k (ready false f a n) (λ l. l)
        (λ l.
        let cut = leb-false _ (506 * n) ((ds2_leads f a n).stops (omega arith)) in
        let whole = complete_before (reading_in false f a n).stream (506 * n) (ds2_run f a n) (ready false f a n) k l h complete in
        absurd (omega (arith, cut, whole)))),
  )

-- the reads of a run that begins inside end inside if they are complete; it may have none
run_ends : (s : ℕ → ℕ) (carry long : ℕ) (run : Run) → run.start.0 ≤ long
    → ((i : ℕ) → i < run.count → Complete long (steps s (run_begin carry run) i)) → ends_at run ≤ long
run_ends s carry long run begins all =
    let w = run_begin carry run in
    by_order 0 run.count
    (λ some.
    let i : ℕ = run.count - 1 in
    let last : i + 1 ≡ run.count = omega arith in
    let past : (steps s w i).place + read_size (steps s w i).swap ≡ (steps s w (i + 1)).place = rw steps_more refl in
    omega (arith, all i (omega arith), past, steps_place s w (i + 1), ap (reach run.swap) last))
    (λ none.
    let silent : run.count ≡ 0 = omega arith in
    omega (arith, begins, reach_none run.swap 0, ap (reach run.swap) silent))

-- where every read is complete, every packet is ready
module _ (f : List ℕ) (a n : ℕ) where
  all_left : ((k : ℕ) → k < announced_in f a n → CompleteAt (reading_in true f a n) k) → front f a n ≡ n
  all_left all =
      let s = (reading_in true f a n).stream in
      let b = front f a n in
      by_order b n
      (λ waits.
      let run = dss_run f a b in
      let carry = carry_past s 0 (dss_runs f a b) in
      let ends =
      run_ends s carry (506 * n) run (omega (arith, waits, start_most b (first_of f a b) (swap_of f a b)))
      (λ i h.
      subst (Complete (506 * n)) (dss_stands s f a n b i waits h)
      (all (announced_in f a b + i) (omega (arith, announced_more f a b, announced_upto f a (b + 1) n (omega arith))))) in
      absurd (omega (arith, ends, leb-false _ (506 * n) ((front_leads f a n).stops waits))))
      (λ none. omega (arith, none, front_within f a n))

  pub all_ready : (dss : Bool) → ((k : ℕ) → k < announced_in f a n → CompleteAt (reading_in dss f a n) k) → ready dss f a n ≡ announced_in f a n
  all_ready true all = dss_ready f a n ∙ ap (announced_in f a) (all_left all)
  all_ready false all =
      by_order (ready false f a n) (announced_in f a n)
      (λ some. absurd (omega (arith, (ds2_exactly f a n (ready false f a n) some).1 (all (ready false f a n) some))))
      (λ none. omega (arith, none, ready_within false f a n))

-- where the hold begins, for either
pub dss_base : (f : List ℕ) (a n : ℕ) → base_at true f a n ≡ 506 * front f a n
unfolding base_at
dss_base f a n = refl

pub ds2_base : (f : List ℕ) (a n : ℕ) → base_at false f a n ≡ reach (swap_of f a 0) (ready false f a n)
unfolding base_at
ds2_base f a n = refl

-- what has been read lies in the blocks
pub base_within : (dss : Bool) (f : List ℕ) (a n : ℕ) → base_at dss f a n ≤ 506 * n
base_within true f a n = omega (arith, dss_base f a n, front_within f a n)
base_within false f a n =
    rw ds2_base
    (by_order 0 (ready false f a n)
    (λ some.
    let k : ℕ = ready false f a n - 1 in
    let last : k + 1 ≡ ready false f a n = omega arith in
    rw (← last) (omega (arith, ds2_next f a n k (omega (arith, ready_within false f a n)), ready_complete f a n false k (omega arith))))
    (λ none. let zero : ready false f a n ≡ 0 = omega arith in rw zero (reach_none (swap_of f a 0) (506 * n))))
