-- The lists of reads block by block; and that they have as many packets as the blocks announce.
-- Assumes nothing.
use Prim.Native.Nat.{ℕ, zero, suc, ◌+◌, ◌-◌, ◌≤◌, ◌<◌}
use mathlib.Core.Path.{◌≡◌, refl, sym, ap, ◌∙◌}
use mathlib.Core.List.{List, [], ◌∷◌, ◌++◌, append_assoc, append-nil}
use mathlib.Core.Bool.{Bool, true, false, cond}
use native.Mathlib.Numerals.{add-one}
use native.Mathlib.Omega.{arith}
use borrow.Author.Tests.{lt-ltb, le-ltb}
use Rattle.tables.proofs.Cases.{by_order}
use Rattle.blocks.specs.Headers.{swap_of, first_of, count_of, announced_in}
use Rattle.blocks.proofs.Headers.{announced_more}
use Rattle.packets.specs.Start.{dss_start}
use Rattle.packets.specs.Walk.{steps}
use Rattle.sp.specs.declared.Run.{Run}
use Rattle.sp.specs.Runs.{run_begin, packets_in, stands_at, carry_past}
use Rattle.sp.specs.ReadLists.{dss_run, announcing, runs_of, dss_runs, ds2_runs}
use Rattle.sp.proofs.Runs.{packets_none, packets_of, packets_joined, stands_first, stands_after}

-- a run made of a block's fields
pub run_is : (f : List ℕ) (a b byte1 place count : ℕ) (swap : Bool) → byte1 ≡ first_of f a b → swap ≡ swap_of f a b
    → place ≡ dss_start b byte1 swap → count ≡ count_of f a b
    → record { start = record { 0 = place }; swap = swap; count = count } ≡ dss_run f a b
run_is f a b byte1 place count swap first flag there many = cc (first, flag, there, many)

runs_joined : (f : List ℕ) (a : ℕ) (xs ys : List ℕ) → runs_of f a (xs ++ ys) ≡ runs_of f a xs ++ runs_of f a ys
unfolding runs_of
runs_joined f a [] ys = refl
runs_joined f a (b ∷ rest) ys = ap (λ (runs : List Run). dss_run f a b ∷ runs) (runs_joined f a rest ys)

pub runs_none : (f : List ℕ) (a : ℕ) → dss_runs f a 0 ≡ []
unfolding runs_of announcing
runs_none f a = refl

-- an announcing block adds its run, a silent one nothing
pub runs_more : (f : List ℕ) (a b : ℕ) → 0 < count_of f a b → dss_runs f a (b + 1) ≡ dss_runs f a b ++ (dss_run f a b ∷ [])
unfolding announcing runs_of
runs_more f a b h =
    ap (dss_runs f a) (add-one b) ∙ simp (lt-ltb 0 (count_of f a b) h) (runs_joined f a (announcing f a b) (b ∷ []))

pub runs_same : (f : List ℕ) (a b : ℕ) → count_of f a b ≤ 0 → dss_runs f a (b + 1) ≡ dss_runs f a b
unfolding announcing
runs_same f a b h =
    ap (dss_runs f a) (add-one b) ∙ simp (le-ltb 0 (count_of f a b) h) (ap (runs_of f a) (append-nil (announcing f a b)))

-- the runs of more blocks go on from those of fewer
pub runs_go_on : (f : List ℕ) (a n k : ℕ) → (rest : List Run) × (dss_runs f a (n + k) ≡ dss_runs f a n ++ rest)
runs_go_on f a n zero = ([], ap (dss_runs f a) front ∙ sym (append-nil (dss_runs f a n)))
  where
    front : n + 0 ≡ n
    front = omega arith
runs_go_on f a n (suc k) =
    let before = runs_go_on f a n k in
    let number : n + suc k ≡ (n + k) + 1 = omega arith in
    rw number
    (by_order 0 (count_of f a (n + k))
    (λ h. (
      before.0 ++ (dss_run f a (n + k) ∷ []),
      runs_more f a (n + k) h ∙ ap (λ (runs : List Run). runs ++ (dss_run f a (n + k) ∷ [])) before.1
          ∙ append_assoc (dss_runs f a n) before.0 (dss_run f a (n + k) ∷ []),
    ))
    (λ h. (before.0, runs_same f a (n + k) h ∙ before.1)))

-- as many packets as the blocks announce
pub dss_packets : (f : List ℕ) (a n : ℕ) → packets_in (dss_runs f a n) ≡ announced_in f a n
unfolding announced_in
dss_packets f a zero = rw (runs_none f a) packets_none
dss_packets f a (suc b) =
    let more : announced_in f a (b + 1) ≡ announced_in f a b + count_of f a b = announced_more f a b in
    rw (← add-one b)
    (by_order 0 (count_of f a b)
    (λ h.
    let one : packets_in (dss_run f a b ∷ []) ≡ count_of f a b + packets_in [] = packets_of (dss_run f a b) [] in
    rw (runs_more f a b h) (omega (arith, packets_joined (dss_runs f a b) (dss_run f a b ∷ []), dss_packets f a b, one, packets_none)))
    (λ h. rw (runs_same f a b h) (omega (arith, dss_packets f a b))))

pub ds2_packets : (f : List ℕ) (a n : ℕ) → packets_in (ds2_runs f a n) ≡ announced_in f a n
unfolding packets_in
ds2_packets f a n = omega arith

pub packets_announced : (dss : Bool) (f : List ℕ) (a n : ℕ) → packets_in (cond dss dss_runs ds2_runs f a n) ≡ announced_in f a n
packets_announced true f a n = dss_packets f a n
packets_announced false f a n = ds2_packets f a n

-- where a packet is announced there is a block
pub some_block : (f : List ℕ) (a n : ℕ) → (announced_in f a n ≡ 0 → ⊥) → 1 ≤ n
unfolding announced_in
some_block f a zero some = absurd (some refl)
some_block f a (suc n) some = omega arith

-- packet i of block b is the announced sum before the block, and i; the block goes on with what the runs before it carried
pub dss_stands : (s : ℕ → ℕ) (f : List ℕ) (a n b i : ℕ) → b < n → i < count_of f a b
    → stands_at s 0 (dss_runs f a n) (announced_in f a b + i) ≡ steps s (run_begin (carry_past s 0 (dss_runs f a b)) (dss_run f a b)) i
dss_stands s f a n b i there h =
    let run = dss_run f a b in
    let rest = runs_go_on f a (b + 1) (n - (b + 1)) in
    let blocks : b + 1 + (n - (b + 1)) ≡ n = omega arith in
    let all : dss_runs f a n ≡ dss_runs f a b ++ (run ∷ rest.0) =
    ap (dss_runs f a) (sym blocks) ∙ rest.1 ∙ ap (λ (runs : List Run). runs ++ rest.0) (runs_more f a b (omega arith))
    ∙ append_assoc (dss_runs f a b) (run ∷ []) rest.0 in
    ap (λ (runs : List Run). stands_at s 0 runs (announced_in f a b + i)) all
    ∙ ap (λ (m : ℕ). stands_at s 0 (dss_runs f a b ++ (run ∷ rest.0)) (m + i)) (sym (dss_packets f a b))
    ∙ stands_after s 0 (dss_runs f a b) (run ∷ rest.0) i
    ∙ stands_first s (carry_past s 0 (dss_runs f a b)) run rest.0 i h
