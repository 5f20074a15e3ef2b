-- A DSS reading block by block: what is written, and what is carried, after the first b blocks.
-- Assumes nothing.
use Prim.Native.Nat.{ℕ, ◌+◌, ◌^◌, ◌≤◌, ◌<◌}
use mathlib.Core.Path.{◌≡◌, sym, ap, ◌∙◌, subst}
use mathlib.Core.List.{List, [], ◌∷◌, ◌++◌}
use native.Mathlib.Omega.{arith}
use Rattle.tables.proofs.Cases.{by_order}
use Rattle.blocks.specs.Headers.{swap_of, first_of, count_of, announced_in}
use Rattle.blocks.proofs.Headers.{announced_more, announced_upto}
use Rattle.packets.proofs.Start.{start_most}
use Rattle.packets.specs.Walk.{Walk, steps}
use Rattle.packets.proofs.Walk.{steps_none}
use Rattle.sp.specs.declared.Run.{Run}
use Rattle.sp.specs.Runs.{run_begin, run_end, packets_in, carry_past}
use Rattle.sp.specs.ReadLists.{dss_run, dss_runs}
use Rattle.sp.specs.Written.{Written}
use Rattle.sp.specs.Inner.{RunWritten}
use Rattle.sp.proofs.Runs.{packets_none, packets_of, packets_joined, carry_none, carry_joined, carry_one}
use Rattle.sp.proofs.ReadLists.{runs_none, runs_more, runs_same, dss_packets}
use Rattle.sp.proofs.Written.{by, written_none, written_without, written_more}

-- a block starts near enough
pub block_near : (f : List ℕ) (a b : ℕ) (run : Run) → b ≤ 2 ^ 32 → run ≡ dss_run f a b → run.start.0 ≤ 2 ^ 48
block_near f a b run few is = omega (arith, ap (λ (u : Run). u.start.0) is, start_most b (first_of f a b) (swap_of f a b))

module _ (f : List ℕ) (a blocks : ℕ) (s : ℕ → ℕ) (long : ℕ) (out counts : List ℕ) where
  -- what the runs so far have written and carry on
  pub record After (runs : List Run) (first carry : ℕ) (out' counts' : List ℕ) : Type 0 where
    pub so_far : first ≡ packets_in runs
    pub carried : carry ≡ carry_past s 0 runs
    pub written : Written (by s long 0 out counts runs) out out' counts counts'

  after_none : After [] 0 0 out counts
  after_none =
      record { so_far = sym packets_none; carried = sym (carry_none s 0); written = written_none s long 0 out counts }

  -- one block more, which announces packets or none
  module _ (b first carry carry' : ℕ) (out₁ out₂ counts₁ counts₂ : List ℕ) (v : After (dss_runs f a b) first carry out₁ counts₁)
      (r : RunWritten s long (run_begin carry (dss_run f a b)) first (count_of f a b) out₁ out₂ counts₁ counts₂ carry') where
    with_run : After (dss_runs f a b ++ (dss_run f a b ∷ [])) (first + count_of f a b) carry' out₂ counts₂
    with_run =
        let run = dss_run f a b in
        let runs = dss_runs f a b in
        record {
          so_far = omega (arith, v.so_far, packets_joined runs (run ∷ []), packets_of run [], packets_none);
          carried =
              r.carry_is
              ∙ ap (λ (c : ℕ). (run_end s c run).carry) v.carried
              ∙ sym (carry_joined s 0 runs (run ∷ []) ∙ carry_one s (carry_past s 0 runs) run);
          written =
              written_more s long 0 out counts runs run out₁ out₂ counts₁ counts₂ first carry' v.so_far v.written
              (subst (λ (c : ℕ). RunWritten s long (run_begin c run) first (count_of f a b) out₁ out₂ counts₁ counts₂ carry') v.carried r);
        }

    -- a silent block's run has no packets, and carries on what it was given
    with_none : count_of f a b ≤ 0 → After (dss_runs f a b) (first + count_of f a b) carry' out₂ counts₂
    with_none none =
        let w = run_begin carry (dss_run f a b) in
        let zero : count_of f a b ≡ 0 = omega arith in
        record {
          so_far = omega (arith, v.so_far);
          carried =
              r.carry_is
              ∙ ap (λ (k : ℕ). (steps s w k).carry) zero
              ∙ ap (λ (u : Walk). u.carry) (steps_none s w)
              ∙ v.carried;
          written = written_without s long 0 out out₂ counts counts₂ (dss_runs f a b) (dss_run f a b) none with_run.written;
        }

    one_more : After (dss_runs f a (b + 1)) (first + count_of f a b) carry' out₂ counts₂
    one_more = by_order 0 (count_of f a b) (λ h. rw (runs_more f a b h) with_run) (λ h. rw (runs_same f a b h) (with_none h))

  -- the first b of the blocks
  pub record Blockwise (b first carry : ℕ) (out' counts' : List ℕ) : Type 0 where
    pub within : b ≤ blocks
    pub done : After (dss_runs f a b) first carry out' counts'

  pub blocks_begin : Blockwise 0 0 0 out counts
  blocks_begin = record { within = omega arith; done = rw (runs_none f a) after_none }

  pub blocks_go_on : (b first carry carry' : ℕ) (run : Run) (out₁ out₂ counts₁ counts₂ : List ℕ) → b < blocks → run ≡ dss_run f a b
      → Blockwise b first carry out₁ counts₁
      → RunWritten s long (run_begin carry run) first run.count out₁ out₂ counts₁ counts₂ carry'
      → Blockwise (b + 1) (first + run.count) carry' out₂ counts₂
  blocks_go_on b first carry carry' run out₁ out₂ counts₁ counts₂ h is v r =
      record {
        within = omega arith;
        done =
            rw is
            (one_more b first carry carry' out₁ out₂ counts₁ counts₂ v.done
            (subst (λ (u : Run). RunWritten s long (run_begin carry u) first u.count out₁ out₂ counts₁ counts₂ carry') is r));
      }

  -- a block's packets find room where all do
  pub block_fits_lem : (b first carry : ℕ) (run : Run) (out' counts' : List ℕ) → b < blocks → run ≡ dss_run f a b
      → Blockwise b first carry out' counts' → first + run.count ≤ announced_in f a blocks
  block_fits_lem b first carry run out' counts' h is v =
      omega
      (arith, v.done.so_far, dss_packets f a b, ap (λ (u : Run). u.count) is, announced_more f a b, announced_upto f a (b + 1) blocks (omega arith))

  pub blocks_end : {b first carry : ℕ} {out' counts' : List ℕ} → blocks ≤ b → Blockwise b first carry out' counts'
      → Written (by s long 0 out counts (dss_runs f a blocks)) out out' counts counts'
  blocks_end {b} {first} {carry} {out'} {counts'} h v =
      let all : b ≡ blocks = omega (arith, v.within) in
      subst (λ (n : ℕ). Written (by s long 0 out counts (dss_runs f a n)) out out' counts counts') all v.done.written
