-- What a DSS recording hands out, block by block.
-- Assumes nothing.
use Prim.Native.Nat.{ℕ, ◌+◌, ◌*◌, ◌≤◌, ◌<◌}
use mathlib.Core.Path.{◌≡◌, sym, ap, ◌∙◌, subst}
use mathlib.Core.List.{List, [], ◌∷◌, ◌++◌}
use mathlib.Core.Bool.{Bool, false}
use native.Mathlib.Omega.{arith}
use Rattle.tables.proofs.Cases.{by_order}
use Rattle.blocks.specs.Headers.{count_of}
use Rattle.sp.specs.declared.Run.{Run}
use Rattle.sp.specs.Whole.{sourced_at}
use Rattle.sp.specs.ReadLists.{dss_run, dss_runs}
use Rattle.sp.proofs.Runs.{packets_none}
use Rattle.sp.proofs.ReadLists.{runs_none, runs_more, runs_same}
use Rattle.sp.proofs.Sourced.{sourced_none}
use Rattle.tally.specs.declared.HandedOut.{HandedOut}
use Rattle.tally.specs.declared.in_packets.Added.{Added}
use Rattle.tally.specs.HandedOut.{packets_out}
use Rattle.tally.specs.Inner.{none_out, together, by, sourced_past, Adds}
use Rattle.tally.proofs.Packetwise.{same_out, nothing_out}
use Rattle.tally.proofs.Past.{kept_past}

-- past no runs at all nothing is carried
pub none_past : (s : ℕ → ℕ) (long : ℕ) → false ≡ sourced_past s long []
none_past s long = sym (ap (sourced_at (by s long [])) packets_none ∙ sourced_none (by s long []))

-- the first b of a DSS recording's blocks, of 255 packets at most each
module _ (f : List ℕ) (a blocks : ℕ) (s : ℕ → ℕ) (long : ℕ) where
  pub record Runwise (b : ℕ) (out : HandedOut) (sourced : Bool) : Type 0 where
    pub within : b ≤ blocks
    pub out_is : out ≡ packets_out (by s long (dss_runs f a b))
    pub sourced_is : sourced ≡ sourced_past s long (dss_runs f a b)
    pub many_few : out.many ≤ 255 * b
    pub short_few : out.short ≤ 255 * b
    pub bytes_few : out.bytes ≤ 42 * (255 * b)

  pub runs_begin : Runwise 0 none_out false
  runs_begin =
      record {
        within = omega arith;
        out_is = rw (runs_none f a) (nothing_out (by s long []) packets_none);
        sourced_is = rw (runs_none f a) (none_past s long);
        many_few = omega arith;
        short_few = omega arith;
        bytes_few = omega arith;
      }

  -- one block more, which announces packets or none
  pub runs_go_on : (b : ℕ) (run : Run) (out out' : HandedOut) (sourced : Bool) (added : Added) → b < blocks
      → (run ≡ dss_run f a b) × (run.count ≤ 255) → Runwise b out sourced → Adds s long (dss_runs f a b) run added
      → (added.out.many ≡ run.count) × (added.out.short ≤ run.count) × (added.out.bytes ≤ 42 * run.count)
      → out' ≡ together out added.out → Runwise (b + 1) out' added.sourced
  runs_go_on b run out out' sourced added h is v adds few new =
      record {
        within = omega arith;
        out_is = new ∙ by_order 0 (count_of f a b) with_run with_none;
        sourced_is = adds.sourced_is ∙ by_order 0 (count_of f a b) past_run past_none;
        many_few = rw new (omega arith);
        short_few = rw new (omega arith);
        bytes_few = rw new (omega arith);
      }
    where
      with_run : 0 < count_of f a b → together out added.out ≡ packets_out (by s long (dss_runs f a (b + 1)))
      with_run some =
          rw (runs_more f a b some, ← is.0) (ap (λ (x : HandedOut). together x added.out) v.out_is ∙ adds.out_is)

      past_run : 0 < count_of f a b → sourced_past s long (dss_runs f a b ++ (run ∷ [])) ≡ sourced_past s long (dss_runs f a (b + 1))
      past_run some = rw (runs_more f a b some, ← is.0)

      silent : count_of f a b ≤ 0 → run.count ≡ 0
      silent none = omega (arith, ap (λ (u : Run). u.count) is.0)

      with_none : count_of f a b ≤ 0 → together out added.out ≡ packets_out (by s long (dss_runs f a (b + 1)))
      with_none none =
          let count = silent none in
          rw (runs_same f a b none) (same_out (together out added.out) out (omega arith) (omega arith) (omega arith) ∙ v.out_is)

      past_none : count_of f a b ≤ 0 → sourced_past s long (dss_runs f a b ++ (run ∷ [])) ≡ sourced_past s long (dss_runs f a (b + 1))
      past_none none = rw (runs_same f a b none) (kept_past s long (dss_runs f a b) run (silent none))

  pub runs_end : {b : ℕ} {out : HandedOut} {sourced : Bool} → blocks ≤ b → Runwise b out sourced → out ≡ packets_out (by s long (dss_runs f a blocks))
  runs_end {b} {out} {sourced} h v =
      let all : b ≡ blocks = omega (arith, v.within) in
      subst (λ (n : ℕ). out ≡ packets_out (by s long (dss_runs f a n))) all v.out_is
