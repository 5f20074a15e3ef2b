-- A list of runs: in each run packet follows packet from a start, by its own parity, and the carry goes on from run to run.
-- Assumes nothing.
use Rattle.std.specs.Prelude.{ℕ, ◌+◌, ◌-◌, List, [], ◌∷◌, false, cond, ltb}
use Rattle.packets.specs.Walk.{Walk, steps}
use Rattle.sp.specs.declared.Run.{Run}

-- where the walk over a run begins, and where it stands when the run has ended: the place, the carry and the parity reached
abbrev pub run_begin : ℕ → Run → Walk
run_begin carry run = record { place = run.start.0; carry = carry; swap = run.swap }

abbrev pub run_end : (ℕ → ℕ) → ℕ → Run → Walk
run_end s carry run = steps s (run_begin carry run) run.count

-- how many packets the runs have
unfoldable pub packets_in : List Run → ℕ
packets_in [] = 0
packets_in (run ∷ rest) = run.count + packets_in rest

-- where the reading stands before packet k of the runs. There is no packet past the last run, and nothing is asked of it
unfoldable pub stands_at : (ℕ → ℕ) → ℕ → List Run → ℕ → Walk
stands_at s carry [] k = record { place = 0; carry = carry; swap = false }
stands_at s carry (run ∷ rest) k =
    cond (ltb k run.count) (steps s (run_begin carry run) k) (stands_at s (run_end s carry run).carry rest (k - run.count))

-- what is carried on past all the runs
unfoldable pub carry_past : (ℕ → ℕ) → ℕ → List Run → ℕ
carry_past s carry [] = carry
carry_past s carry (run ∷ rest) = carry_past s (run_end s carry run).carry rest
