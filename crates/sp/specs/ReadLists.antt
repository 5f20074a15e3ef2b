-- The two lists of reads, of a file's first n blocks from a on: DS2 has one run, DSS one for each announcing block.
-- Assumes nothing.
use Rattle.std.specs.Prelude.{ℕ, zero, suc, List, [], ◌∷◌, ◌++◌, cond, ltb}
use Rattle.blocks.specs.Headers.{swap_of, first_of, count_of, announced_in}
use Rattle.packets.specs.Start.{dss_start}
use Rattle.sp.specs.declared.Run.{Run}

-- DS2: from place 0, by the first block's flag, as many packets as all blocks announce
abbrev pub ds2_run : List ℕ → ℕ → ℕ → Run
ds2_run f a n = record { start = record { 0 = 0 }; swap = swap_of f a 0; count = announced_in f a n }

abbrev pub ds2_runs : List ℕ → ℕ → ℕ → List Run
ds2_runs f a n = ds2_run f a n ∷ []

-- DSS: a block starts anew at its own start, by its own flag, and has the packets that it announces
abbrev pub dss_run : List ℕ → ℕ → ℕ → Run
dss_run f a b =
    record { start = record { 0 = dss_start b (first_of f a b) (swap_of f a b) }; swap = swap_of f a b; count = count_of f a b }

-- a block, if it announces anything; and all such blocks, by their numbers
abbrev pub if_announcing : List ℕ → ℕ → ℕ → List ℕ
if_announcing f a b = cond (ltb 0 (count_of f a b)) (b ∷ []) []

unfoldable pub announcing : List ℕ → ℕ → ℕ → List ℕ
announcing f a zero = []
announcing f a (suc b) = announcing f a b ++ if_announcing f a b

unfoldable pub runs_of : List ℕ → ℕ → List ℕ → List Run
runs_of f a [] = []
runs_of f a (b ∷ rest) = dss_run f a b ∷ runs_of f a rest

abbrev pub dss_runs : List ℕ → ℕ → ℕ → List Run
dss_runs f a n = runs_of f a (announcing f a n)
