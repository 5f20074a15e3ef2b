-- DSS: the packets of a block are ready together, exactly when every read of that block and of those before it is complete.
-- Assumes nothing.
use Prim.Native.Nat.{ℕ, ◌+◌, ◌*◌, ◌-◌, ◌<◌}
use mathlib.Core.Path.{◌≡◌, sym, ap, ◌∙◌, subst}
use mathlib.Core.List.{List}
use mathlib.Core.Bool.{true}
use native.Mathlib.Omega.{arith}
use borrow.Author.Tests.{le-leb}
use Rattle.tables.proofs.Cases.{by_order}
use Rattle.blocks.specs.Headers.{swap_of, first_of, count_of, announced_in}
use Rattle.blocks.proofs.Headers.{announced_more, announced_upto}
use Rattle.packets.specs.Walk.{Walk, steps, reach, Complete}
use Rattle.packets.proofs.Start.{start_most}
use Rattle.packets.proofs.Walk.{steps_none, steps_more, steps_place}
use Rattle.sp.specs.Runs.{run_begin, carry_past}
use Rattle.sp.specs.ReadLists.{dss_run, dss_runs}
use Rattle.sp.specs.Readings.{CompleteAt}
use Rattle.sp.proofs.ReadLists.{dss_stands}
use Rattle.hold.specs.Ready.{reading_in, ends_at, read_in, front, ready}
use Rattle.hold.proofs.Ready.{dss_ready, dss_exactly, ready_complete}
use Rattle.reader.specs.History.{CompleteUpto}

module _ (f : List ℕ) (a n : ℕ) where
  -- a block whose packets are all complete has been read; a silent block ends where it starts
  block_read : (b : ℕ) → b < n → ((j : ℕ) → j < count_of f a b → CompleteAt (reading_in true f a n) (announced_in f a b + j)) → read_in f a n b ≡ true
  block_read b there all =
      let s = (reading_in true f a n).stream in
      let w = run_begin (carry_past s 0 (dss_runs f a b)) (dss_run f a b) in
      le-leb (ends_at (dss_run f a b)) (506 * n)
      (by_order 0 (count_of f a b)
      (λ some.
      let j : ℕ = count_of f a b - 1 in
      let last : j + 1 ≡ count_of f a b = omega arith in
      let complete : Complete (506 * n) (steps s w j) =
      subst (Complete (506 * n)) (dss_stands s f a n b j there (omega arith)) (all j (omega arith)) in
      let ends = ap (λ (v : Walk). v.place) (sym (steps_more s w j)) ∙ ap (λ (k : ℕ). (steps s w k).place) last in
      omega (arith, complete, ends, steps_place s w (count_of f a b)))
      (λ silent.
      let none : count_of f a b ≡ 0 = omega arith in
      let here = ap (λ (v : Walk). v.place) (steps_none s w) in
      omega
      (arith, start_most b (first_of f a b) (swap_of f a b), steps_place s w 0, here, ap (reach (swap_of f a b)) none)))

  pub block_exactly : (b i : ℕ) → b < n → i < count_of f a b
      → (announced_in f a b + i < ready true f a n → CompleteUpto (reading_in true f a n) f a b)
      × (CompleteUpto (reading_in true f a n) f a b → announced_in f a b + i < ready true f a n)
  block_exactly b i there h = (
    (λ out c j before k.
        let left : b < front f a n =
        by_order b (front f a n) (λ l. l) (λ l. absurd (omega (arith, dss_ready f a n, announced_upto f a (front f a n) b l))) in
        ready_complete f a n true (announced_in f a c + j)
        (omega (arith, dss_ready f a n, announced_more f a c, announced_upto f a (c + 1) (front f a n) (omega arith)))),
    (λ all.
        let left = (dss_exactly f a n b there).1 (λ c before. block_read c (omega arith) (λ j k. all c j before k)) in
        omega (arith, dss_ready f a n, announced_more f a b, announced_upto f a (b + 1) (front f a n) (omega (arith, left)))),
  )
