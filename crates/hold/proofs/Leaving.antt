-- Blocks that leave, one after another: all so far are read, and the first that is not is the front.
-- Assumes nothing.
use Prim.Native.Nat.{ℕ, ◌+◌, ◌*◌, ◌-◌, ◌≤◌, ◌<◌}
use mathlib.Core.Path.{◌≡◌, sym, ap, ◌∙◌}
use mathlib.Core.List.{List}
use mathlib.Core.Bool.{true, false}
use native.Mathlib.Omega.{arith}
use borrow.Author.Tests.{le-leb, lt-leb}
use Rattle.tables.proofs.Cases.{by_order}
use Rattle.tables.proofs.Leading.{leads_only}
use Rattle.blocks.specs.Headers.{count_of, announced_in}
use Rattle.blocks.proofs.Headers.{announced_more}
use Rattle.sp.specs.declared.Run.{Run}
use Rattle.sp.specs.ReadLists.{dss_run}
use Rattle.hold.specs.Ready.{ends_at, read_in, front}
use Rattle.hold.specs.Held.{headers_from}
use Rattle.hold.proofs.Ready.{front_leads}

-- every block below b is read in n blocks
abbrev pub ReadBelow : List ℕ → ℕ → ℕ → ℕ → Type 0
ReadBelow f a n b = (i : ℕ) → i < b → read_in f a n i ≡ true

module _ (waiting : List ℕ) (j n : ℕ) where
  -- after so many blocks, which have so many packets
  pub record Leaving (blocks packets : ℕ) : Type 0 where
    pub within : j + blocks ≤ n
    pub few : packets ≤ 255 * blocks
    pub counted : (f : List ℕ) (a : ℕ) → waiting ≡ headers_from f a n j → announced_in f a j + packets ≡ announced_in f a (j + blocks)
    pub read : (f : List ℕ) (a : ℕ) → waiting ≡ headers_from f a n j → ReadBelow f a n j → ReadBelow f a n (j + blocks)

  pub leaving_begins : j ≤ n → Leaving 0 0
  leaving_begins h =
      let none : j ≡ j + 0 = omega arith in
      record {
        within = omega arith;
        few = omega arith;
        counted = λ f a is. omega (arith, ap (announced_in f a) none);
        read = λ f a is below i l. below i (omega arith);
      }

  module _ (blocks packets : ℕ) (so_far : Leaving blocks packets) where
    -- the next block's run is that of its header
    module _ (run : Run)
        (run_is : (f : List ℕ) (a m k : ℕ) → waiting ≡ headers_from f a m k → k + blocks ≡ j + blocks → j + blocks < m → run ≡ dss_run f a (j + blocks))
        (there : blocks < n - j) where
      block_is : (f : List ℕ) (a : ℕ) → waiting ≡ headers_from f a n j → run ≡ dss_run f a (j + blocks)
      block_is f a is = run_is f a n j is (omega arith) (omega arith)

      pub leaving_goes_on : run.count ≤ 255 → ends_at run ≤ 506 * n → Leaving (blocks + 1) (packets + run.count)
      leaving_goes_on small ends =
          let next : j + blocks + 1 ≡ j + (blocks + 1) = omega arith in
          record {
            within = omega arith;
            few = omega (arith, so_far.few);
            counted = λ f a is.
                let count : run.count ≡ count_of f a (j + blocks) = ap (λ (u : Run). u.count) (block_is f a is) in
                omega (arith, so_far.counted f a is, count, announced_more f a (j + blocks), ap (announced_in f a) next);
            read = λ f a is below i l.
                by_order i (j + blocks) (so_far.read f a is below i)
                (λ last.
                let here : j + blocks ≡ i = omega arith in
                ap (read_in f a n) (sym here) ∙ le-leb (ends_at (dss_run f a (j + blocks))) (506 * n) (omega (arith, ap ends_at (block_is f a is))));
          }

      -- and a read that ends past them stops the block
      pub not_read : 506 * n < ends_at run → (f : List ℕ) (a : ℕ) → waiting ≡ headers_from f a n j → read_in f a n (j + blocks) ≡ false
      not_read ends f a is = lt-leb (ends_at (dss_run f a (j + blocks))) (506 * n) (omega (arith, ap ends_at (block_is f a is)))

    -- where the first that is not read is come to, or none is left, that is the front
    pub leaving_ends : (j + blocks < n → (f : List ℕ) (a : ℕ) → waiting ≡ headers_from f a n j → read_in f a n (j + blocks) ≡ false)
        → (blocks ≤ n - j)
        × ((f : List ℕ) (a : ℕ) → waiting ≡ headers_from f a n j → ReadBelow f a n j
        → (j + blocks ≡ front f a n) × (announced_in f a j + packets ≡ announced_in f a (front f a n)))
    leaving_ends stops = (
      omega (arith, so_far.within),
      (λ f a is below.
          let end : j + blocks ≡ front f a n =
          leads_only (record { within = so_far.within; before = so_far.read f a is below; stops = λ h. stops h f a is }) (front_leads f a n) in
          (end, so_far.counted f a is ∙ ap (announced_in f a) end)),
    )
