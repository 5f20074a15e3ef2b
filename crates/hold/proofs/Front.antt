-- How many DSS blocks can wait, and so that each fits; and what it means that blocks can be added one after another.
-- Assumes nothing.
use Prim.Native.Nat.{ℕ, ◌+◌, ◌*◌, ◌≤◌, ◌<◌}
use mathlib.Core.Path.{◌≡◌}
use mathlib.Core.List.{List}
use mathlib.Core.Bool.{Bool, true, false}
use native.Mathlib.Omega.{arith}
use borrow.Author.Tests.{le-leb, leb-false, eq-eqb, eqb-true}
use Rattle.tables.proofs.Cases.{by_order}
use Rattle.tables.proofs.Leading.{Leads, leading_leads, leads_only}
use Rattle.blocks.specs.Places.{block_at}
use Rattle.blocks.specs.Headers.{Bytes, swap_of, first_of, count_of}
use Rattle.packets.specs.Walk.{reach}
use Rattle.packets.proofs.Start.{start_most}
use Rattle.sp.specs.ReadLists.{dss_run}
use Rattle.hold.specs.Ready.{ends_at, front}
use Rattle.hold.specs.Held.{base_at, block_fits, fitting, fits}
use Rattle.hold.proofs.Ready.{front_leads, dss_base}

reach_near : (swap : Bool) (k : ℕ) → reach swap k ≤ 41 * k + 1
reach_near true k = omega arith
reach_near false k = omega arith

-- a block's reads end within 10,962 bytes of its payload's start, so no more than 21 blocks wait
pub few_wait : (f : List ℕ) (a n : ℕ) → Bytes f → n ≤ front f a n + 21
few_wait f a n bytes =
    by_order (front f a n) n
    (λ waits.
    let j = front f a n in
    let ends = leb-false (ends_at (dss_run f a j)) (506 * n) ((front_leads f a n).stops waits) in
    omega (arith, ends, start_most j (first_of f a j) (swap_of f a j), reach_near (swap_of f a j) (count_of f a j), bytes (block_at a j + 2)))
    (λ none. omega arith)

pub dss_block_fits : (f : List ℕ) (a b : ℕ) → Bytes f → block_fits true f a b ≡ true
dss_block_fits f a b bytes = le-leb (506 * (b + 1)) (base_at true f a b + 12288) (omega (arith, few_wait f a b bytes, dss_base f a b))

module _ (dss : Bool) (f : List ℕ) (a : ℕ) where
  fitting_leads : (n : ℕ) → Leads (block_fits dss f a) n (fitting dss f a n)
  unfolding fitting
  fitting_leads n = leading_leads (block_fits dss f a) n

  -- all of n blocks can be added exactly when each fits
  pub fits_each : (n : ℕ) → fits dss f a n ≡ true → (b : ℕ) → b < n → block_fits dss f a b ≡ true
  fits_each n all b h = (fitting_leads n).before b (omega (arith, eqb-true (fitting dss f a n) n all))

  pub each_fits : (n : ℕ) → ((b : ℕ) → b < n → block_fits dss f a b ≡ true) → fits dss f a n ≡ true
  each_fits n each =
      eq-eqb (fitting dss f a n) n
      (leads_only (fitting_leads n) (record { within = omega arith; before = each; stops = λ h. absurd (omega arith) }))

-- no DSS block finds the hold full
pub dss_fits : (f : List ℕ) (a n : ℕ) → Bytes f → fits true f a n ≡ true
dss_fits f a n bytes = each_fits true f a n (λ b h. dss_block_fits f a b bytes)
