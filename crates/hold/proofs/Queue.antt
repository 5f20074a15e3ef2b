-- DSS: packets of the blocks that wait are handed out of a hold, block by block.
-- Assumes nothing.
use Prim.Native.Nat.{ℕ, ◌+◌, ◌*◌, ◌-◌, ◌^◌, ◌≤◌, ◌<◌, min}
use mathlib.Core.Path.{◌≡◌, refl, sym, ap, ◌∙◌, subst}
use mathlib.Core.List.{List}
use mathlib.Core.Bool.{true}
use native.Mathlib.Omega.{arith}
use lib.ListN.{length}
use Rattle.tables.proofs.Cases.{by_order}
use Rattle.blocks.specs.Places.{stream_at}
use Rattle.blocks.specs.Headers.{swap_of, first_of, count_of, announced_in}
use Rattle.blocks.proofs.Headers.{announced_more, announced_upto}
use Rattle.packets.specs.Walk.{steps}
use Rattle.sp.specs.declared.Run.{Run}
use Rattle.sp.specs.Runs.{run_begin, carry_past}
use Rattle.sp.specs.ReadLists.{dss_run, dss_runs}
use Rattle.sp.specs.Readings.{walk_at}
use Rattle.sp.specs.Inner.{RunWritten}
use Rattle.sp.proofs.ReadLists.{dss_stands}
use Rattle.hold.specs.Ready.{reading_in}
use Rattle.hold.specs.Inner.{part_of, PartWritten, Due}
use Rattle.hold.proofs.Ready.{total_is}
use Rattle.packets.proofs.Reaches.{reach_most}
use Rattle.hold.proofs.Headers.{start_least}
use Rattle.hold.proofs.Partwise.{part_none, part_join, part_of_walk}

-- packets are skipped, and then taken, up to the end of a block that has so many, if more than it has are asked for
past_block : (k at count skip left here some : ℕ) → here ≡ min skip count → some ≡ min (count - here) left → k ≡ at + skip → 0 < left - some
    → k + some ≡ at + count + (skip - here)
past_block k at count skip left here some skipped taken next more =
    by_order skip count (λ h. let all : here ≡ skip = omega arith in omega arith)
    (λ h. let all : here ≡ count = omega arith in let none : some ≡ 0 = omega arith in omega arith)

-- before the i-th block that waits: what is written, and, where packets are left, that the next is so many after the block's first
pub record Queueing (f : List ℕ) (a n j d m number : ℕ) (out counts : List ℕ) (i skip left carried : ℕ) (out' counts' : List ℕ) : Type 0 where
  pub within : left ≤ m
  pub next : 0 < left → announced_in f a j + d + (m - left) ≡ announced_in f a (j + i) + skip
  pub written : PartWritten (reading_in true f a n) (announced_in f a j + d) (m - left) number out out' counts counts' carried

module _ {f : List ℕ} {a n j d m number : ℕ} {out counts : List ℕ} where
  pub queue_begins : {carry : ℕ} → Due (reading_in true f a n) (announced_in f a j + d) m carry number (length out) (length counts)
      → Queueing f a n j d m number out counts 0 d m carry out counts
  queue_begins {carry} due =
      let none : 0 ≡ m - m = omega arith in
      let front : j ≡ j + 0 = omega arith in
      record {
        within = omega arith;
        next = λ h. omega (arith, ap (announced_in f a) front);
        written =
            subst (λ (k : ℕ). PartWritten (reading_in true f a n) (announced_in f a j + d) k number out out counts counts carry) none
            (part_none (reading_in true f a n) (announced_in f a j + d) number carry out counts due.carry_is);
      }

  module _ {i skip left carried : ℕ} {out₁ counts₁ : List ℕ} (q : Queueing f a n j d m number out counts i skip left carried out₁ counts₁) where
    pub queue_ends : left ≤ 0 → PartWritten (reading_in true f a n) (announced_in f a j + d) m number out out₁ counts counts₁ carried
    queue_ends h =
        let all : m - left ≡ m = omega arith in
        subst (λ (k : ℕ). PartWritten (reading_in true f a n) (announced_in f a j + d) k number out out₁ counts counts₁ carried) all q.written

    module _ {carry : ℕ} (due : Due (reading_in true f a n) (announced_in f a j + d) m carry number (length out) (length counts))
        (some_left : 0 < left) where
      -- where packets are left there is a block
      pub block_there : j + i < n
      block_there =
          by_order (j + i) n (λ l. l)
          (λ past.
          absurd (omega (arith, q.next some_left, q.within, due.owed, total_is true f a n, announced_upto f a n (j + i) past)))

      module _ (run part : Run) (here some : ℕ) (run_is : run ≡ dss_run f a (j + i)) (skipped : here ≡ min skip run.count)
          (taken : some ≡ min (run.count - here) left) (part_is : part ≡ part_of run here some) where
        count_is : run.count ≡ count_of f a (j + i)
        count_is = ap (λ (u : Run). u.count) run_is

        -- where some packets of the block are taken, all that are skipped are before them
        stands : (t : ℕ) → t < some
            → walk_at (reading_in true f a n) (announced_in f a j + d + (m - left) + t)
            ≡ steps (stream_at f a n) (run_begin (carry_past (stream_at f a n) 0 (dss_runs f a (j + i))) run) (here + t)
        stands t h =
            let s = stream_at f a n in
            let before = carry_past s 0 (dss_runs f a (j + i)) in
            let place : announced_in f a j + d + (m - left) + t ≡ announced_in f a (j + i) + (here + t) = omega (arith, q.next some_left) in
            ap (walk_at (reading_in true f a n)) place
            ∙ dss_stands s f a n (j + i) (here + t) block_there (omega (arith, count_is))
            ∙ ap (λ (u : Run). steps s (run_begin before u) (here + t)) (sym run_is)

        pub queue_goes_on : {carried' : ℕ} {out₂ counts₂ : List ℕ}
            → RunWritten (stream_at f a n) (506 * n) (run_begin carried part) (number + (m - left)) part.count out₁ out₂ counts₁ counts₂ carried'
            → Queueing f a n j d m number out counts (i + 1) (skip - here) (left - some) carried' out₂ counts₂
        queue_goes_on {carried'} {out₂} {counts₂} r =
            record {
              within = omega (arith, q.within);
              next = λ h.
                  let block : j + i + 1 ≡ j + (i + 1) = omega arith in
                  let ahead = past_block _ (announced_in f a (j + i)) run.count skip left here some skipped taken (q.next some_left) h in
                  omega (arith, ahead, done, announced_more f a (j + i), ap (announced_in f a) block, count_is);
              written =
                  subst (λ (k : ℕ). PartWritten (reading_in true f a n) (announced_in f a j + d) k number out out₂ counts counts₂ carried') done
                  (part_join (reading_in true f a n) (announced_in f a j + d) (m - left) some number (number + (m - left)) carried carried' out out₁ out₂
                  counts counts₁ counts₂ refl q.written more);
            }
          where
            done : m - left + some ≡ m - (left - some)
            done = omega (arith, q.within)

            more : PartWritten (reading_in true f a n) (announced_in f a j + d + (m - left)) some (number + (m - left)) out₁ out₂ counts₁ counts₂ carried'
            more =
                part_of_walk (reading_in true f a n) (run_begin (carry_past (stream_at f a n) 0 (dss_runs f a (j + i))) run) here
                (announced_in f a j + d + (m - left)) some (number + (m - left)) carried carried' out₁ out₂ counts₁ counts₂
                (omega (arith, due.owed, q.within)) q.written.carry_is stands
                (subst
                (λ (u : Run).
                RunWritten (stream_at f a n) (506 * n) (run_begin carried u) (number + (m - left)) u.count out₁ out₂ counts₁ counts₂ carried')
                part_is r)

        -- what is asked before the part is handed out: it begins in the hold, it is near, and there is room
        pub part_asked : run.count ≤ 255 → run.start.0 ≤ 506 * (j + i) + 506 → n ≤ 524288
            → (506 * j ≤ part.start.0)
            × (part.start.0 ≤ 2 ^ 48)
            × (part.count ≤ 2 ^ 48)
            × (42 * (number + (m - left) + part.count) ≤ length out₁)
            × (number + (m - left) + part.count ≤ length counts₁)
        part_asked few start blocks =
            let count : part.count ≡ some = ap (λ (u : Run). u.count) part_is in
            let place = ap (λ (u : Run). u.start.0) part_is in
            let fewer : m - left + part.count ≤ m = omega (arith, q.within) in (
              omega (arith, place, ap (λ (u : Run). u.start.0) run_is, start_least (j + i) (first_of f a (j + i)) (swap_of f a (j + i))),
              omega (arith, place, reach_most run.swap here, block_there),
              omega arith,
              omega (arith, fewer, due.out_room, q.written.packets_are.long),
              omega (arith, fewer, due.counts_room, q.written.counts_are.long),
            )
