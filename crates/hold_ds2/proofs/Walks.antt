-- DS2: a part of the one walk is handed out of a hold. How far it can be, and what is then written of the reading.
-- Assumes nothing.
use Prim.Native.Nat.{ℕ, ◌+◌, ◌*◌, ◌≤◌, ◌<◌}
use mathlib.Core.Path.{◌≡◌, sym, ap, ◌∙◌, subst}
use mathlib.Core.List.{List, []}
use mathlib.Core.Bool.{Bool, false}
use native.Mathlib.Omega.{arith}
use Rattle.tables.proofs.Cases.{by_equal}
use Rattle.blocks.specs.Places.{stream_at}
use Rattle.blocks.specs.Headers.{swap_of, flag_of, announced_in}
use Rattle.packets.specs.Walk.{steps, reach}
use Rattle.sp.specs.declared.Run.{Run}
use Rattle.sp.specs.Runs.{run_begin}
use Rattle.sp.specs.ReadLists.{ds2_run}
use Rattle.sp.specs.Readings.{walk_at}
use Rattle.sp.specs.Inner.{RunWritten}
use Rattle.sp.proofs.Runs.{stands_first}
use Rattle.sp.proofs.ReadLists.{some_block}
use Rattle.hold.specs.Ready.{reading_in}
use Rattle.hold.specs.Inner.{Holds, part_of, PartWritten, Walking}
use Rattle.hold.proofs.Ready.{total_is}
use Rattle.packets.proofs.Reaches.{reach_most}
use Rattle.blocks.proofs.Headers.{announced_most}
use Rattle.hold.proofs.Partwise.{part_of_walk}

module _ {n k m number : ℕ} {hold : List ℕ} {place first carry o c : ℕ} (g : Walking n k m number hold place first carry o c) where
  owed : k + m ≤ announced_in g.f g.a n
  owed = omega (arith, g.due.owed, total_is false g.f g.a n)

  pub walk_near : k + m ≤ 255 * 524288
  walk_near = omega (arith, owed, announced_most g.f g.a n g.bytes, g.few)

  -- where there is a block the parity is its flag, and where there is none nothing is owed
  module _ (swap : Bool) (flag : swap ≡ flag_of first) where
    swap_is : 0 < n → swap ≡ swap_of g.f g.a 0
    swap_is some = flag ∙ ap flag_of (g.first_is some)

    pub walk_begun : place ≤ reach swap k
    walk_begun =
        by_equal (announced_in g.f g.a n) 0 (λ none. omega (arith, owed, g.begun, reach_most (swap_of g.f g.a 0) k))
        (λ some. rw (swap_is (some_block g.f g.a n some)) g.begun)

    stands : (t : ℕ) → t < m
        → walk_at (reading_in false g.f g.a n) (k + t) ≡ steps (stream_at g.f g.a n) (record { place = 0; carry = 0; swap = swap }) (k + t)
    stands t h =
        let some = some_block g.f g.a n (λ none. omega (arith, owed)) in
        stands_first (stream_at g.f g.a n) 0 (ds2_run g.f g.a n) [] (k + t) (omega (arith, owed))
        ∙ ap (λ (s : Bool). steps (stream_at g.f g.a n) (record { place = 0; carry = 0; swap = s }) (k + t)) (sym (swap_is some))

    pub walk_written : (part : Run) (carry' : ℕ) (out out' counts counts' : List ℕ)
        → part ≡ part_of (record { start = record { 0 = 0 }; swap = swap; count = m }) k m
        → ((s : ℕ → ℕ) → Holds s (506 * n) place hold
        → RunWritten s (506 * n) (run_begin carry part) number part.count out out' counts counts' carry')
        → PartWritten (reading_in false g.f g.a n) k m number out out' counts counts' carry'
    walk_written part carry' out out' counts counts' is written =
        part_of_walk (reading_in false g.f g.a n) (record { place = 0; carry = 0; swap = swap }) k k m number carry carry' out out' counts counts'
        g.due.owed g.due.carry_is stands
        (subst (λ (u : Run). RunWritten (stream_at g.f g.a n) (506 * n) (run_begin carry u) number u.count out out' counts counts' carry') is
        (written (stream_at g.f g.a n) g.holds))
