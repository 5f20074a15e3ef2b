-- The ways of a payload request, and what each shows.
-- Assumes nothing.
use Prim.Native.Nat.{suc, ℕ, ◌+◌, ◌*◌, ◌≤◌, ◌<◌}
use mathlib.Core.Path.{◌≡◌, sym}
use mathlib.Core.List.{List}
use mathlib.Core.Bool.{true}
use native.Mathlib.Omega.{arith}
use borrow.Author.Tests.{lt-ltb, le-ltb, ltb-true}
use lib.ListN.{take, drop, length}
use lib.Dec.{ltb}
use Rattle.refusals.specs.declared.Numbers.{Numbers}
use Rattle.refusals.proofs.Said.{went_on, passed}
use Rattle.blocks.proofs.Stream.{payload_long}
use Rattle.blocks.specs.Places.{Whole, file_of, payload_of}
use Rattle.refusals.specs.Said.{answers, refuses, refusal}
use Rattle.whole.specs.declared.Recording.{Recording}
use Rattle.whole.specs.Admissions.{admission}
use Rattle.whole.proofs.Admissions.{sound}
use Rattle.whole.specs.Payload.{payload_place, payload_shown, place_in}

-- the ways of a request
module _ (f : List ℕ) (block : ℕ) where
  pub place_refused : {why : Numbers} → refusal why ≡ admission f true true → refusal why ≡ payload_place f block
  unfolding payload_place
  place_refused e = rw (← e)

  module _ (rec : Recording) (taken : answers rec ≡ admission f true true) where
    pub place_absent : rec.blocks ≤ block → refuses 12 0 ≡ payload_place f block
    unfolding payload_place
    place_absent h = rw (← taken) (simp (le-ltb block rec.blocks h))

    pub place_at : block < rec.blocks → answers (file_of rec.start.0 (506 * block)) ≡ payload_place f block
    unfolding payload_place
    place_at h = rw (← taken) (simp (lt-ltb block rec.blocks h))

    -- a block that is there lies in the file
    pub block_there : block < rec.blocks → Whole f rec.start.0 (block + 1)
    block_there h = omega (arith, (sound f true true rec (sym taken)).whole)

    pub shown_part : block < rec.blocks → payload_of f rec.start.0 block ≡ payload_shown f block
    unfolding payload_shown
    shown_part h =
        let place : rec.start.0 + 512 * block + 6 ≡ file_of rec.start.0 (506 * block) = omega arith in
        rw (← place_at h, place)

  pub shown_none : {why : Numbers} → refusal why ≡ payload_place f block → take 0 (drop 0 f) ≡ payload_shown f block
  unfolding payload_shown
  shown_none e = rw (← e)

-- a request that is answered shows 506 bytes
pub shows_506 : (f : List ℕ) (block place : ℕ) → payload_place f block ≡ answers place → length (payload_shown f block) ≡ 506
unfolding payload_place
shows_506 f block place e =
    let w = went_on (admission f true true) (λ rec. place_in rec block) e in
    let test = passed (ltb block w.0.blocks) 12 0 (answers (file_of w.0.start.0 (506 * block))) w.2 in
    let there : block < w.0.blocks = ltb-true block w.0.blocks test.0 in
    let whole : Whole f w.0.start.0 (suc block) = omega (arith, block_there f block w.0 (sym w.1) there) in
    rw (← shown_part f block w.0 (sym w.1) there) (payload_long f w.0.start.0 block whole)
