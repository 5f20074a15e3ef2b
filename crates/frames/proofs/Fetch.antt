-- The ways of a frame's request, and what holds where a frame can be fetched.
-- Assumes nothing.
use Prim.Native.Nat.{ℕ, ◌+◌, ◌*◌, ◌-◌, ◌/◌, ◌%◌, ◌≤◌, ◌<◌, ◌^◌}
use mathlib.Core.Path.{◌≡◌, ap, ◌∙◌}
use mathlib.Core.List.{List}
use mathlib.Core.Bool.{Bool, true, false}
use native.Mathlib.Nat.{sub-zero}
use native.Mathlib.Omega.{arith}
use borrow.Author.Tests.{le-leb, lt-leb, leb-true, leb-false}
use lib.ListN.{length, get_or, take, drop}
use lib.Dec.{leb}
use Rattle.tables.specs.Lent.{Leaves, over}
use Rattle.tables.proofs.Lent.{leaves_join, leaves_as, leaves_to, over_long}
use Rattle.tables.proofs.Parts.{part_is}
use Rattle.tables.proofs.Tests.{both_hold}
use Rattle.blocks.specs.Places.{file_of, stream_at}
use Rattle.blocks.proofs.Stream.{together}
use Rattle.refusals.specs.declared.Numbers.{Numbers}
use Rattle.refusals.specs.Said.{Said, answers, refuses, demand, refusal}
use Rattle.refusals.proofs.Said.{passed, went_on}
use Rattle.whole.specs.declared.Recording.{Recording}
use Rattle.whole.specs.Admissions.{Sound, admission, stream_in}
use Rattle.whole.proofs.Admissions.{sound}
use Rattle.frames.specs.declared.Fetched.{Fetched}
use Rattle.std.specs.Prelude.{Result, Err}
use Rattle.refusals.specs.declared.Refusal.{Refusal}
use Rattle.refusals.specs.Numbers.{in_numbers}
use Rattle.frames.specs.Fetch.{can_fetch, fetch_from, is_inside, in_file, in_scratch, stand_in, standing, fetched_says, filled_from, filled, shown_from, shown, Fills}
use Rattle.frames.specs.Inner.{Fetchable}
use Rattle.tables.proofs.Cases.{by_test}

-- whether a frame can be fetched, test by test
module _ (blocks q size room : ℕ) where
  pub no_size : size < 1 → false ≡ can_fetch blocks q size room
  unfolding can_fetch
  no_size h = simp (lt-leb 1 size h)

  module _ (some : 1 ≤ size) where
    pub too_large : 56 < size → false ≡ can_fetch blocks q size room
    unfolding can_fetch
    too_large h = simp (le-leb 1 size some, lt-leb size 56 h)

    module _ (most : size ≤ 56) where
      pub past_the_end : 506 * blocks < q + size → false ≡ can_fetch blocks q size room
      unfolding can_fetch
      past_the_end h = simp (le-leb 1 size some, le-leb size 56 most, lt-leb (q + size) (506 * blocks) h)

      pub room_decides : q + size ≤ 506 * blocks → leb 56 room ≡ can_fetch blocks q size room
      unfolding can_fetch
      room_decides h = simp (le-leb 1 size some, le-leb size 56 most, le-leb (q + size) (506 * blocks) h)

-- a recording goes on if the test holds, and is else refused by 12
module _ {A : Type 0} (said : Said A) {found test : Bool} (is : found ≡ test) where
  pub goes_on : found ≡ true → said ≡ demand test 12 0 said
  goes_on h = rw (← is) (simp h)

  pub is_absent : found ≡ false → refuses 12 0 ≡ demand test 12 0 said
  is_absent h = rw (← is) (simp h)

-- a frame's stand
module _ (rec : Recording) (q size : ℕ) where
  pub stands_in_file : (place : ℕ) → is_inside q size ≡ true → place ≡ file_of rec.start.0 q → answers (in_file place) ≡ answers (stand_in rec q size)
  stands_in_file place h e = simp (h, e)

  pub stands_in_scratch : is_inside q size ≡ false → answers in_scratch ≡ answers (stand_in rec q size)
  stands_in_scratch h = simp h

-- where a frame can be fetched from a recording, it lies in the stream, and the scratch is large enough
pub fetchable : (f : List ℕ) (rec : Recording) (q size room : ℕ) → Sound f rec → can_fetch rec.blocks q size room ≡ true → Fetchable f rec q size room
unfolding can_fetch
fetchable f rec q size room sound can =
    let t = both_hold (leb 1 size) _ can in
    let u = both_hold (leb size 56) _ t.1 in
    let v = both_hold (leb (q + size) (506 * rec.blocks)) (leb 56 room) u.1 in
    record {
      whole = sound.whole;
      some = leb-true 1 size t.0;
      most = leb-true size 56 u.0;
      there = leb-true (q + size) (506 * rec.blocks) v.0;
      roomy = leb-true 56 room v.1;
    }

-- the ways of a request
module _ (f : List ℕ) (q size room : ℕ) where
  pub fetch_refused : {why : Numbers} → refusal why ≡ admission f false true → refusal why ≡ fetch_from f q size room
  unfolding fetch_from
  fetch_refused e = rw (← e)

  pub fetch_asks : (rec : Recording) {said : Said Recording} → answers rec ≡ admission f false true
      → said ≡ demand (can_fetch rec.blocks q size room) 12 0 (answers rec) → said ≡ fetch_from f q size room
  unfolding fetch_from
  fetch_asks rec e asked = rw (← e) asked

  -- where a frame can be fetched, its file was admitted, and it lies in the stream
  pub fetched_from : (rec : Recording) → fetch_from f q size room ≡ answers rec
      → (admission f false true ≡ answers rec) × Fetchable f rec q size room
  unfolding fetch_from
  fetched_from rec e =
      let w = went_on (admission f false true) (λ r. demand (can_fetch r.blocks q size room) 12 0 (answers r)) e in
      let test = passed (can_fetch w.0.blocks q size room) 12 0 (answers w.0) w.2 in
      let same : w.0 ≡ rec = cc in
      let admitted : admission f false true ≡ answers rec = rw (← same) w.1 in
      let can : can_fetch rec.blocks q size room ≡ true = rw (← same) test.0 in
      (admitted, fetchable f rec q size room (sound f false true rec admitted) can)

  -- its place in the file has a number of 64 bits
  pub in_the_file : length f < 2 ^ 64 → (rec : Recording) → fetch_from f q size room ≡ answers rec → (size ≤ 56) × (file_of rec.start.0 q < 2 ^ 64)
  in_the_file fits rec e =
      let c = (fetched_from rec e).1 in
      (c.most, omega (arith, c.whole, c.some, c.there))

  -- what is said of its stand
  pub stand_refused : {why : Numbers} → refusal why ≡ fetch_from f q size room
      → refusal why ≡ standing (fetch_from f q size room) q size
  unfolding standing
  stand_refused e = rw (← e)

  pub stand_is : (rec : Recording) → answers rec ≡ fetch_from f q size room
      → answers (stand_in rec q size) ≡ standing (fetch_from f q size room) q size
  unfolding standing
  stand_is rec e = rw (← e)

-- what the two calls do with a scratch
module _ (f : List ℕ) (q size : ℕ) (scratch : List ℕ) where
  pub fill_refused : (why : Refusal) → refusal (in_numbers why) ≡ fetch_from f q size (length scratch)
      → Fills f q size scratch scratch (Err why)
  unfolding filled
  fill_refused why e = record { answer_is = stand_refused f q size (length scratch) e; scratch_is = rw (← e) }

  pub show_refused : {why : Numbers} → refusal why ≡ fetch_from f q size (length scratch)
      → take 0 (drop 0 f) ≡ shown f q size scratch
  unfolding shown
  show_refused e = rw (← e)

  module _ (rec : Recording) (taken : answers rec ≡ fetch_from f q size (length scratch)) where
    pub fill_is : (scratch' : List ℕ) (answer : Result Fetched Refusal) → fetched_says answer ≡ answers (stand_in rec q size)
        → scratch' ≡ filled_from f rec q size scratch → Fills f q size scratch scratch' answer
    unfolding filled
    fill_is scratch' answer says bytes =
        record { answer_is = says ∙ stand_is f q size (length scratch) rec taken; scratch_is = rw (← taken) bytes }

    pub show_is : (part : List ℕ) → part ≡ shown_from f rec q size scratch → part ≡ shown f q size scratch
    unfolding shown
    show_is part bytes = rw (← taken) bytes

-- the scratch after the first call, by the frame's stand
module _ (f : List ℕ) (rec : Recording) (q size : ℕ) (scratch : List ℕ) where
  pub filled_inside : is_inside q size ≡ true → filled_from f rec q size scratch ≡ scratch
  filled_inside h = simp h

  pub filled_across : is_inside q size ≡ false
      → filled_from f rec q size scratch ≡ over size (λ k. stream_at f rec.start.0 rec.blocks (q + k)) scratch
  filled_across h = simp h

  -- in both ways the scratch stays as long as it is
  pub filled_long : length (filled_from f rec q size scratch) ≡ length scratch
  filled_long =
      by_test (is_inside q size) (λ h. ap length (filled_inside h))
      (λ h. ap length (filled_across h) ∙ over_long size (λ k. stream_at f rec.start.0 rec.blocks (q + k)) scratch)

  -- what the second call shows, as the code takes the part
  pub shown_inside : (from : ℕ) → is_inside q size ≡ true → from ≡ file_of rec.start.0 q
      → take (from + size - from) (drop from f) ≡ shown_from f rec q size scratch
  shown_inside from h e = part_is f from (file_of rec.start.0 q) size e ∙ simp h

  pub shown_across : is_inside q size ≡ false → take (size - 0) (drop 0 scratch) ≡ shown_from f rec q size scratch
  shown_across h = rw sub-zero (simp h)

  -- a frame inside one block ends in the file
  pub inside_ends : (room from : ℕ) → Fetchable f rec q size room → is_inside q size ≡ true → from ≡ file_of rec.start.0 q → from + size ≤ length f
  inside_ends room from c h e =
      let inside : q % 506 + size ≤ 506 = leb-true (q % 506 + size) 506 h in
      omega (arith, c.whole, c.some, c.there)

-- the bytes of the file from a stream place's own on are the stream's as far as its block goes
run_is : (f : List ℕ) (rec : Recording) (q from k : ℕ) → from ≡ file_of rec.start.0 q → q / 506 < rec.blocks → q % 506 + k < 506
    → get_or f (from + k) 0 ≡ stream_in f rec (q + k)
run_is f rec q from k is there near =
    ap (λ (i : ℕ). get_or f (i + k) 0) is ∙ together f rec.start.0 rec.blocks q k there near

-- a frame that crosses a block: the run to the block's end, and behind it the run from the next block's payload on
module _ (f : List ℕ) (rec : Recording) (q size room here second : ℕ) (c : Fetchable f rec q size room) (crosses : is_inside q size ≡ false)
    (rest : here ≡ 506 - q % 506) (far : second ≡ file_of rec.start.0 (q + here)) where
  -- the second run ends in the file
  pub second_ends : second + (size - here) ≤ length f
  second_ends = omega (arith, leb-false)

  -- the two runs together are the frame
  pub two_runs : {d e e' : List ℕ} (first : ℕ) → first ≡ file_of rec.start.0 q
      → Leaves d 0 here (λ k. get_or f (first + k) 0) e → Leaves e here (size - here) (λ k. get_or f (second + k) 0) e'
      → Leaves d 0 size (λ k. stream_in f rec (q + k)) e'
  two_runs {d} {e} {e'} first near w v =
      let front : 0 + here ≡ here = omega arith in
      leaves_to (omega (arith, leb-false))
      (leaves_join d 0 here (size - here) (λ k. stream_in f rec (q + k)) (λ k. get_or f (second + k) 0) e e'
      (leaves_as _ (λ k h. run_is f rec q first k near (omega arith) (omega arith)) w)
      (rw front v)
      (λ k h.
      let on : q + here + k ≡ q + (here + k) = omega arith in
      run_is f rec (q + here) second k far (omega (arith, leb-false)) (omega arith) ∙ ap (stream_in f rec) on))
