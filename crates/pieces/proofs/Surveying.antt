-- DS2: a piece's blocks, looked over before anything is written: the hold and the packets by closed forms, whether each block fits, and the
-- frames that they announce. Assumes nothing.
use Prim.Native.Nat.{ℕ, ◌+◌, ◌*◌, ◌≤◌, ◌<◌, min}
use mathlib.Core.Path.{◌≡◌, refl, sym, ap, ◌∙◌}
use mathlib.Core.List.{List}
use mathlib.Core.Bool.{Bool, true, false}
use native.Mathlib.Omega.{arith}
use lib.ListN.{length, get_or}
use Rattle.tables.proofs.Cases.{by_order, by_equal, by_test, never}
use Rattle.blocks.specs.Places.{whole_blocks, block_at}
use Rattle.blocks.specs.Headers.{Bytes, header_byte, flag_of, swap_of, count_of, announced_in}
use Rattle.blocks.proofs.Headers.{announced_none, announced_more}
use Rattle.packets.specs.Walk.{reach}
use Rattle.hold.specs.declared.Standing.{Standing}
use Rattle.hold.specs.Ready.{ready}
use Rattle.hold.specs.Held.{base_at, block_fits, fits}
use Rattle.hold.proofs.Ready.{ds2_ready_is, ready_none, ds2_base, base_within}
use Rattle.hold.proofs.Front.{fits_each, each_fits}
use Rattle.blocks.proofs.Headers.{announced_most}
use Rattle.pieces.specs.Inner.{Joins, Known, Surveys}
use Rattle.std.specs.Prelude.{Ok}
use Rattle.pieces.proofs.Sources.{numbers_of}

reach_none : (swap : Bool) → reach swap 0 ≡ 0
reach_none true = refl
reach_none false = refl

-- n blocks announce so many frames, and r reads by the first block's flag end in them. Before there is a block the flag is any
module _ (f : List ℕ) (a n announced first r : ℕ) (swap : Bool) (announced_is : announced ≡ announced_in f a n)
    (first_is : 0 < n → first ≡ header_byte f a 0 0) (swap_is : swap ≡ flag_of first) (some : reach swap r ≤ 506 * n)
    (no_more : 506 * n < reach swap (r + 1)) where
  flag_is : 0 < n → swap ≡ swap_of f a 0
  flag_is h = swap_is ∙ ap flag_of (first_is h)

  ready_is : min announced r ≡ ready false f a n
  ready_is =
      by_order 0 n
      (λ h.
      let is : ready false f a n ≡ min (announced_in f a n) r =
      ds2_ready_is f a n r (rw (flag_is h) at some) (rw (flag_is h) at no_more) in
      omega (arith, is))
      (λ h.
      let none : n ≡ 0 = omega arith in
      rw none (omega (arith, ready_none false f a, announced_none f a, ap (announced_in f a) none)))

  pub base_is : reach swap (min announced r) ≡ base_at false f a n
  base_is =
      by_order 0 n (λ h. cc (flag_is h, ready_is, ds2_base f a n))
      (λ h.
      let none : n ≡ 0 = omega arith in
      let nothing : min announced r ≡ 0 = omega (arith, ready_is, ready_none false f a, ap (ready false f a) none) in
      ap (reach swap) nothing ∙ reach_none swap ∙ omega (arith, base_within false f a n))

-- and so those that are ready with a piece
pub ready_after : {f partial waiting piece : List ℕ} {a taken : ℕ} {was : Standing} → Known false f a taken was partial waiting piece
    → (end announced first r : ℕ) (swap : Bool) → end ≡ whole_blocks (taken + length piece) a
    → announced ≡ announced_in f a (whole_blocks (length f) a) → (0 < whole_blocks (length f) a → first ≡ header_byte f a 0 0)
    → swap ≡ flag_of first → reach swap r ≤ 506 * end → 506 * end < reach swap (r + 1)
    → min announced r ≡ ready false f a (whole_blocks (length f) a)
ready_after {f} {a = a} known end announced first r swap end_is announced_is first_is swap_is some no_more =
    let long : end ≡ whole_blocks (length f) a = rw known.joins.long end_is in
    ready_is f a _ announced first r swap announced_is first_is swap_is (rw long at some) (rw long at no_more)

-- after b blocks that all fit
pub record Passed (f : List ℕ) (a b announced : ℕ) : Type 0 where
  pub announced_is : announced ≡ announced_in f a b
  pub fit : fits false f a b ≡ true

-- what is known of the bytes joined where the blocks of a piece begin, b blocks having come before
pub record Begun (f partial piece : List ℕ) (taken tail a end first b announced : ℕ) : Type 0 where
  pub bytes : Bytes f
  pub joins : Joins f partial piece taken tail
  pub end_is : end ≡ whole_blocks (length f) a
  pub first_is : 0 < end → first ≡ header_byte f a 0 0
  pub passed : Passed f a b announced

-- a block that does not fit is one of all
unfit : (f : List ℕ) (a b n : ℕ) → b < n → block_fits false f a b ≡ false → fits false f a n ≡ false
unfit f a b n h failed = by_test (fits false f a n) (λ all. absurd (never (fits_each false f a n all b h) failed)) (λ e. e)

module _ {f partial piece : List ℕ} {taken tail a end first b₀ announced₀ : ℕ}
    (begun : Begun f partial piece taken tail a end first b₀ announced₀) {b announced : ℕ} (passed : Passed f a b announced) where
  -- a block more
  module _ (inside : b < end) {fit : Bool}
      (fit_is : (f : List ℕ) (a : ℕ) → Bytes f → announced ≡ announced_in f a b → (0 < b → first ≡ header_byte f a 0 0) → fit ≡ block_fits false f a b) where
    fit_here : fit ≡ block_fits false f a b
    fit_here = fit_is f a begun.bytes passed.announced_is (λ h. begun.first_is (omega arith))

    pub look_on : {byte count : ℕ} → fit ≡ true → ((g : List ℕ) → Joins g partial piece taken tail → byte ≡ get_or g (block_at a b + 2) 0)
        → count ≡ byte → Passed f a (b + 1) (announced + count)
    look_on {byte} {count} held says count_is =
        let here : byte ≡ count_of f a b = says f begun.joins in
        record {
          announced_is = omega (arith, passed.announced_is, announced_more f a b, here);
          fit = each_fits false f a (b + 1)
              (λ i h.
              by_equal i b (λ e. rw e (sym fit_here ∙ held)) (λ other. fits_each false f a b passed.fit i (omega arith)));
        }

    pub look_stops : fit ≡ false → fits false f a (whole_blocks (length f) a) ≡ false
    look_stops failed = unfit f a b _ (omega (arith, begun.end_is)) (sym fit_here ∙ failed)

  pub look_ends : b ≤ end → end ≤ b → Surveys f a (Ok (record { announced = announced; first = first }))
  look_ends within ended =
      let all : b ≡ whole_blocks (length f) a = omega (arith, begun.end_is) in
      (rw all at passed.fit, rw all at passed.announced_is, λ some. begun.first_is (omega (arith, begun.end_is)))

-- what a reader's numbers say of the blocks before the piece
module _ {f partial waiting piece : List ℕ} {a taken : ℕ} {was : Standing}
    (known : Known false f a taken was partial waiting piece) where
  pub announced_few : was.announced ≤ 255 * whole_blocks taken a
  announced_few = omega (arith, (numbers_of known).announced_is, announced_most f a (whole_blocks taken a) known.bytes)

  pub look_begins : (b end first : ℕ) → b ≡ whole_blocks taken a → end ≡ whole_blocks (taken + length piece) a
      → ((g : List ℕ) → Joins g partial piece taken (block_at a (whole_blocks taken a)) → (0 < whole_blocks taken a → was.first ≡ header_byte g a 0 0)
      → 0 < whole_blocks (length g) a → first ≡ header_byte g a 0 0)
      → Begun f partial piece taken (block_at a b) a end first b was.announced
  look_begins b end first b-is end_is first_is =
      record {
        bytes = known.bytes;
        joins = rw b-is known.joins;
        end_is = long;
        first_is = λ some. first_is f known.joins (λ had. (numbers_of known).first_is (λ e. omega arith)) (omega (arith, long));
        passed = rw b-is (record { announced_is = (numbers_of known).announced_is; fit = known.fit });
      }
    where
      long : end ≡ whole_blocks (length f) a
      long = rw known.joins.long end_is
