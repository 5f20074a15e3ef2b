-- A file laid out from packets is as the rules describe it.
-- Assumes nothing.
use Prim.Native.Nat.{ℕ, ◌+◌, ◌*◌, ◌/◌, ◌%◌, ◌≤◌, ◌<◌}
use mathlib.Core.Path.{◌≡◌, sym, ap, ◌∙◌}
use mathlib.Core.List.{List}
use mathlib.Core.Bool.{false}
use native.Mathlib.Omega.{arith}
use borrow.Author.Tests.{eq-eqb, lt-ltb, le-ltb}
use Rattle.tables.proofs.Cases.{by_order, by_equal, never}
use Rattle.blocks.specs.Places.{stream_at}
use Rattle.blocks.specs.Headers.{header_byte, first_of, count_of, announced_in}
use Rattle.blocks.proofs.Places.{stream_past}
use Rattle.packets.specs.Packet.{read_size}
use Rattle.packets.specs.Walk.{reach, parity}
use Rattle.packets.proofs.Walk.{reach_more}
use Rattle.sp.specs.Readings.{Reading, total, walk_at}
use Rattle.laying.specs.Laid.{Laid, blocks_for, count_in, first_in, flag_byte, head_byte, laid_file}
use Rattle.laying.proofs.Frames.{first_more, first_splits, begins_in}
use Rattle.laying.proofs.Files.{file_long, head_at, count_at, announced_is, stream_is}
use Rattle.writing.specs.Reads.{read_byte}
use Rattle.writing.specs.Laying.{laid_read, laid_at, sp_laid}
use Rattle.writing.specs.Described.{blocks_of, BeginsIn, Described}
use Rattle.writing.proofs.Laying.{odd_is, reads_apart, in_read, laid_in}
use Rattle.writing.proofs.ReadBack.{reading_back, total_back, swap_back, place_back}

module _ (header : List ℕ) (n : ℕ) (p : ℕ → ℕ → ℕ) (zeros : (k : ℕ) → k < n → p k 40 ≡ 0) where
  abbrev l : Laid
  l = sp_laid n p

  abbrev file : List ℕ
  file = laid_file header (sp_laid n p)

  abbrev reading : Reading
  reading = reading_back header n p

  blocks_are : blocks_of file ≡ blocks_for l
  blocks_are = omega (arith, file_long header (sp_laid n p))

  upto : (b : ℕ) → b ≤ blocks_of file → announced_in file 1536 b ≡ first_in l b
  upto b h = announced_is header (sp_laid n p) b (omega (arith, blocks_are))

  place_is : (k : ℕ) → k < n → (walk_at reading k).place ≡ reach false k
  place_is k h = place_back header n p zeros k h

  counted : (b k : ℕ) → b < blocks_of file → k < total reading → BeginsIn reading b k
      → (announced_in file 1536 b ≤ k) × (k < announced_in file 1536 (b + 1))
  counted b k h some begins =
      let less : k < n = omega (arith, total_back header n p) in
      let here : reach false k / 506 ≡ b = omega (arith, begins.0, begins.1, place_is k less) in (
        by_order k (first_in l b) (λ before. omega (arith, (first_splits l reads_apart b).below k before, here)) (λ from. omega (arith, upto b (omega arith))),
        by_order k (first_in l (b + 1)) (λ before. omega (arith, upto (b + 1) (omega arith)))
            (λ from. omega (arith, (first_splits l reads_apart (b + 1)).rest k from less, here)),
      )

  only_counted : (b k : ℕ) → b < blocks_of file → announced_in file 1536 b ≤ k → k < announced_in file 1536 (b + 1) → BeginsIn reading b k
  only_counted b k h from to =
      let here : reach false k / 506 ≡ b =
      begins_in l reads_apart b k (omega (arith, upto b (omega arith))) (omega (arith, upto (b + 1) (omega arith), first_more l b)) in
      let less : k < n = omega (arith, upto (b + 1) (omega arith), (first_splits l reads_apart (b + 1)).few) in
      (omega (arith, here, place_is k less), omega (arith, here, place_is k less))

  -- the first of block b
  module _ (b : ℕ) (h : b < blocks_of file) where
    inside : b < blocks_for l
    inside = omega (arith, blocks_are)

    count_is : count_of file 1536 b ≡ count_in l b
    count_is = count_at header (sp_laid n p) b inside

    module _ (some : 0 < count_of file 1536 b) where
      there : first_in l b < n
      there = omega (arith, count_is, first_more l b, (first_splits l reads_apart (b + 1)).few)

      number : announced_in file 1536 b ≡ first_in l b
      number = upto b (omega arith)

      first_flag : header_byte file 1536 b 0 ≡ flag_byte (walk_at reading (announced_in file 1536 b)).swap
      unfolding head_byte
      first_flag =
          head_at header (sp_laid n p) b 0 inside (omega arith)
          ∙ simp (lt-ltb 0 (count_in l b) (omega (arith, count_is)))
          (ap flag_byte (sym (swap_back header n p zeros (first_in l b) there)))
          ∙ ap (λ (k : ℕ). flag_byte (walk_at reading k).swap) (sym number)

      first_place : 506 * b + 2 * first_of file 1536 b ≡ (walk_at reading (announced_in file 1536 b)).place + 6
      unfolding head_byte
      first_place =
          let byte : first_of file 1536 b ≡ 3 + reach false (first_in l b) % 506 / 2 =
          head_at header (sp_laid n p) b 1 inside (omega arith) ∙ simp (lt-ltb 0 (count_in l b) (omega (arith, count_is))) in
          let here : reach false (first_in l b) / 506 ≡ b = begins_in l reads_apart b (first_in l b) (omega arith) (omega (arith, count_is)) in
          let even : reach false (first_in l b) % 2 ≡ 0 = omega arith in
          let place : (walk_at reading (announced_in file 1536 b)).place ≡ reach false (first_in l b) =
          ap (λ (k : ℕ). (walk_at reading k).place) number ∙ place_is (first_in l b) there in
          omega (arith, byte, here, even, place)

    silent : count_of file 1536 b ≡ 0 → (header_byte file 1536 b 0 ≡ 0x0F) × (header_byte file 1536 b 1 ≡ 0)
    unfolding head_byte
    silent none = (
      head_at header (sp_laid n p) b 0 inside (omega arith) ∙ simp (le-ltb 0 (count_in l b) (omega (arith, count_is))),
      head_at header (sp_laid n p) b 1 inside (omega arith) ∙ simp (le-ltb 0 (count_in l b) (omega (arith, count_is))),
    )

    marks : (header_byte file 1536 b 3 ≡ 0xFF) × (header_byte file 1536 b 4 ≡ 0) × (header_byte file 1536 b 5 ≡ 0xFF)
    unfolding head_byte
    marks = (
      head_at header (sp_laid n p) b 3 inside (omega arith),
      head_at header (sp_laid n p) b 4 inside (omega arith),
      head_at header (sp_laid n p) b 5 inside (omega arith),
    )

  stream_laid : (q : ℕ) → q < 506 * blocks_of file → stream_at file 1536 (blocks_of file) q ≡ laid_at n p q
  stream_laid q h =
      ap (λ (m : ℕ). stream_at file 1536 m q) blocks_are ∙ stream_is header (sp_laid n p) q (omega (arith, blocks_are))

  padded : (q : ℕ) → reach false n ≤ q → stream_at file 1536 (blocks_of file) q ≡ 0
  unfolding laid_read
  padded q past =
      by_order q (506 * blocks_of file)
      (λ h.
      stream_laid q h
      ∙ in_read q
      (λ k j m is.
      let behind : n ≤ k = by_order k n (λ before. omega (arith, is, reach_more false k)) (λ from. from) in
      rw is (laid_in n p k j m ∙ simp (le-ltb k n behind))))
      (λ h. stream_past file 1536 (blocks_of file) q h)

  last_carries : (k : ℕ) → k + 1 ≡ n → (walk_at reading k).swap ≡ false
      → stream_at file 1536 (blocks_of file) ((walk_at reading k).place + 40) ≡ 0
  unfolding laid_read read_byte
  last_carries k last plain =
      let less : k < n = omega arith in
      let is : parity false k ≡ false = sym (swap_back header n p zeros k less) ∙ plain in
      let even : k % 2 ≡ 0 = by_equal (k % 2) 0 (λ e. e) (λ odd. absurd (never (odd_is k odd) is)) in
      ap (λ (q : ℕ). stream_at file 1536 (blocks_of file) (q + 40)) (place_is k less)
      ∙ stream_laid (reach false k + 40) (omega (arith, blocks_are))
      ∙ laid_in n p k 40 (omega (arith, ap read_size is))
      ∙ simp (lt-ltb k n less, eq-eqb (k % 2) 0 even, le-ltb (k + 1) n (omega arith))

  pub laid_described : Described file reading
  laid_described =
      record {
        counted = counted;
        only_counted = only_counted;
        first_flag = λ b h some. first_flag b h some;
        first_place = λ b h some. first_place b h some;
        silent = λ b h none. silent b h none;
        marks = λ b h. marks b h;
        least = omega (arith, blocks_are, total_back header n p, ap (reach false) (total_back header n p));
        enough = omega (arith, blocks_are, total_back header n p, ap (reach false) (total_back header n p));
        padded = λ q past. padded q (omega (arith, ap (reach false) (total_back header n p)));
        last_carries = λ k last plain. last_carries k (last ∙ total_back header n p) plain;
      }
