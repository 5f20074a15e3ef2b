-- A walk over a stream into which packets were laid gives the packets again, and a file laid out from packets is read so.
-- Assumes nothing.
use Prim.Native.Nat.{ℕ, zero, suc, ◌+◌, ◌*◌, ◌%◌, ◌≤◌, ◌<◌}
use mathlib.Core.Path.{◌≡◌, refl, sym, ap, ◌∙◌}
use mathlib.Core.List.{List, []}
use mathlib.Core.Bool.{Bool, true, false}
use native.Mathlib.Numerals.{add-one}
use native.Mathlib.Omega.{arith}
use borrow.Author.Tests.{lt-ltb, le-ltb}
use lib.ListN.{length}
use Rattle.tables.proofs.Cases.{by_equal, by_order, never}
use Rattle.blocks.specs.Places.{limit, whole_blocks, stream_at}
use Rattle.blocks.specs.Headers.{flag_of, swap_of, type_of, announced_in}
use Rattle.refusals.specs.Said.{answers}
use Rattle.detect.specs.Kinds.{format_type, kind_of}
use Rattle.detect.specs.declared.Kind.TheVariants.{Sp}
use Rattle.whole.specs.Admissions.{ds2_admission, type_in}
use Rattle.packets.specs.Packet.{read_size, from}
use Rattle.packets.specs.Walk.{Walk, steps, byte_of, count_at, reach, parity}
use Rattle.packets.proofs.Packets.{count_full}
use Rattle.packets.proofs.Walk.{reach_more, steps_place, steps_swap, steps_carry}
use Rattle.packets.proofs.Longer.{Agree, same_packet}
use Rattle.sp.specs.Runs.{run_begin}
use Rattle.sp.specs.ReadLists.{ds2_run, ds2_runs}
use Rattle.sp.specs.Readings.{Reading, total, walk_at, file_count_at, reading_of, ds2_reading}
use Rattle.sp.proofs.Runs.{stands_first}
use Rattle.sp.proofs.ReadLists.{ds2_packets}
use Rattle.laying.specs.Header.{Header}
use Rattle.laying.specs.Laid.{blocks_for, size_for, count_in, head_byte, laid_file}
use Rattle.laying.proofs.Frames.{first_none, first_all}
use Rattle.laying.proofs.Files.{file_long, head_at, type_at, type_all, announced_is, stream_is}
use Rattle.laying.proofs.Admitted.{recording_of, laid_taken}
use Rattle.writing.specs.Laying.{carried_on, laid_read, laid_at, sp_laid}
use Rattle.writing.proofs.Inverse.{gives_back}
use Rattle.writing.proofs.Laying.{even_is, laid_in, read_is, carried_is}

-- a walk from place 0, unswapped, over a stream that begins with the packets laid
module _ (n : ℕ) (p : ℕ → ℕ → ℕ) (s : ℕ → ℕ) (w : Walk) (place : w.place ≡ 0) (swap : w.swap ≡ false)
    (zeros : (k : ℕ) → k < n → p k 40 ≡ 0) (is : (q : ℕ) → q < reach false n → s q ≡ laid_at n p q) where
  pub swap_at : (k : ℕ) → (steps s w k).swap ≡ parity false k
  swap_at k = steps_swap s w k ∙ ap (λ (x : Bool). parity x k) swap

  pub place_at : (k : ℕ) → (steps s w k).place ≡ reach false k
  place_at k = steps_place s w k ∙ rw (place, swap) (omega arith)

  -- byte 1 of a swapped packet is carried to it
  carry_at : (k : ℕ) → k < n → parity false k ≡ true → (steps s w k).carry ≡ p k 1
  carry_at zero h swapped = absurd (never swapped (even_is 0 refl))
  carry_at (suc j) h swapped =
      by_equal (j % 2) 0
      (λ even.
      let there : w.place + reach w.swap j + 40 ≡ reach false j + 40 = rw (place, swap) (omega arith) in
      steps_carry s w j (ap (λ (x : Bool). parity x (suc j)) swap ∙ swapped)
      ∙ ap s there
      ∙ is (reach false j + 40) (omega (arith, reach_more false j))
      ∙ laid_in n p j 40 (omega (arith, ap read_size (even_is j even)))
      ∙ carried_is n p j (omega arith) even
      ∙ ap (λ (m : ℕ). p m 1) (add-one j))
      (λ odd. absurd (never swapped (even_is (suc j) (omega arith))))

  pub packet_back : (k i : ℕ) → k < n → i < 42 → byte_of s (steps s w k) i ≡ p k i
  packet_back k i h l =
      rw (swap_at k, place_at k)
      (same_packet (parity false k) (steps s w k).carry (from s (reach false k)) (laid_read n p k) i (agree k h) l
      ∙ same_packet (parity false k) (steps s w k).carry (laid_read n p k) _ i (λ j m. read_is n p k j h) l
      ∙ gives_back (parity false k) (steps s w k).carry (carried_on n p k) (p k) i l (zeros k h) (carry_at k h))
    where
      agree : (k : ℕ) → k < n → Agree (from s (reach false k)) (laid_read n p k) (read_size (parity false k))
      agree k h j m = is (reach false k + j) (omega (arith, reach_more false k)) ∙ laid_in n p k j m

  pub count_back : (k long : ℕ) → k < n → reach false n ≤ long → count_at long (steps s w k) ≡ read_size (parity false k)
  count_back k long h enough =
      count_full long (steps s w k).swap (steps s w k).place
      (omega (arith, place_at k, ap read_size (swap_at k), reach_more false k))
      ∙ ap read_size (swap_at k)

-- the file of n packets, with a header that a caller supplies
module _ (header : List ℕ) (n : ℕ) (p : ℕ → ℕ → ℕ) where
  abbrev file : List ℕ
  file = laid_file header (sp_laid n p)

  abbrev blocks : ℕ
  blocks = blocks_for (sp_laid n p)

  announced_all : announced_in file 1536 blocks ≡ n
  announced_all =
      announced_is header (sp_laid n p) blocks (omega arith) ∙ first_all (sp_laid n p) blocks (λ k h. omega arith)

  -- block 0 is unswapped
  pub flag_off : 0 < blocks → swap_of file 1536 0 ≡ false
  unfolding flag_of head_byte
  flag_off some =
      ap flag_of (head_at header (sp_laid n p) 0 0 some (omega arith))
      ∙ by_order 0 (count_in (sp_laid n p) 0)
      (λ h. simp (lt-ltb 0 (count_in (sp_laid n p) 0) h, first_none (sp_laid n p)))
      (λ h. simp (le-ltb 0 (count_in (sp_laid n p) 0) h))

  -- its reading
  abbrev pub reading_back : Reading
  reading_back = reading_of file (recording_of (sp_laid n p)) ds2_runs

  pub total_back : total reading_back ≡ n
  total_back = ds2_packets file 1536 blocks ∙ announced_all

  stands : (k : ℕ) → k < n → walk_at reading_back k ≡ steps (stream_at file 1536 blocks) (run_begin 0 (ds2_run file 1536 blocks)) k
  stands k h = stands_first (stream_at file 1536 blocks) 0 (ds2_run file 1536 blocks) [] k (omega (arith, announced_all))

  as_laid : (q : ℕ) → q < reach false n → stream_at file 1536 blocks q ≡ laid_at n p q
  as_laid q h = stream_is header (sp_laid n p) q (omega arith)

  module _ (zeros : (k : ℕ) → k < n → p k 40 ≡ 0) (k : ℕ) (h : k < n) where
    pub byte_back : (i : ℕ) → i < 42 → byte_of reading_back.stream (walk_at reading_back k) i ≡ p k i
    byte_back i l =
        ap (λ (w : Walk). byte_of (stream_at file 1536 blocks) w i) (stands k h)
        ∙ packet_back n p (stream_at file 1536 blocks) (run_begin 0 (ds2_run file 1536 blocks)) refl (flag_off (omega arith)) zeros as_laid k i h l

    pub swap_back : (walk_at reading_back k).swap ≡ parity false k
    swap_back =
        ap (λ (w : Walk). w.swap) (stands k h)
        ∙ swap_at n p (stream_at file 1536 blocks) (run_begin 0 (ds2_run file 1536 blocks)) refl (flag_off (omega arith)) zeros as_laid k

    pub place_back : (walk_at reading_back k).place ≡ reach false k
    place_back =
        ap (λ (w : Walk). w.place) (stands k h)
        ∙ place_at n p (stream_at file 1536 blocks) (run_begin 0 (ds2_run file 1536 blocks)) refl (flag_off (omega arith)) zeros as_laid k

    pub full_back : file_count_at reading_back k ≡ read_size (parity false k)
    full_back =
        ap (count_at (506 * blocks)) (stands k h)
        ∙ count_back n p (stream_at file 1536 blocks) (run_begin 0 (ds2_run file 1536 blocks)) refl (flag_off (omega arith)) zeros as_laid k (506 * blocks) h (omega arith)

  -- it is taken for SP
  module _ (good : Header header) (small : size_for (sp_laid n p) ≤ limit) where
    pub type_is : type_in file (recording_of (sp_laid n p)) ≡ 0
    unfolding format_type
    type_is =
        type_all file 1536 (whole_blocks (length file) 1536) 0 0
        (λ i h. let front : 0 + i ≡ i = omega arith in ap (type_of file 1536) front ∙ type_at header (sp_laid n p) i (omega (arith, file_long header (sp_laid n p)))) refl

    sp_taken : ds2_admission file Sp ≡ answers (recording_of (sp_laid n p))
    unfolding kind_of
    sp_taken = laid_taken header (sp_laid n p) good small Sp (sym type_is) refl

    pub is_read_back : ds2_reading file ≡ answers reading_back
    unfolding ds2_reading
    is_read_back = rw sp_taken
