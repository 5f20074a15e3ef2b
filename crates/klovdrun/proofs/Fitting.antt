-- A file laid out from packets, read in pieces: what is unread never passes the reader's hold, so that no piece of it is refused by 7.
-- Assumes nothing.
use Prim.Native.Nat.{ℕ, ◌+◌, ◌*◌, ◌≤◌, ◌<◌}
use mathlib.Core.Path.{◌≡◌, sym, ap, ◌∙◌}
use mathlib.Core.List.{List, ◌++◌}
use mathlib.Core.Bool.{Bool, true, false}
use native.Mathlib.Omega.{arith}
use borrow.Author.Tests.{le-leb, leb-false, eqb-true}
use lib.ListN.{length, length-append}
use Rattle.tables.proofs.Cases.{by_order}
use Rattle.blocks.specs.Places.{whole_blocks}
use Rattle.blocks.specs.Headers.{swap_of, announced_in}
use Rattle.packets.specs.Walk.{reach}
use Rattle.laying.specs.Laid.{Laid, blocks_for, first_in, laid_file}
use Rattle.laying.proofs.Frames.{first_splits}
use Rattle.laying.proofs.Files.{file_long, announced_is}
use Rattle.writing.specs.Laying.{sp_laid}
use Rattle.writing.proofs.Laying.{reads_apart}
use Rattle.writing.proofs.ReadBack.{flag_off}
use Rattle.hold.specs.Ready.{ready}
use Rattle.hold.specs.Held.{base_at, fitting, fits}
use Rattle.hold.proofs.Ready.{reach_upto, ds2_leads, ds2_next, ds2_base}
use Rattle.hold.proofs.Front.{each_fits}
use Rattle.reader.proofs.Fitting.{fits_same}

module _ (header : List ℕ) (n : ℕ) (p : ℕ → ℕ → ℕ) where
  abbrev l : Laid
  l = sp_laid n p

  abbrev file : List ℕ
  file = laid_file header (sp_laid n p)

  -- after b blocks all but the read at their end is out: the next packet is cut there, begins behind it, or there is none
  read_upto : (b : ℕ) → b < blocks_for l → 506 * b ≤ reach false (ready false file 1536 b) + 42
  read_upto b h =
      let r = ready false file 1536 b in
      let off = flag_off header n p (omega arith) in
      let upto = announced_is header (sp_laid n p) b (omega arith) in
      by_order r (announced_in file 1536 b)
      (λ cut.
      let next : reach (swap_of file 1536 0) (r + 1) ≡ reach false (r + 1) = ap (λ (swap : Bool). reach swap (r + 1)) off in
      omega (arith, leb-false _ (506 * b) ((ds2_leads file 1536 b).stops cut), ds2_next file 1536 b r cut, next))
      (λ all.
      by_order (first_in l b) n
      (λ behind.
      omega (arith, (first_splits l reads_apart b).rest (first_in l b) (omega arith) behind, reach_upto false (first_in l b) r (omega (arith, upto))))
      (λ none. omega (arith, reach_upto false n r (omega (arith, upto)))))

  laid_fits : fits false file 1536 (blocks_for l) ≡ true
  laid_fits =
      each_fits false file 1536 (blocks_for l)
      (λ b h.
      let base : reach (swap_of file 1536 0) (ready false file 1536 b) ≡ reach false (ready false file 1536 b) =
      ap (λ (swap : Bool). reach swap (ready false file 1536 b)) (flag_off header n p (omega arith)) in
      le-leb (506 * (b + 1)) (base_at false file 1536 b + 12288) (omega (arith, read_upto b h, ds2_base file 1536 b, base)))

  -- and so of all that it begins with
  pub front_fits : (f rest : List ℕ) → f ++ rest ≡ file → fits false f 1536 (whole_blocks (length f) 1536) ≡ true
  front_fits f rest is =
      let long : length f + length rest ≡ length file = sym (length-append f rest) ∙ ap length is in
      let blocks : whole_blocks (length file) 1536 ≡ blocks_for l = omega (arith, file_long header (sp_laid n p)) in
      let all : fitting false (f ++ rest) 1536 (whole_blocks (length (f ++ rest)) 1536) ≡ blocks_for l =
      ap (λ (x : List ℕ). fitting false x 1536 (whole_blocks (length x) 1536)) is
      ∙ ap (fitting false file 1536) blocks
      ∙ eqb-true (fitting false file 1536 (blocks_for l)) (blocks_for l) laid_fits in
      fits_same false f rest 1536
      ∙ le-leb (whole_blocks (length f) 1536) (fitting false (f ++ rest) 1536 (whole_blocks (length (f ++ rest)) 1536)) (omega (arith, all, blocks, long))
