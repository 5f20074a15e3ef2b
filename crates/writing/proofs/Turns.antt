-- A packet put and counted: where the output holds the file of the first k packets, it then holds that of one more.
-- Assumes nothing.
use Prim.Native.Nat.{ℕ, ◌+◌, ◌*◌, ◌-◌, ◌/◌, ◌%◌, ◌≤◌, ◌<◌}
use mathlib.Core.Path.{◌≡◌, refl, sym, ap, ◌∙◌, subst}
use mathlib.Core.List.{List}
use mathlib.Core.Bool.{Bool, true, false, cond}
use native.Mathlib.Numerals.{add-one}
use native.Mathlib.Omega.{arith}
use borrow.Author.Tests.{eq-eqb, ne_eqb, le-ltb}
use lib.ListN.{get_or}
use lib.Dec.{eqb}
use Rattle.tables.specs.Lent.{Leaves}
use Rattle.tables.proofs.Lent.{leaves_to, leaves_at, leaves_twice}
use Rattle.tables.proofs.Cases.{by_equal, never}
use Rattle.packets.specs.Packet.{read_size}
use Rattle.packets.specs.Walk.{reach, parity}
use Rattle.laying.specs.Laid.{count_in, head_byte, file_byte}
use Rattle.laying.specs.Inner.{no_frames, Puts, Counts, count_at, Holds, streaming}
use Rattle.laying.proofs.Frames.{few_in}
use Rattle.laying.proofs.Files.{head_is}
use Rattle.laying.proofs.Steps.{put_beside, begun_is, put_holds, count_holds}
use Rattle.writing.specs.Reads.{read_byte}
use Rattle.writing.specs.Laying.{laid_read, laid_at, part_laid, sp_laid}
use Rattle.writing.specs.Inner.{PutsPacket}
use Rattle.writing.proofs.Laying.{even_is, odd_is, reads_apart, in_read, laid_in, stream_kept, read_put, carried_put}

-- the frame is counted when all its bytes are there
counted_turn : (d header e e' : List ℕ) (n k : ℕ) (p : ℕ → ℕ → ℕ) (swap : Bool) → k < n → swap ≡ parity false k
    → Holds d header (streaming (part_laid n p k) (laid_at (k + 1) p)) e → Counts e (reach false k) swap e'
    → Holds d header (part_laid n p (k + 1)) e'
counted_turn d header e e' n k p swap h is held counts =
    subst
    (λ (m : ℕ).
    Holds d header
    (record { kind = 0; many = m; at = reach false; swap = parity false; stream = laid_at (k + 1) p; end = reach false n }) e')
    (sym (add-one k))
    (count_holds (streaming (part_laid n p k) (laid_at (k + 1) p)) reads_apart header d e e' held (omega arith)
    (subst (λ (s : Bool). Counts e (reach false k) s e') is counts))

module _ (k : ℕ) (x : ℕ → ℕ) where
  -- what is read of a packet is read of one with the same bytes
  same_read : (swap : Bool) (y : ℕ → ℕ) → ((i : ℕ) → i < 42 → y i ≡ x i) → (i : ℕ) → i < read_size swap → read_byte swap 0 y i ≡ read_byte swap 0 x i
  unfolding read_byte
  same_read true y same i l =
      by_equal (i % 2) 0 (λ even. simp (eq-eqb (i % 2) 0 even) (same (i + 3) (omega arith)))
      (λ odd. simp (ne_eqb (i % 2) 0 odd) (same (i - 1) (omega arith)))
  same_read false y same i l = by_equal i 40 (λ e. simp (eq-eqb i 40 e)) (λ e. simp (ne_eqb i 40 e) (same i l))

  -- unswapped: its read
  pub puts_even : (e e' e'' : List ℕ) (q : ℕ) (f : ℕ → ℕ) → q ≡ reach false k → k % 2 ≡ 0 → ((i : ℕ) → i < 42 → f i ≡ read_byte false 0 x i)
      → Puts e q 42 f e' → Counts e' q false e'' → PutsPacket e k x e''
  puts_even e e' e'' q f is even read put counts =
      record {
        long = counts.long ∙ put.long;
        one_more = λ d header n p h same held.
            counted_turn d header e' e'' n k p false h (sym (even_is k even))
            (put_holds header (part_laid n p k) d e e' held (reach false k) 42 f (laid_at (k + 1) p) (omega arith)
            (λ i l. read_put p k false (even_is k even) i l ∙ same_read false (p k) same i l ∙ sym (read i l))
            (λ y outside.
            stream_kept p k y (λ low high. outside low (omega (arith, ap read_size (even_is k even)))) (λ odd. absurd (never odd (even_is k even))))
            (subst (λ (y : ℕ). Puts e y 42 f e') is put))
            (subst (λ (y : ℕ). Counts e' y false e'') is counts);
      }

  -- swapped: its byte 1 two places before, and its read
  pub puts_odd : (e e₁ e₂ e₃ : List ℕ) (q : ℕ) (f g : ℕ → ℕ) → q ≡ reach false k → (k % 2 ≡ 0 → ⊥) → f 0 ≡ x 1
      → ((i : ℕ) → i < 40 → g i ≡ read_byte true 0 x i) → Puts e (q - 2) 1 f e₁ → Puts e₁ q 40 g e₂ → Counts e₂ q true e₃ → PutsPacket e k x e₃
  puts_odd e e₁ e₂ e₃ q f g is odd one read first second counts =
      record {
        long = counts.long ∙ second.long ∙ first.long;
        one_more = λ d header n p h same held.
            counted_turn d header e₂ e₃ n k p true h (sym (odd_is k odd))
            (put_holds header (streaming (part_laid n p k) (λ y. cond (eqb y (reach false k - 2)) (p k 1) (laid_at k p y))) d e₁ e₂
            (put_holds header (part_laid n p k) d e e₁ held (reach false k - 2) 1 f (λ y. cond (eqb y (reach false k - 2)) (p k 1) (laid_at k p y)) (omega arith)
            (λ i l.
            let here : reach false k - 2 + i ≡ reach false k - 2 = omega arith in
            let none : 0 ≡ i = omega arith in
            simp (eq-eqb (reach false k - 2 + i) (reach false k - 2) here) (same 1 (omega arith) ∙ sym one ∙ ap f none))
            (λ y outside.
            let other : y ≡ reach false k - 2 → ⊥ = λ z. outside (omega arith) (omega arith) in
            simp (ne_eqb y (reach false k - 2) other))
            (subst (λ (y : ℕ). Puts e (y - 2) 1 f e₁) is first))
            (reach false k) 40 g (laid_at (k + 1) p) (omega arith)
            (λ i l. read_put p k true (odd_is k odd) i l ∙ same_read true (p k) same i l ∙ sym (read i l))
            (λ y outside.
            by_equal y (reach false k - 2)
            (λ z. simp (eq-eqb y (reach false k - 2) z) (ap (laid_at (k + 1) p) z ∙ carried_put p k odd))
            (λ other.
            simp (ne_eqb y (reach false k - 2) other)
            (stream_kept p k y (λ low high. outside low (omega (arith, ap read_size (odd_is k odd)))) (λ swapped z. other (omega arith)))))
            (subst (λ (y : ℕ). Puts e₁ y 40 g e₂) is second))
            (subst (λ (y : ℕ). Counts e₂ y true e₃) is counts);
      }

-- the file of no packet yet
pub none_yet : (header d e : List ℕ) (n : ℕ) (p : ℕ → ℕ → ℕ) (blocks : ℕ) → blocks ≡ (reach false n + 505) / 506
    → Leaves d 0 (1536 + 512 * blocks) (file_byte header (no_frames 0)) e → Holds e header (part_laid n p 0) e
unfolding laid_read
none_yet header d e n p blocks is begun =
    record {
      long = refl;
      new = λ x h.
          begun.new x (omega arith) ∙ begun_is header (part_laid n p 0) refl zeros x;
      low = λ x h. refl;
      high = λ x h. refl;
    }
  where
    zeros : (q : ℕ) → laid_at 0 p q ≡ 0
    zeros q = in_read q (λ k j h is. rw is (laid_in 0 p k j h ∙ simp (le-ltb k 0 (omega arith))))

-- the count that stands in a block's header is small
pub few_there : (header d e : List ℕ) (n k : ℕ) (p : ℕ → ℕ → ℕ) → k < n → Holds d header (part_laid n p k) e
    → get_or e (count_at (reach false k)) 0 ≤ 43
unfolding head_byte
few_there header d e n k p h held =
    let stands : get_or e (count_at (reach false k)) 0 ≡ count_in (part_laid n p k) (reach false k / 506) =
    leaves_at held (count_at (reach false k)) (omega arith) ∙ head_is header (part_laid n p k) (reach false k / 506) 2 (omega arith) in
    omega (arith, stands, few_in (part_laid n p k) reads_apart (reach false k / 506))

-- and what is put leaves it so
pub still_few : {d e : List ℕ} {q n : ℕ} {f : ℕ → ℕ} (at there : ℕ) → at ≡ there → Puts d q n f e → get_or d (count_at there) 0 < 255
    → get_or e (count_at at) 0 < 255
still_few {d} {e} at there is put few =
    let same : count_at at ≡ count_at there = ap count_at is in
    omega (arith, put_beside put (at / 506) 2 (omega arith), ap (λ (x : ℕ). get_or d x 0) same)

-- the file of all of them
pub laid_all : (header d e e' : List ℕ) (n k blocks : ℕ) (p : ℕ → ℕ → ℕ) → blocks ≡ (reach false n + 505) / 506 → k ≡ n
    → Leaves d 0 (1536 + 512 * blocks) (file_byte header (no_frames 0)) e → Holds e header (part_laid n p k) e' → Holds d header (sp_laid n p) e'
laid_all header d e e' n k blocks p is all begun held =
    leaves_twice
    (leaves_to (ap (λ (b : ℕ). 1536 + 512 * b) is) begun)
    (subst (λ (m : ℕ). Holds e header (part_laid n p m) e') all held)
