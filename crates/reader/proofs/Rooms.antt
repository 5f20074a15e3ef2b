-- When there is room for a piece, and how much always suffices; and what the numbers beside a reader's refusals tell.
-- Assumes nothing.
use Prim.Native.Nat.{ℕ, ◌+◌, ◌*◌, ◌/◌, ◌≤◌, ◌<◌}
use mathlib.Core.Path.{◌≡◌, sym, ap, ◌∙◌}
use mathlib.Core.List.{List, ◌++◌}
use mathlib.Core.Bool.{true, false, not}
use native.Mathlib.Omega.{arith}
use borrow.Author.Tests.{le-leb, lt-leb, leb-true, leb-false, eqb-true, eqb-false, not-false}
use lib.ListN.{length, length-append}
use lib.Dec.{eqb, leb}
use Rattle.tables.proofs.Cases.{by_test}
use Rattle.blocks.specs.Places.{limit}
use Rattle.blocks.specs.Headers.{Bytes}
use Rattle.blocks.proofs.Headers.{announced_grows, announced_same}
use Rattle.refusals.specs.Said.{answers, refuses}
use Rattle.refusals.proofs.Said.{not_both, by_demand}
use Rattle.hold.proofs.Ready.{ready_within}
use Rattle.reader.specs.State.{State, is_kind, is_dss, start_of, blocks_in, fits_by, owed, header_full, header_done, Sound}
use Rattle.reader.specs.Calls.{open_said, brings, piece_said, in_block, strict_by, lenient_by, strict, end_said}
use Rattle.reader.proofs.Laws.{bytes_joined}
use Rattle.reader.proofs.Ends.{by_choice, chosen_strict, chosen_lenient, chosen_neither}

module _ (s : State) (piece : List ℕ) where
  -- Where a reader takes pieces, the bytes joined are within the limit and every block fits, a piece is taken exactly if there is room for all
  -- that it brings out, and is otherwise refused by 8 with how many packets that are.
  pub room_decides : (room : ℕ) → s.phase ≡ 0 → length s.bytes + length piece ≤ limit → fits_by s.kind (s.bytes ++ piece) ≡ true
      → (brings s piece ≤ room → piece_said s piece room ≡ answers (brings s piece))
      × (room < brings s piece → piece_said s piece room ≡ refuses 8 (brings s piece))
  unfolding piece_said
  room_decides room taking small fit =
      let within = le-leb (length s.bytes + length piece) limit small in (
        (λ roomy. simp (taking, within, fit, le-leb (brings s piece) room roomy)),
        (λ full. simp (taking, within, fit, lt-leb (brings s piece) room full)),
      )

  -- what is known of a piece that is refused by 8
  eight_says : (room n : ℕ) → piece_said s piece room ≡ refuses 8 n
      → (s.phase ≡ 0) × (length s.bytes + length piece ≤ limit) × (fits_by s.kind (s.bytes ++ piece) ≡ true) × (room < brings s piece)
      × (brings s piece ≡ n)
  unfolding piece_said
  eight_says room n e =
      by_demand (eqb s.phase 0) e
      (λ taking e.
      by_demand (leb (length s.bytes + length piece) limit) e
      (λ within e.
      by_demand (fits_by s.kind (s.bytes ++ piece)) e
      (λ fit e.
      by_demand (leb (brings s piece) room) e (λ roomy e. absurd (not_both (sym e)))
      (λ full six is. (eqb-true s.phase 0 taking, leb-true _ limit within, fit, leb-false (brings s piece) room full, is)))
      (λ no seven is. absurd (omega (arith, seven))))
      (λ no two is. absurd (omega (arith, two))))
      (λ no six is. absurd (omega (arith, six)))

  -- The number beside 8 is more than there was room for, and it is enough: with so much room the same piece is taken, and that many come out.
  pub eight_is_enough : (room n : ℕ) → piece_said s piece room ≡ refuses 8 n
      → (room < n) × ((enough : ℕ) → n ≤ enough → piece_said s piece enough ≡ answers n)
  eight_is_enough room n e =
      let v = eight_says room n e in (
        omega (arith, v.3, v.4),
        (λ enough roomy. (room_decides enough v.0 v.1 v.2).0 (omega (arith, v.4)) ∙ ap answers v.4),
      )

  -- what a piece brings out was owed before it, or is announced by a block that it completes
  most_brought : Sound s → Bytes piece → s.phase ≡ 0 → brings s piece ≤ owed s + 255 * ((length piece + 511) / 512)
  most_brought sound bytes taking =
      let f = s.bytes ++ piece in
      let a = start_of s.kind in
      let had = blocks_in s.kind s.bytes in
      let all = blocks_in s.kind f in
      let long = length-append s.bytes piece in
      omega (
        arith,
        long,
        sound.taking taking,
        announced_same s.bytes piece a,
        announced_grows f a had all (bytes_joined s.bytes piece sound.bytes_are bytes) (omega (arith, long)),
        ready_within (is_dss s.kind) f a all,
      )

  -- Room that always suffices: for what was owed before the piece, and for 255 packets of each block that so many bytes can complete.
  pub ample_room : Sound s → Bytes piece → (room : ℕ) → owed s + 255 * ((length piece + 511) / 512) ≤ room → (n : ℕ)
      → piece_said s piece room ≡ refuses 8 n → ⊥
  ample_room sound bytes room ample n e =
      let v = eight_says room n e in
      omega (arith, ample, v.3, most_brought sound bytes v.0)

-- why a strict end is refused
strict_refused_by : {X : Type 0} (phase a long owed m n : ℕ) → strict_by phase a long owed ≡ refuses m n → (6 ≡ m → phase ≡ 1 → X) → (3 ≡ m → X)
    → (13 ≡ m → (in_block a long ≡ 0 → ⊥) → in_block a long ≡ n → X) → (14 ≡ m → in_block a long ≡ 0 → (owed ≡ 0 → ⊥) → owed ≡ n → X) → X
unfolding strict_by
strict_refused_by phase a long owed m n e six three thirteen fourteen =
    by_demand (not (eqb phase 1)) e
    (λ goes_on e.
    by_test (eqb phase 2) (λ ended. absurd (not_both (sym (rw ended at e))))
    (λ takes.
    by_demand (header_full a long) (rw takes at e)
    (λ full e.
    by_demand (eqb (in_block a long) 0) e
    (λ whole e.
    by_demand (eqb owed 0) e (λ none e. absurd (not_both (sym e)))
    (λ some is beside. fourteen is (eqb-true (in_block a long) 0 whole) (eqb-false owed 0 some) beside))
    (λ cut is beside. thirteen is (eqb-false (in_block a long) 0 cut) beside))
    (λ cut is beside. three is)))
    (λ drains is beside. six is (eqb-true phase 1 (not-false _ drains)))

-- The number beside 10 is the kind that there is not.
pub ten_tells : (kind n : ℕ) → open_said kind ≡ refuses 10 n → (is_kind kind ≡ false) × (n ≡ kind)
unfolding open_said
ten_tells kind n e = by_demand (is_kind kind) e (λ known e. absurd (not_both (sym e))) (λ unknown ten is. (unknown, sym is))

module _ (s : State) (choice room n : ℕ) where
  abbrev a : ℕ
  a = start_of s.kind

  abbrev long : ℕ
  long = length s.bytes

  -- why any end is, by a number m with n beside it
  refused_by : {X : Type 0} (m : ℕ) → end_said s choice room ≡ refuses m n → (choice ≡ strict → 6 ≡ m → s.phase ≡ 1 → X) → (3 ≡ m → X)
      → (choice ≡ strict → 13 ≡ m → (in_block a long ≡ 0 → ⊥) → in_block a long ≡ n → X)
      → (choice ≡ strict → 14 ≡ m → in_block a long ≡ 0 → (owed s ≡ 0 → ⊥) → owed s ≡ n → X) → (1 < choice → 22 ≡ m → 0 ≡ n → X) → X
  unfolding lenient_by
  refused_by m e six three thirteen fourteen twenty-two =
      by_choice choice
      (λ is.
      strict_refused_by s.phase a long (owed s) m n (sym (chosen_strict choice s.phase a long (owed s) room is) ∙ e) (six is) three (thirteen is)
      (fourteen is))
      (λ is.
      by_demand (header_done s) (sym (chosen_lenient choice s.phase a long (owed s) room is) ∙ e) (λ full e. absurd (not_both (sym e)))
      (λ cut is beside. three is))
      (λ not-strict not-lenient.
      by_demand false {rest = answers 0} (sym (chosen_neither choice s.phase a long (owed s) room not-strict not-lenient) ∙ e)
      (λ never e. absurd (not_both (sym e))) (λ so is beside. twenty-two (omega (arith, not-strict, not-lenient)) is beside))

  -- An end is refused by 6 only if it is a strict one while the reader drains.
  pub six_tells : end_said s choice room ≡ refuses 6 n → (choice ≡ strict) × (s.phase ≡ 1)
  six_tells e =
      refused_by 6 e (λ strictly is draining. (strictly, draining)) (λ is. absurd (omega (arith, is)))
      (λ strictly is some inside. absurd (omega (arith, is))) (λ strictly is whole some owes. absurd (omega (arith, is)))
      (λ other is none. absurd (omega (arith, is)))

  -- By 13 and 14 only a strict one: beside them are how many bytes there are of a block that is not whole, and, where every block is whole, the
  -- frames owed.
  pub thirteen_tells : end_said s choice room ≡ refuses 13 n
      → (choice ≡ strict) × (length s.bytes ≡ start_of s.kind + 512 * blocks_in s.kind s.bytes + n) × (0 < n) × (n < 512)
  thirteen_tells e =
      refused_by 13 e (λ strictly is draining. absurd (omega (arith, is))) (λ is. absurd (omega (arith, is)))
      (λ strictly is some inside. (strictly, omega (arith, some, inside), omega (arith, some, inside), omega (arith, inside)))
      (λ strictly is whole some owes. absurd (omega (arith, is))) (λ other is none. absurd (omega (arith, is)))

  pub fourteen_tells : end_said s choice room ≡ refuses 14 n
      → (choice ≡ strict) × (in_block (start_of s.kind) (length s.bytes) ≡ 0) × (n ≡ owed s) × (0 < n)
  fourteen_tells e =
      refused_by 14 e (λ strictly is draining. absurd (omega (arith, is))) (λ is. absurd (omega (arith, is)))
      (λ strictly is some inside. absurd (omega (arith, is)))
      (λ strictly is whole some owes. (strictly, whole, sym owes, omega (arith, some, owes))) (λ other is none. absurd (omega (arith, is)))

  -- By 22 only a choice that is neither, with 0 beside it.
  pub twenty_two_tells : end_said s choice room ≡ refuses 22 n → (1 < choice) × (n ≡ 0)
  twenty_two_tells e =
      refused_by 22 e (λ strictly is draining. absurd (omega (arith, is))) (λ is. absurd (omega (arith, is)))
      (λ strictly is some inside. absurd (omega (arith, is))) (λ strictly is whole some owes. absurd (omega (arith, is)))
      (λ other is none. (other, sym none))
