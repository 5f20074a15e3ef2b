-- What is written and what is refused, and by which number, exactly: in the words of reading, for every header, list and room.
-- Assumes nothing.
use Prim.Native.Nat.{ℕ, ◌*◌}
use mathlib.Core.Path.{◌≡◌, sym, ◌∙◌}
use mathlib.Core.List.{List}
use mathlib.Core.Bool.{false}
use native.Mathlib.Omega.{arith}
use borrow.Author.Tests.{eqb-true, eqb-false, eq-eqb, ne_eqb, leb-true, leb-false, le-leb, lt-leb}
use lib.ListN.{length}
use lib.Dec.{leb, eqb}
use Rattle.tables.proofs.Cases.{by_order, by_equal, by_test, never}
use Rattle.blocks.specs.Places.{limit}
use Rattle.refusals.specs.Said.{answers, refuses, result_says}
use Rattle.refusals.proofs.Said.{not_both, by_demand}
use Rattle.laying.specs.Header.{is_header}
use Rattle.laying.proofs.Admitted.{header_is, header_if}
use Rattle.writing.specs.Laying.{many_in}
use Rattle.writing.specs.Outcome.{sound_in, size_of, written_size, Writes}
use Rattle.writing.specs.Writable.{AllSound, FirstUnsound, file_size, Writable, Unwritable}
use Rattle.writing.specs.Writable.Unwritable.{no_header, bad_packet, too_long, no_room}
use Rattle.writing.proofs.Outcome.{sound_upto, sound_each, sound_most, sound_not}
use Rattle.writing.proofs.Theorems.{accepted}
use Rattle.std.specs.Prelude.{Result}
use Rattle.refusals.specs.declared.Refusal.{Refusal}

-- all packets are sound exactly if those that a list begins with are all of it, and the first that is not follows them
module _ (packets : List ℕ) where
  all_sound : 42 * sound_in packets ≡ length packets → AllSound packets
  all_sound all k h = (omega (arith, all), sound_each packets k (omega (arith, all)))

  first_unsound : (42 * sound_in packets ≡ length packets → ⊥) → FirstUnsound packets (sound_in packets)
  first_unsound other =
      record {
        before = λ j h. (omega (arith, sound_most packets), sound_each packets j h);
        there = omega (arith, sound_most packets, other);
        unsound =
            λ sound.
            by_order (sound_in packets) (many_in packets) (λ less. sound_not packets less sound.1) (λ all. omega (arith, sound.0, sound_most packets));
      }

  sound_all : AllSound packets → 42 * sound_in packets ≡ length packets
  sound_all all =
      by_equal (42 * sound_in packets) (length packets) (λ e. e)
      (λ other. let f = first_unsound other in absurd (f.unsound (all (sound_in packets) f.there)))

  sound_is : (k : ℕ) → FirstUnsound packets k → sound_in packets ≡ k
  sound_is k f =
      sound_upto packets k (omega (arith, f.there)) (λ j h. (f.before j h).1) (λ h zero. f.unsound (omega arith, zero))

module _ (header packets : List ℕ) (room : ℕ) where
  may_say : Writable header packets room → written_size header packets room ≡ answers (file_size packets)
  unfolding written_size
  may_say m =
      simp (header_if header m.supplied, eq-eqb _ _ (sound_all packets m.all_sound), le-leb (size_of packets) limit m.small, le-leb (size_of packets) room m.fits)

  may_not_say : (number beside : ℕ) → Unwritable header packets room number beside → written_size header packets room ≡ refuses number beside
  unfolding written_size
  may_not_say number beside (no_header none) =
      let bad : is_header header ≡ false = by_test (is_header header) (λ is. absurd (none (header_is header is))) (λ no. no) in
      simp bad
  may_not_say number beside (bad_packet good f) =
      rw (sound_is packets beside f) (simp (header_if header good, ne_eqb (42 * beside) (length packets) (λ e. omega (arith, f.there, e))))
  may_not_say number beside (too_long good all over) =
      simp (header_if header good, eq-eqb _ _ (sound_all packets all), lt-leb (size_of packets) limit over)
  may_not_say number beside (no_room good all small less) =
      simp (header_if header good, eq-eqb _ _ (sound_all packets all), le-leb (size_of packets) limit small, lt-leb (size_of packets) room less)

  why_not : (number beside : ℕ) → written_size header packets room ≡ refuses number beside → Unwritable header packets room number beside
  unfolding written_size
  why_not number beside e =
      by_demand (is_header header) e
      (λ good e.
      by_demand (eqb (42 * sound_in packets) (length packets)) e
      (λ all e.
      let supplied = header_is header good in
      let sound = all_sound packets (eqb-true (42 * sound_in packets) (length packets) all) in
      by_demand (leb (size_of packets) limit) e
      (λ small e.
      by_demand (leb (size_of packets) room) e (λ fits e. absurd (not_both (sym e)))
      (λ less n b. rw (← n, ← b) (no_room supplied sound (leb-true (size_of packets) limit small) (leb-false (size_of packets) room less))))
      (λ over n b. rw (← n, ← b) (too_long supplied sound (leb-false (size_of packets) limit over))))
      (λ some n b. rw (← n, ← b) (bad_packet (header_is header good) (first_unsound packets (eqb-false (42 * sound_in packets) (length packets) some)))))
      (λ bad n b. rw (← n, ← b) (no_header (λ h. never (header_if header h) bad)))

module _ (header packets out out' : List ℕ) (answer : Result ℕ Refusal) (w : Writes header packets out out' answer) where
  -- A call is answered exactly if what it is given may be written, and then with the file's length.
  pub answered_exactly : (Writable header packets (length out) → result_says answer ≡ answers (file_size packets))
      × ((size : ℕ) → result_says answer ≡ answers size → Writable header packets (length out))
  answered_exactly = (
    λ may. w.answer_is ∙ may_say header packets (length out) may,
    λ size e.
        let a = accepted header packets (length out) size (sym w.answer_is ∙ e) in
        record { supplied = header_is header a.supplied; all_sound = all_sound packets a.all; small = a.small; fits = a.fits },
  )

  -- It is refused by a number, with another beside it, exactly if it may not be written for the cause that these two stand for.
  pub refused_exactly : (number beside : ℕ) → (Unwritable header packets (length out) number beside → result_says answer ≡ refuses number beside)
      × (result_says answer ≡ refuses number beside → Unwritable header packets (length out) number beside)
  refused_exactly number beside = (
    λ may-not. w.answer_is ∙ may_not_say header packets (length out) number beside may-not,
    λ e. why_not header packets (length out) number beside (sym w.answer_is ∙ e),
  )
