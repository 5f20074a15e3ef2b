-- What a host has that writes a file: numbers that say so or why not, a file that reads back, that is taken in pieces, and that is complete
-- as announced. Assumes nothing.
use Prim.Native.Nat.{ℕ, ◌+◌, ◌≤◌, ◌<◌}
use mathlib.Core.Path.{◌≡◌, refl, sym, ap, ◌∙◌, subst}
use mathlib.Core.List.{List, ◌++◌}
use mathlib.Core.Bool.{true}
use native.Mathlib.Omega.{arith}
use lib.ListN.{length, take, length-take, length-append}
use Rattle.tables.proofs.Cases.{by_order, by_test, never}
use Rattle.blocks.specs.Places.{limit}
use Rattle.refusals.specs.Numbers.{numbered}
use Rattle.refusals.specs.Said.{answers, refusal, is_among, result_says}
use Rattle.refusals.proofs.Said.{not_both, by_numbers, for_the_answer}
use Rattle.packets.specs.Packet.{read_size}
use Rattle.sp.specs.Readings.{Reading, total, CompleteAt}
use Rattle.sp.specs.Whole.{whole_at}
use Rattle.sp.proofs.Theorems.{complete_exactly}
use Rattle.sp.proofs.Whole.{short_before_unswapped}
use Rattle.writing.specs.Laying.{many_in, byte_in}
use Rattle.writing.specs.Writable.{file_size, Writable, Unwritable}
use Rattle.writing.specs.ReadBack.{ReadsBack}
use Rattle.writing.proofs.Theorems.{accepted, written_is, written_is_sp, written_reads_back}
use Rattle.writing.proofs.Exactly.{answered_exactly, refused_exactly}
use Rattle.tally.specs.Tallies.{tallied}
use Rattle.reader.specs.State.{State, start_of, reading_by, fits_by}
use Rattle.reader.specs.Calls.{brings, piece_said}
use Rattle.reader.specs.Agreement.{Agrees}
use Rattle.reader.proofs.Agreeing.{agrees_is, ds2_start}
use Rattle.reader.proofs.Rooms.{room_decides}
use Rattle.numbers.specs.declared.Answer.{Answer}
use Rattle.numbers.specs.declared.Tallied.{Tallied}
use Rattle.numbers.specs.Numbers.{tally_numbers}
use Rattle.klovdrun.specs.Wrapped.{WriteCarries}
use Rattle.klovdrun.specs.Announced.{AsAnnounced}
use Rattle.klovdrun.proofs.Theorems.{write_tells}
use Rattle.klovdrun.proofs.Lacking.{never_lacks}
use Rattle.klovdrun.proofs.Announced.{tallied_as}
use Rattle.klovdrun.proofs.Fitting.{front_fits}

-- a host's call of `klov_write_ds2_sp`
module _ {header packets out out' : List ℕ} {r : Answer} (c : WriteCarries header packets out out' r) where
  -- What may be written is written: refusal is 0, and first the file's length.
  pub told_written : Writable header packets (length out) → (r.refusal ≡ 0) × (r.first ≡ file_size packets)
  told_written may =
      let said = sym c.comes.answer_is ∙ (answered_exactly header packets out out' c.answer c.comes).0 may in
      by_order 0 r.refusal
      (λ some. absurd (not_both (sym ((write_tells c).above some).1 ∙ said)))
      (λ none.
      let t = (write_tells c).zero (omega arith) in
      (omega arith, for_the_answer (λ n. r.first ≡ n) (sym t.1 ∙ said) t.3))

  -- Whatever refusal is told, its number and the one beside it say why.
  pub told_why : 0 < r.refusal → Unwritable header packets (length out) r.refusal r.beside
  unfolding is_among
  told_why some =
      let t = (write_tells c).above some in
      let why = t.0 in
      let none = never_lacks (write_tells c) refl refl in
      let plain : why ≡ numbered why.number why.beside = by_numbers why refl refl (sym t.6 ∙ none.0) (sym t.7 ∙ none.1) in
      let said = (refused_exactly header packets out out' c.answer c.comes why.number why.beside).1
      (c.comes.answer_is ∙ t.1 ∙ ap refusal plain) in
      subst (λ (number : ℕ). Unwritable header packets (length out) number r.beside) (sym t.2)
      (subst (λ (beside : ℕ). Unwritable header packets (length out) why.number beside) (sym t.3) said)

-- one that answered
module _ {header packets out out' : List ℕ} {r : Answer} (c : WriteCarries header packets out out' r) (answered : r.refusal ≡ 0) where
  says : result_says c.answer ≡ answers r.first
  says =
      let t = (write_tells c).zero answered in
      c.comes.answer_is ∙ t.1 ∙ ap answers (sym t.3)

  -- The file is the first bytes of the output, as many as first says; read whole, it has the packets.
  pub told_reads_back : (reading : Reading) × ReadsBack packets (take r.first out') reading
  told_reads_back = written_reads_back header packets out out' c.answer c.comes r.first says

  small : length (take r.first out') ≤ limit
  small =
      let size = accepted header packets (length out) r.first (sym c.comes.answer_is ∙ says) in
      omega (arith, length-take r.first out', size.size_is, size.small)

  -- It is one of those files whose reading in pieces is the whole reading.
  pub written_agrees : Agrees 0 (take r.first out')
  written_agrees =
      let w = written_is_sp header packets out out' c.answer c.comes r.first says in
      record {
        full = omega (arith, w.3, ds2_start 0 refl);
        dss = λ dss. absurd (never dss refl);
        ds2 = λ ds2. (w.0, w.1, omega (arith, w.2));
      }

  -- A reader of DS2 that has taken some of it takes every piece that follows, if there is room for what that brings out: none is refused by 7.
  pub written_taken : (s : State) (piece rest : List ℕ) (room : ℕ) → s.kind ≡ 0 → s.phase ≡ 0
      → (s.bytes ++ piece) ++ rest ≡ take r.first out' → brings s piece ≤ room → piece_said s piece room ≡ answers (brings s piece)
  unfolding start_of
  written_taken s piece rest room kind taking is enough =
      let w = written_is header packets out out' c.answer c.comes r.first says in
      let long : length s.bytes + length piece + length rest ≡ length (take r.first out') =
      omega (arith, length-append (s.bytes ++ piece) rest, length-append s.bytes piece, ap length is) in
      (room_decides s piece room taking (omega (arith, small))
      (subst (λ (k : ℕ). fits_by k (s.bytes ++ piece) ≡ true) (sym kind)
      (front_fits header (many_in packets) (byte_in packets) (s.bytes ++ piece) rest (is ∙ w.0)))
      ).0 enough

  -- And the numbers of its tally say that it is complete as announced.
  pub written_complete : {told : Tallied} → told ≡ tally_numbers (tallied (take r.first out')) → AsAnnounced told (length (take r.first out'))
  written_complete is =
      let w = written_is_sp header packets out out' c.answer c.comes r.first says in
      tallied_as 0 (take r.first out') small written_agrees is whole (omega (arith, w.3, ds2_start 0 refl))
    where
      back : ReadsBack packets (take r.first out') told_reads_back.0
      back = told_reads_back.1

      complete : (k : ℕ) → k < total told_reads_back.0 → CompleteAt told_reads_back.0 k
      complete k h = (complete_exactly told_reads_back.0 k).1 (back.full k h ∙ ap read_size (sym (back.swapped k h)))

      whole : (k : ℕ) → k < total (reading_by 0 (take r.first out')) → whole_at (reading_by 0 (take r.first out')) k ≡ true
      whole =
          for_the_answer (λ x. (k : ℕ) → k < total x → whole_at x k ≡ true)
          (sym back.is_read ∙ agrees_is 0 (take r.first out') small written_agrees)
          (λ k h.
          let reading = told_reads_back.0 in
          by_test (whole_at reading k) (λ t. t)
          (λ short.
          absurd
          (never
          ((short_before_unswapped reading k (λ j upto. complete j (omega arith))).0 short 0 (omega arith))
          (back.swapped 0 (omega arith)))))
