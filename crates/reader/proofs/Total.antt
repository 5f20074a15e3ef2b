-- What holds of every call of a reader, whatever it is given: what the calls demand of the reader holds again after each, a refused call
-- changes nothing, and a call has one outcome. And what is answered at an end and after it, and in a header. Assumes nothing.
use Prim.Native.Nat.{ℕ, ◌<◌, min}
use mathlib.Core.Path.{◌≡◌, refl, sym, ap, ◌∙◌}
use mathlib.Core.List.{List, ◌++◌}
use mathlib.Core.Bool.{true, false}
use native.Mathlib.Omega.{arith}
use borrow.Author.Tests.{lt-leb, ne_eqb}
use lib.ListN.{length}
use Rattle.tables.proofs.Cases.{never}
use Rattle.tables.proofs.Lent.{leaves_none, leaves_over}
use Rattle.blocks.specs.Headers.{Bytes}
use Rattle.refusals.specs.declared.Numbers.{Numbers}
use Rattle.refusals.specs.Said.{answers, refuses, refusal, result_says}
use Rattle.refusals.proofs.Said.{by_said}
use Rattle.sp.specs.Outcome.{room_in}
use Rattle.hold.proofs.Front.{dss_fits}
use Rattle.reader.specs.declared.Reader.{Reader}
use Rattle.reader.specs.declared.Step.{Step}
use Rattle.reader.specs.State.{State, is_dss, start_of, blocks_in, opened, unopened, owed, reader_of, header_done, Sound, Reached}
use Rattle.reader.specs.Calls.{after_open, piece_said, after_piece, strict_by, lenient_by, strict, lenient, end_said, after_end, handed_by, Opens}
use Rattle.reader.specs.History.{PieceCall, EndCall, OwedCall}
use Rattle.reader.proofs.Laws.{at_state, steps_by, hands_by, refused_by, reached_by, only_step, only_outcome, seven_given_by, header_full_lem, bytes_joined, ends_empty}
use Rattle.reader.proofs.Ends.{chosen_neither}
use Rattle.reader.proofs.Within.{strict_none}
use Rattle.reader.proofs.Folding.{after_strict}

-- The calls demand one thing, a reader that open or an earlier call gave back. Open, refused too, gives one back.
pub reached_opened : (kind : ℕ) {step : Step} → Opens kind step → Reached step.reader
reached_opened kind opens = reached_by opens

-- A refused open gives back an ended reader of kind 0.
pub refused_open_ends : (kind : ℕ) {step : Step} → Opens kind step → (why : Numbers) → result_says step.answer ≡ refusal why
    → step.reader ≡ reader_of unopened
refused_open_ends kind opens why e = (steps_by (after_open kind) e opens).reader_is

-- Two outcomes of open are the same: answer and reader.
pub only_opened : (kind : ℕ) {step step' : Step} → Opens kind step → Opens kind step' → step ≡ step'
only_opened kind one other = only_step one other

module _ {reader : Reader} {piece out out' counts counts' : List ℕ} {step : Step} (known : Reached reader)
    (call : PieceCall reader piece out out' counts counts' step) where
  -- A piece, accepted or refused, gives such a reader back.
  pub reached_piece : Reached step.reader
  reached_piece = reached_by (at_state known call).steps

  -- A refused piece changes nothing: the reader, the output and the counts are as they were, and so the reader goes on as if the piece had
  -- not been given.
  pub refused_piece_keeps : (why : Numbers) → result_says step.answer ≡ refusal why
      → (step.reader ≡ reader) × (out' ≡ out) × (counts' ≡ counts)
  refused_piece_keeps why e =
      let v = at_state known call in
      let kept = refused_by (after_piece known.state piece) e v.steps v.hands in
      (kept.0 ∙ sym known.is, kept.1, kept.2)

  -- Two outcomes of a piece are the same: answer, next reader, output and counts.
  pub only_piece : {out'' counts'' : List ℕ} {step' : Step} → PieceCall reader piece out out'' counts counts'' step'
      → (step ≡ step') × (out' ≡ out'') × (counts' ≡ counts'')
  only_piece other =
      let v = at_state known call in
      let w = at_state known other in
      only_outcome v.steps w.steps v.hands w.hands

module _ {reader : Reader} {choice : ℕ} {out out' counts counts' : List ℕ} {step : Step} (known : Reached reader)
    (call : EndCall reader choice out out' counts counts' step) where
  -- The same three of an end, by whichever choice.
  pub reached_end : Reached step.reader
  reached_end = reached_by (at_state known call).steps

  pub refused_end_keeps : (why : Numbers) → result_says step.answer ≡ refusal why
      → (step.reader ≡ reader) × (out' ≡ out) × (counts' ≡ counts)
  refused_end_keeps why e =
      let v = at_state known call in
      let kept = refused_by (after_end known.state) e v.steps v.hands in
      (kept.0 ∙ sym known.is, kept.1, kept.2)

  pub only_end : {out'' counts'' : List ℕ} {step' : Step} → EndCall reader choice out out'' counts counts'' step'
      → (step ≡ step') × (out' ≡ out'') × (counts' ≡ counts'')
  only_end other =
      let v = at_state known call in
      let w = at_state known other in
      only_outcome v.steps w.steps v.hands w.hands

-- A strict end hands out nothing and touches no lent byte, answered or refused.
pub strict_end_hands_nothing : {reader : Reader} {out out' counts counts' : List ℕ} {step : Step} → Reached reader
    → EndCall reader strict out out' counts counts' step → (handed_by (result_says step.answer) ≡ 0) × (out' ≡ out) × (counts' ≡ counts)
strict_end_hands_nothing {out = out} {counts = counts} {step = step} known call =
    let v = at_state known call in
    by_said (result_says step.answer)
    (λ n said.
    let none = (strict_none known.sound (room_in out counts) (sym v.steps.answer_is ∙ said)).0 in
    let kept = hands_by (said ∙ ap answers none) v.steps v.hands in
    (ap handed_by said ∙ none, kept.out_is ∙ sym (leaves_over (leaves_none out 0 _)), kept.counts_are ∙ sym (leaves_over (leaves_none counts 0 _))))
    (λ why said. let kept = refused_end_keeps known call why said in (ap handed_by said, kept.1, kept.2))

-- Two answers to how many frames are owed are the same.
pub only_owed : {reader : Reader} {m n : ℕ} → Reached reader → OwedCall reader m → OwedCall reader n → m ≡ n
only_owed known one other = at_state known one ∙ sym (at_state known other)

-- The strict end is asked for by 0, the lenient one by 1, and by no other number either, in whatever phase.
pub ends_by_number : (s : State) (room : ℕ)
    → (end_said s 0 room ≡ strict_by s.phase (start_of s.kind) (length s.bytes) (owed s))
    × (end_said s 1 room ≡ lenient_by (start_of s.kind) (length s.bytes) (owed s) room)
    × ((choice : ℕ) → 1 < choice → end_said s choice room ≡ refuses 22 0)
ends_by_number s room = (refl, refl, (λ choice other. chosen_neither choice _ _ _ (owed s) room (λ e. omega arith) (λ e. omega arith)))

-- A strict end that is answered hands out nothing, nothing is owed, and the reader has ended; nothing else of its state has changed.
pub strict_end_ends : (s : State) (room n : ℕ) → Sound s → end_said s strict room ≡ answers n → (n ≡ 0) × (owed s ≡ 0)
    × (after_end s (answers n) ≡ record { kind = s.kind; bytes = s.bytes; drained = s.drained; phase = 2 })
strict_end_ends s room n sound said =
    let none = strict_none sound room said in
    (none.0, none.1, after_strict s room n sound said)

module _ (s : State) (piece : List ℕ) (room : ℕ) where
  -- A reader that has ended answers 0 packets to either end, and refuses every piece by 6.
  pub ended_answers_none : Sound s → s.phase ≡ 2
      → (end_said s strict room ≡ answers 0) × (end_said s lenient room ≡ answers 0) × (piece_said s piece room ≡ refuses 6 0)
  unfolding strict_by lenient_by piece_said
  ended_answers_none sound ended =
      let full = sound.header (λ e. omega arith) in
      let none : min room 0 ≡ 0 = omega arith in
      (simp ended, simp (full, sound.ended ended, none), simp ended)

  -- One that drains refuses pieces and the strict end by 6, and the lenient end hands out what is owed as far as there is room.
  pub draining_goes_on : Sound s → s.phase ≡ 1
      → (piece_said s piece room ≡ refuses 6 0) × (end_said s strict room ≡ refuses 6 0) × (end_said s lenient room ≡ answers (min room (owed s)))
  unfolding strict_by lenient_by piece_said
  draining_goes_on sound draining = (simp draining, simp draining, simp (sound.header (λ e. omega arith)))

  -- Refusal 7 is never given for DSS.
  pub never_seven : Sound s → is_dss s.kind ≡ true → Bytes piece → piece_said s piece room ≡ refuses 7 12288 → ⊥
  never_seven sound dss bytes e =
      let f = s.bytes ++ piece in
      let all_bytes = bytes_joined s.bytes piece sound.bytes_are bytes in
      never (rw dss (dss_fits f (start_of s.kind) (blocks_in s.kind f) all_bytes)) (seven_given_by s piece room e)

-- An end before any input succeeds, with no packets, and none is owed.
pub no_input_ends : (kind room : ℕ)
    → (end_said (opened kind) strict room ≡ answers 0) × (end_said (opened kind) lenient room ≡ answers 0) × (owed (opened kind) ≡ 0)
no_input_ends kind room = ends_empty (opened kind) room refl (omega arith) refl

module _ (s : State) (room : ℕ) (taking : s.phase ≡ 0) where
  -- So does an end at the header's last byte: a bare header is an empty recording.
  pub bare_header_empty : length s.bytes ≡ start_of s.kind
      → (end_said s strict room ≡ answers 0) × (end_said s lenient room ≡ answers 0) × (owed s ≡ 0)
  bare_header_empty bare = ends_empty s room taking (omega arith) (header_full_lem (start_of s.kind) (length s.bytes) (omega arith))

  -- Either end inside the header is refused by 3, with the audio start beside it.
  pub cut_header_refused : 0 < length s.bytes → length s.bytes < start_of s.kind
      → (end_said s strict room ≡ refuses 3 (start_of s.kind)) × (end_said s lenient room ≡ refuses 3 (start_of s.kind))
  unfolding strict_by lenient_by
  cut_header_refused some cut =
      let cut_off : header_done s ≡ false = simp (ne_eqb (length s.bytes) 0 (λ e. omega arith), lt-leb _ _ cut) in
      (simp (taking, cut_off), simp cut_off)
