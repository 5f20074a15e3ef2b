-- The sound states are those that open and the calls lead to, and no others.
-- Assumes nothing.
use Prim.Native.Nat.{ℕ, ◌+◌, min}
use mathlib.Core.Path.{◌≡◌, sym, ap, ap₂, ◌∙◌, subst}
use mathlib.Core.List.{List}
use mathlib.Core.Bool.{true, cond}
use native.Mathlib.Omega.{arith}
use borrow.Author.Tests.{le-leb, eq-eqb, ne_eqb}
use lib.ListN.{length}
use lib.Dec.{eqb}
use Rattle.tables.proofs.Cases.{by_equal}
use Rattle.blocks.specs.Places.{limit}
use Rattle.blocks.specs.Headers.{Bytes}
use Rattle.refusals.specs.Said.{answers}
use Rattle.refusals.proofs.Said.{by_said}
use Rattle.reader.specs.State.{State, opened, owed, header_done, Sound}
use Rattle.reader.specs.Calls.{open_said, after_open, brings, piece_said, after_piece, lenient_by, lenient, end_said, after_end, Reachable, by_open, by_piece, by_end}
use Rattle.reader.proofs.Opened.{opened_sound}
use Rattle.reader.proofs.Piecing.{next_sound}
use Rattle.reader.proofs.Within.{end_within}
use Rattle.reader.proofs.Draining.{drained_sound}
use Rattle.reader.proofs.Folding.{holding, lighter}

-- a call leads from a sound state to a sound one
after_piece_lem : (s : State) (piece : List ℕ) (room : ℕ) → Bytes piece → Sound s → Sound (after_piece s piece (piece_said s piece room))
after_piece_lem s piece room bytes sound =
    by_said (piece_said s piece room)
    (λ n e. rw e (next_sound s piece sound bytes room e))
    (λ why e. rw e sound)

after_end_lem : (s : State) (choice room : ℕ) → Sound s → Sound (after_end s (end_said s choice room))
after_end_lem s choice room sound =
    by_said (end_said s choice room)
    (λ n e. let within = end_within sound choice room e in rw e (drained_sound s n sound within.1 within.2))
    (λ why e. rw e sound)

-- what open and the calls lead to is sound
pub reachable_sound : {s : State} → Reachable s → Sound s
reachable_sound (by_open kind) = opened_sound kind
reachable_sound (by_piece {s} piece room bytes before) = after_piece_lem s piece room bytes (reachable_sound before)
reachable_sound (by_end {s} choice room before) = after_end_lem s choice room (reachable_sound before)

module _ (s : State) (sound : Sound s) where
  -- a fresh reader that is given all bytes at once
  abbrev given : State
  given = holding (opened s.kind) s.bytes

  abbrev room : ℕ
  room = brings (opened s.kind) s.bytes

  opened_is : after_open s.kind (open_said s.kind) ≡ opened s.kind
  unfolding open_said
  opened_is = rw sound.kind_is

  given_said : piece_said (opened s.kind) s.bytes room ≡ answers room
  unfolding piece_said
  given_said = simp (le-leb (length (opened s.kind).bytes + length s.bytes) limit (omega (arith, sound.small)), sound.fit, le-leb room room (omega arith))

  given_reachable : Reachable given
  given_reachable =
      subst Reachable (ap (after_piece (opened s.kind) s.bytes) given_said)
      (by_piece s.bytes room sound.bytes_are (subst Reachable opened_is (by_open s.kind)))

  -- is ended leniently with room for what was drained
  left : min s.drained (owed given) ≡ s.drained
  left = omega (arith, sound.among)

  ended_said : header_done s ≡ true → end_said given lenient s.drained ≡ answers s.drained
  unfolding lenient_by
  ended_said full = simp (full, left)

  ended_reachable : header_done s ≡ true → cond (eqb s.drained (owed given)) 2 1 ≡ s.phase → Reachable s
  ended_reachable full phase-is =
      let many : 0 + s.drained ≡ s.drained = omega arith in
      let same : after_end given (answers s.drained) ≡ s = ap₂ (lighter s) many phase-is in
      subst Reachable (ap (after_end given) (ended_said full) ∙ same) (by_end lenient s.drained given_reachable)

  -- so every sound state is led to
  pub sound_reachable : Reachable s
  sound_reachable =
      by_equal s.phase 0
      (λ taking. subst Reachable (ap₂ (lighter s) (sym (sound.taking taking)) (sym taking)) given_reachable)
      (λ done.
      let full = sound.header done in
      by_equal s.phase 1
      (λ draining. ended_reachable full (simp (ne_eqb s.drained (owed given) (λ e. omega (arith, sound.draining draining)), draining)))
      (λ not-draining.
      let ended : s.phase ≡ 2 = omega (arith, sound.phases) in
      ended_reachable full (simp (eq-eqb s.drained (owed given) (omega (arith, sound.ended ended, sound.among)), ended))))
