-- The end of a reader: as much of what is owed comes out of the hold as it says, and the state that is left.
-- Assumes nothing.
use Prim.Native.Nat.{ℕ, ◌+◌, ◌*◌, ◌-◌, ◌≤◌, ◌<◌}
use mathlib.Core.Path.{◌≡◌, refl, sym, ap, ◌∙◌, subst}
use mathlib.Core.List.{List}
use mathlib.Core.Bool.{Bool, true, cond}
use native.Mathlib.Omega.{arith}
use borrow.Author.Tests.{leb-true, eqb-true, eqb-false}
use lib.ListN.{length}
use lib.Dec.{eqb}
use Rattle.tables.proofs.Cases.{by_order, by_test, either_most}
use Rattle.tables.proofs.Lent.{leaves_over}
use Rattle.blocks.specs.Places.{Whole, whole_blocks}
use Rattle.refusals.specs.Said.{refusal, answers, result_says}
use Rattle.sp.specs.Readings.{carry_at}
use Rattle.sp.specs.Outcome.{room_in}
use Rattle.hold.specs.Ready.{reading_in, ready}
use Rattle.hold.specs.Held.{base_at, fits}
use Rattle.hold.specs.Inner.{PartWritten, Owing}
use Rattle.hold.proofs.Front.{fits_each}
use Rattle.hold.proofs.Longer.{base_grows_in}
use Rattle.reader.specs.declared.Reader.{Reader}
use Rattle.reader.specs.State.{State, is_dss, start_of, blocks_in, reading_by, handed, owed, reader_of, header_done, Sound, Reached}
use Rattle.reader.specs.Calls.{end_by, end_said, after_end, Ends}
use Rattle.reader.specs.Inner.{standing_of}
use Rattle.reader.proofs.Ends.{owed_is}
use Rattle.reader.proofs.Within.{end_within}
use Rattle.std.specs.Prelude.{Result}
use Rattle.refusals.specs.declared.Refusal.{Refusal}
use Rattle.refusals.specs.declared.Numbers.{Numbers}

-- of blocks that were added one after another none lies past the hold's end
held_within : (dss : Bool) (f : List ℕ) (a n : ℕ) → (0 < n → Whole f a n) → fits dss f a n ≡ true → 506 * n ≤ base_at dss f a n + 12288
held_within dss f a n whole fit =
    by_order 0 n
    (λ some.
    let b : ℕ = n - 1 in
    let last = leb-true (506 * (b + 1)) (base_at dss f a b + 12288) (fits_each dss f a n fit b (omega arith)) in
    omega (arith, last, base_grows_in dss f a b n (omega (arith, whole some)) (omega arith)))
    (λ none. omega arith)

-- a reader that has handed out so many more
abbrev pub drained_by : ℕ → ℕ → ℕ → Reader → Reader
drained_by some carry phase r =
    record {
      kind = r.kind;
      phase = phase;
      taken = r.taken;
      announced = r.announced;
      ready = r.ready;
      drained = r.drained + some;
      base = r.base;
      first = r.first;
      carry = carry;
      hold = r.hold;
      partial = r.partial;
      waiting = r.waiting;
    }

-- its state is sound: it drains, or has ended when nothing more is owed
pub drained_sound : (s : State) (some : ℕ) → Sound s → some ≤ owed s → header_done s ≡ true → Sound (after_end s (answers some))
drained_sound s some sound few full =
    record {
      kind_is = sound.kind_is;
      bytes_are = sound.bytes_are;
      small = sound.small;
      fit = sound.fit;
      among = omega (arith, sound.among);
      taking = λ e. absurd (by_test (eqb some (owed s)) (λ t. omega (arith, simp t at e)) (λ t. omega (arith, simp t at e)));
      draining = λ e.
          by_test (eqb some (owed s)) (λ t. absurd (omega (arith, simp t at e))) (λ t. omega (arith, eqb-false some (owed s) t));
      ended = λ e.
          by_test (eqb some (owed s)) (λ t. omega (arith, eqb-true some (owed s) t)) (λ t. absurd (omega (arith, simp t at e)));
      header = λ h. full;
      phases = either_most (eqb some (owed s)) (omega arith) (omega arith);
    }

-- some recording of n blocks that it may be of, and that so many packets are to come of it
abbrev pub OwingOf : Reader → ℕ → ℕ → List ℕ → List ℕ → Type 0
OwingOf r n some out counts =
    Owing (is_dss r.kind) n r.drained some r.hold r.waiting (standing_of r) (length out) (length counts)

-- and they have come, whichever it is
abbrev pub HandsOut : Reader → ℕ → ℕ → List ℕ → List ℕ → List ℕ → List ℕ → ℕ → Type 0
HandsOut r n some out out' counts counts' carry =
    (g : OwingOf r n some out counts)
    → PartWritten (reading_in (is_dss r.kind) g.f g.a n) (ready (is_dss r.kind) g.f g.a n + r.drained) some 0 out out' counts
    counts' carry

-- an end says what it says by its choice
pub record Wants (r : Reader) (choice : ℕ) (answer : Result ℕ Refusal) (out counts : List ℕ) : Type 0 where
  pub answer_is : result_says answer
      ≡ end_by choice r.phase (start_of r.kind) r.taken (r.announced - r.ready - r.drained) (room_in out counts)

module _ {s : State} {r : Reader} (is : r ≡ reader_of s) (sound : Sound s) {choice : ℕ} {answer : Result ℕ Refusal} {out counts : List ℕ}
    (w : Wants r choice answer out counts) where
  says : result_says answer ≡ end_said s choice (room_in out counts)
  says = w.answer_is ∙ cc (is, owed_is s r is)

  -- a refused one leaves everything as it was
  pub end_keeps : {why : Numbers} → result_says answer ≡ refusal why → Ends s choice out out counts counts (record { answer = answer; reader = r })
  end_keeps {why} e =
      let said : end_said s choice (room_in out counts) ≡ refusal why = sym says ∙ e in
      record { steps = rw said (record { answer_is = e; reader_is = is; sound = sound }); hands = rw said (record { out_is = refl; counts_are = refl }) }

-- an answered one counts the blocks, and hands out as many packets as it says
module _ {s : State} {r : Reader} (is : r ≡ reader_of s) (sound : Sound s) {choice n some : ℕ} {answer : Result ℕ Refusal} {out counts : List ℕ}
    (w : Wants r choice answer out counts) (e : result_says answer ≡ answers some) (blocks_are : n ≡ whole_blocks r.taken (start_of r.kind)) where
  many : n ≡ blocks_in s.kind s.bytes
  many = blocks_are ∙ ap (λ (r : Reader). whole_blocks r.taken (start_of r.kind)) is

  said : end_said s choice (room_in out counts) ≡ answers some
  said = sym (says is sound w) ∙ e

  within : (some ≤ room_in out counts) × (some ≤ owed s)
  within = let few = end_within sound choice (room_in out counts) said in (few.0, few.1)

  -- so much is owed of the bytes joined
  at_state : OwingOf (reader_of s) (blocks_in s.kind s.bytes) some out counts
  at_state =
      record {
        f = s.bytes;
        a = start_of s.kind;
        few = omega (arith, sound.small);
        bytes = sound.bytes_are;
        hold_is = refl;
        within = held_within _ _ _ _ (λ some. omega arith) sound.fit;
        waiting_is = refl;
        numbers_are = refl;
        owed = omega (arith, within.1, sound.among);
        out_room = omega (arith, within.0);
        counts_room = omega (arith, within.0);
      }

  -- what was handed out is what comes next of its reading
  handed_out : {out' counts' : List ℕ} {carry : ℕ} → HandsOut r n some out out' counts counts' carry
      → PartWritten (reading_by s.kind s.bytes) (handed s) some 0 out out' counts counts' carry
  unfolding at_state
  handed_out {out'} {counts'} {carry} law =
      subst (λ (n : ℕ). HandsOut (reader_of s) n some out out' counts counts' carry) many
      (subst (λ (r : Reader). HandsOut r n some out out' counts counts' carry) is law) at_state

  pub end_steps : {carry phase : ℕ} {out' counts' : List ℕ} → HandsOut r n some out out' counts counts' carry
      → phase ≡ cond (eqb some (r.announced - r.ready - r.drained)) 2 1
      → Ends s choice out out' counts counts' (record { answer = answer; reader = drained_by some carry phase r })
  end_steps {carry} {phase} {out'} {counts'} law phase-is =
      record {
        steps =
            rw said
            (record {
              answer_is = e;
              reader_is = cc (is, phase_by, carry_on);
              sound = drained_sound s some sound within.1 (end_within sound choice (room_in out counts) said).2;
            });
        hands = rw said (record { out_is = leaves_over written.packets_are; counts_are = leaves_over written.counts_are });
      }
    where
      written : PartWritten (reading_by s.kind s.bytes) (handed s) some 0 out out' counts counts' carry
      written = handed_out law

      carry_on : carry ≡ carry_at (reading_by s.kind s.bytes) (handed (after_end s (answers some)))
      carry_on =
          let on : handed s + some ≡ handed (after_end s (answers some)) = omega arith in
          written.carry_is ∙ ap (carry_at (reading_by s.kind s.bytes)) on

      phase_by : phase ≡ cond (eqb some (owed s)) 2 1
      phase_by = rw (owed_is s r is) at phase-is

-- so a reader that a call gave back may hand out what is wanted
module _ {r : Reader} {choice n some : ℕ} {answer : Result ℕ Refusal} {out counts : List ℕ} (v : Reached r) (w : Wants r choice answer out counts)
    (e : result_says answer ≡ answers some) (blocks_are : n ≡ whole_blocks r.taken (start_of r.kind)) where
  pub owing : OwingOf r n some out counts
  owing =
      subst (λ (r : Reader). OwingOf r n some out counts) (sym v.is)
      (subst (λ (m : ℕ). OwingOf (reader_of v.state) m some out counts) (sym (many v.is v.sound w e blocks_are))
      (at_state v.is v.sound w e blocks_are))

  -- and hands out no more than it owes
  pub end_most : some ≤ r.announced - r.ready - r.drained
  end_most = omega (arith, (within v.is v.sound w e blocks_are).1, owed_is v.state r v.is)
