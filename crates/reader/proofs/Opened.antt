-- Kinds, and where their audio starts; what stands where there is no block; a reader that has taken nothing yet, and what opening one
-- gives. Assumes nothing.
use Prim.Native.Nat.{ℕ, ◌+◌, ◌/◌, ◌≤◌}
use mathlib.Core.Path.{◌≡◌, refl, sym, ap, ◌∙◌}
use mathlib.Core.List.{List, []}
use mathlib.Core.Bool.{Bool, true, false, cond}
use native.Mathlib.Omega.{arith}
use borrow.Author.Tests.{eqb-true, eq-eqb, le-ltb}
use lib.ListN.{length, replicate, length-replicate, get_or-replicate}
use lib.Dec.{eqb}
use Rattle.tables.specs.Table.{table}
use Rattle.tables.proofs.Cases.{by_test}
use Rattle.tables.proofs.Table.{is_table}
use Rattle.blocks.specs.Places.{block_at}
use Rattle.blocks.specs.Headers.{announced_in}
use Rattle.blocks.proofs.Headers.{announced_none}
use Rattle.blocks.proofs.Places.{stream_past}
use Rattle.sp.proofs.Runs.{carry_at_first}
use Rattle.hold.specs.declared.Standing.{Standing}
use Rattle.hold.specs.Ready.{reading_in, front, ready}
use Rattle.hold.specs.Held.{held_from, base_at, fits, headers_from, waiting_at, first_byte, hold_at}
use Rattle.sp.specs.Readings.{carry_at}
use Rattle.hold.specs.Inner.{Stands}
use Rattle.hold.proofs.Ready.{ready_within, ready_none, base_within}
use Rattle.hold.proofs.Front.{each_fits}
use Rattle.reader.specs.declared.Reader.{Reader}
use Rattle.pieces.specs.Joined.{bytes_from}
use Rattle.reader.specs.State.{State, is_kind, is_dss, start_of, blocks_in, ready_by, handed, reader_of, Sound}
use Rattle.reader.specs.Calls.{open_said, after_open, Opens}
use Rattle.reader.specs.Inner.{fresh}
use Rattle.refusals.specs.declared.Refusal.TheVariants.{Kind}
use Rattle.std.specs.Prelude.{Ok, Err}

-- the kinds that there are
pub by_kind {ℓ} : {X : Type ℓ} (kind : ℕ) → is_kind kind ≡ true → (kind ≡ 0 → X) → (kind ≡ 2 → X) → (kind ≡ 3 → X) → X
unfolding is_kind
by_kind kind is ds2 two three =
    by_test (eqb kind 0) (λ e. ds2 (eqb-true kind 0 e))
    (λ e.
    by_test (eqb kind 2) (λ e'. two (eqb-true kind 2 e')) (λ e'. three (eqb-true kind 3 (simp (e, e') at is))))

zeros : (n : ℕ) (f : ℕ → ℕ) → ((i : ℕ) → f i ≡ 0) → replicate n 0 ≡ table n f
zeros n f none = is_table n f (replicate n 0) (length-replicate {A = ℕ} n 0) (λ i h. get_or-replicate {A = ℕ} n i 0 0 h ∙ sym (none i))

-- where there is no block, every number is 0, and nothing is held
abbrev no_numbers : Standing
no_numbers = record { announced = 0; ready = 0; base = record { 0 = 0 }; first = 0; carry = 0 }

module _ (dss : Bool) (f : List ℕ) (a m n : ℕ) (none : n ≡ 0) where
  announced_zero : announced_in f a n ≡ 0
  announced_zero = rw none (announced_none f a)

  ready_zero : ready dss f a n ≡ 0
  ready_zero = rw none (ready_none dss f a)

  base_zero : base_at dss f a n ≡ 0
  base_zero = omega (arith, base_within dss f a n)

  first_zero : first_byte f a n ≡ 0
  first_zero = simp (eq-eqb n 0 none)

  carry_zero : carry_at (reading_in dss f a m) (ready dss f a n) ≡ 0
  carry_zero = rw ready_zero (carry_at_first (reading_in dss f a m).stream 0 (reading_in dss f a m).runs)

  hold_zero : replicate 12288 0 ≡ hold_at dss f a n
  unfolding held_from
  hold_zero = zeros 12288 _ (λ i. stream_past f a n _ (omega arith))

  waiting_zero : replicate 66 0 ≡ waiting_at dss f a n
  unfolding waiting_at headers_from
  waiting_zero = zeros 66 _ (λ i. simp (le-ltb (cond dss (front f a n) n + i / 3) n (omega arith)))

  pub none_stands : Stands dss f a m n (replicate 12288 0) (replicate 66 0) no_numbers
  none_stands =
      record {
        hold_is = hold_zero;
        waiting_is = waiting_zero;
        numbers_are = cc (announced_zero, ready_zero, base_zero, first_zero, carry_zero);
      }

  pub none_fits : fits dss f a n ≡ true
  none_fits = each_fits dss f a n (λ b h. absurd (omega arith))

-- a reader by the numbers beside its hold, which stands for a state that has drained nothing where all of it stands
-- after the state's blocks
abbrev pub reader_with : ℕ → ℕ → ℕ → ℕ → Standing → List ℕ → List ℕ → List ℕ → Reader
reader_with kind phase taken drained now hold partial waiting =
    record {
      kind = kind;
      phase = phase;
      taken = taken;
      announced = now.announced;
      ready = now.ready;
      drained = drained;
      base = now.base.0;
      first = now.first;
      carry = now.carry;
      hold = hold;
      partial = partial;
      waiting = waiting;
    }

pub stands_for : (s : State) {now : Standing} {hold partial waiting : List ℕ} → s.drained ≡ 0
    → Stands (is_dss s.kind) s.bytes (start_of s.kind) (blocks_in s.kind s.bytes) (blocks_in s.kind s.bytes) hold waiting now
    → partial ≡ bytes_from s.bytes (block_at (start_of s.kind) (blocks_in s.kind s.bytes))
    → reader_with s.kind s.phase (length s.bytes) s.drained now hold partial waiting ≡ reader_of s
stands_for s none v kept =
    let all : handed s ≡ ready_by s.kind s.bytes = omega arith in
    rw (v.numbers_are, all) (cc (v.hold_is, v.waiting_is, kept))

-- the reader of a state with nothing taken
abbrev pub fresh_reader : ℕ → ℕ → Reader
fresh_reader kind phase = reader_with kind phase 0 0 no_numbers (replicate 12288 0) (replicate 512 0) (replicate 66 0)

module _ (kind phase : ℕ) where
  abbrev n : ℕ
  n = blocks_in kind []

  none : n ≡ 0
  none = omega arith

  stands : Stands (is_dss kind) [] (start_of kind) n n (replicate 12288 0) (replicate 66 0) no_numbers
  stands = none_stands (is_dss kind) [] (start_of kind) n n none

  partial_zero : replicate 512 0 ≡ bytes_from [] (block_at (start_of kind) n)
  unfolding bytes_from
  partial_zero = zeros 512 _ (λ i. refl)

  pub fresh_is : fresh_reader kind phase ≡ reader_of (fresh kind phase)
  fresh_is = stands_for (fresh kind phase) refl stands partial_zero

  fresh_sound : is_kind kind ≡ true → (phase ≡ 1 → ⊥) → phase ≤ 2 → Sound (fresh kind phase)
  fresh_sound is not-draining few =
      record {
        kind_is = is;
        bytes_are = λ i. omega arith;
        small = omega arith;
        fit = none_fits (is_dss kind) [] (start_of kind) n n none;
        among = omega (arith, ready_within (is_dss kind) [] (start_of kind) n);
        taking = λ e. refl;
        draining = λ e. absurd (not-draining e);
        ended = λ e. omega (arith, ap (λ (now : Standing). now.announced) stands.numbers_are);
        header = λ h. refl;
        phases = few;
      }

ds2_is : is_kind 0 ≡ true
unfolding is_kind
ds2_is = refl

-- opening: a fresh reader of a kind that there is, or an ended one
pub opened_sound : (kind : ℕ) → Sound (after_open kind (open_said kind))
unfolding open_said
opened_sound kind =
    by_test (is_kind kind)
    (λ is. rw is (fresh_sound kind 0 is (λ e. omega arith) (omega arith)))
    (λ is-not. rw is-not (fresh_sound 0 2 ds2_is (λ e. omega arith) (omega arith)))

module _ (kind : ℕ) where
  pub opens_known : is_kind kind ≡ true → {reader : Reader} → reader ≡ reader_of (fresh kind 0) → Opens kind (record { answer = Ok 0; reader = reader })
  unfolding open_said
  opens_known is reader_is =
      let sound = rw is at (opened_sound kind) in
      rw is (record { answer_is = refl; reader_is = reader_is; sound = sound })

  pub opens_none : is_kind kind ≡ false → {reader : Reader} → reader ≡ reader_of (fresh 0 2)
      → Opens kind (record { answer = Err (Kind kind); reader = reader })
  unfolding open_said
  opens_none is_not reader_is =
      let sound = rw is_not at (opened_sound kind) in
      rw is_not (record { answer_is = refl; reader_is = reader_is; sound = sound })
