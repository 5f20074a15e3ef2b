-- A piece, at a state: what stood after the blocks before stands in the bytes joined, so the reader knows what the survey asks and can
-- take the blocks; what is said of the piece, and the state that it leaves. Assumes nothing.
use Prim.Native.Nat.{ℕ, ◌+◌, ◌≤◌}
use mathlib.Core.Path.{◌≡◌, refl, sym, ap, ◌∙◌, subst₂}
use mathlib.Core.List.{List, ◌++◌}
use mathlib.Core.Bool.{Bool, true}
use native.Mathlib.Omega.{arith}
use lib.ListN.{length, length-append, get_or-append}
use lib.Seq.{get_or-append-add}
use lib.Dec.{eqb, leb}
use Rattle.tables.proofs.Cases.{by_order}
use Rattle.tables.proofs.Table.{table_at}
use Rattle.tables.proofs.Lent.{leaves_over}
use Rattle.blocks.specs.Places.{limit, Whole, whole_blocks, block_at}
use Rattle.blocks.specs.Headers.{Bytes}
use Rattle.blocks.proofs.Headers.{announced_kept}
use Rattle.refusals.specs.declared.Numbers.{Numbers}
use Rattle.refusals.specs.Said.{Said, answers, refusal, demand, result_says}
use Rattle.sp.specs.Outcome.{room_in}
use Rattle.hold.specs.declared.Standing.{Standing}
use Rattle.hold.specs.Ready.{ready}
use Rattle.hold.specs.Held.{fits, waiting_at, hold_at}
use Rattle.hold.specs.Inner.{PartWritten, numbers_at, Stands}
use Rattle.hold.proofs.Ready.{ready_within}
use Rattle.hold.proofs.Longer.{ready_kept, base_kept, hold_kept, waiting_kept, first_kept, fits_kept, carry_same}
use Rattle.reader.specs.declared.Reader.{Reader}
use Rattle.pieces.specs.Joined.{bytes_from}
use Rattle.reader.specs.State.{State, is_dss, start_of, blocks_in, reading_by, ready_by, handed, reader_of, Sound}
use Rattle.reader.specs.Calls.{brings, piece_said, after_piece, Steps, Hands, Takes}
use Rattle.pieces.specs.Inner.{Joins, Known, gained, judged, Able, Absorbed}
use Rattle.reader.specs.Inner.{standing_of}
use Rattle.reader.proofs.Opened.{none_stands, none_fits, reader_with, stands_for}
use Rattle.reader.proofs.Laws.{steps_by, hands_by, piece_accepted, bytes_joined}
use Rattle.std.specs.Prelude.{Result}
use Rattle.refusals.specs.declared.Refusal.{Refusal}

-- an input that goes on: what stood after its blocks stands, they fit as they did, and what was kept of the next one joins the rest
module _ (dss : Bool) (f rest : List ℕ) (a : ℕ) where
  abbrev b : ℕ
  b = whole_blocks (length f) a

  abbrev n : ℕ
  n = whole_blocks (length (f ++ rest)) a

  stands_on : Stands dss (f ++ rest) a n b (hold_at dss f a b) (waiting_at dss f a b) (numbers_at dss f a b b (ready dss f a b))
  stands_on =
      by_order (length f) a
      (λ short.
      let none : b ≡ 0 = omega arith in
      let v = none_stands dss f a b b none in
      let w = none_stands dss (f ++ rest) a n b none in
      record {
        hold_is = sym v.hold_is ∙ w.hold_is;
        waiting_is = sym v.waiting_is ∙ w.waiting_is;
        numbers_are = sym v.numbers_are ∙ w.numbers_are;
      })
      (λ full.
      let whole : Whole f a b = omega arith in
      let announced = announced_kept f rest a b whole in
      let first = first_kept f rest a b whole in
      let carry = carry_same dss f rest a b n whole (omega (arith, length-append f rest)) (ready dss f a b) (omega arith) in
      record {
        hold_is = hold_kept f rest a b whole dss;
        waiting_is = waiting_kept f rest a b whole dss;
        numbers_are = cc (announced, ready_kept f rest a b whole dss, base_kept f rest a b whole dss, first, carry);
      })

  fits_on : fits dss f a b ≡ true → fits dss (f ++ rest) a b ≡ true
  fits_on fit =
      by_order (length f) a
      (λ short. none_fits dss (f ++ rest) a n b (omega arith))
      (λ full. sym (fits_kept dss f rest a b (omega arith)) ∙ fit)

  joins_on : Joins (f ++ rest) (bytes_from f (block_at a b)) rest (length f) (block_at a b)
  unfolding bytes_from
  joins_on =
      record {
        long = length-append f rest;
        old = λ i h. table_at 512 _ i (omega arith) ∙ sym (get_or-append f rest 0 (block_at a b + i) h);
        new = λ i h. sym (get_or-append-add f rest i 0);
      }

-- of a reader whose audio starts at a: the bytes joined are known, and can be taken
abbrev pub KnownOf : Reader → ℕ → List ℕ → List ℕ → Type 0
KnownOf r a piece f = Known (is_dss r.kind) f a r.taken (standing_of r) r.partial r.waiting piece

abbrev pub AbleOf : Reader → ℕ → List ℕ → List ℕ → List ℕ → List ℕ → Type 0
AbleOf r a piece out counts f =
    Able (is_dss r.kind) f a r.taken (standing_of r) r.hold r.partial r.waiting piece (length out) (length counts)

-- what the survey decides
pub record Decided (r : Reader) (a : ℕ) (piece out counts : List ℕ) (room : ℕ) (answer : Result ℕ Refusal) : Type 0 where
  pub room_is : room ≡ room_in out counts
  pub says : (f : List ℕ) → (r.phase ≡ 0 → r.taken + length piece ≤ limit → KnownOf r a piece f)
      → result_says answer
      ≡ demand (eqb r.phase 0) 6 0 (demand (leb (r.taken + length piece) limit) 2 limit (judged (is_dss r.kind) f a r.taken room))

-- a piece at a state
module _ (s : State) (piece : List ℕ) (sound : Sound s) (bytes : Bytes piece) where
  abbrev dss : Bool
  dss = is_dss s.kind

  abbrev a : ℕ
  a = start_of s.kind

  abbrev f : List ℕ
  f = s.bytes ++ piece

  -- the blocks before, and all of them
  abbrev had : ℕ
  had = blocks_in s.kind s.bytes

  abbrev all : ℕ
  all = blocks_in s.kind f

  stands : Stands dss f a all had (reader_of s).hold (reader_of s).waiting
      (numbers_at dss s.bytes a had had (ready_by s.kind s.bytes))
  stands = stands_on dss s.bytes piece a

  ready_on : ready_by s.kind s.bytes ≡ ready dss f a had
  ready_on = ap (λ (now : Standing). now.ready) stands.numbers_are

  gained_is : gained dss f a (length s.bytes) ≡ brings s piece
  gained_is = cc ready_on

  -- while pieces are taken no more is handed out than is ready
  none_drained : s.phase ≡ 0 → handed s ≡ ready_by s.kind s.bytes
  none_drained taking = omega (arith, sound.taking taking)

  known : s.phase ≡ 0 → length s.bytes + length piece ≤ limit → KnownOf (reader_of s) a piece f
  known taking within =
      record {
        joins = joins_on dss s.bytes piece a;
        bytes = bytes_joined s.bytes piece sound.bytes_are bytes;
        small = omega (arith, length-append s.bytes piece);
        numbers_are = rw (none_drained taking) stands.numbers_are;
        waiting_is = stands.waiting_is;
        fit = fits_on dss s.bytes piece a sound.fit;
      }

  able : (out counts : List ℕ) {m : ℕ} → piece_said s piece (room_in out counts) ≡ answers m → AbleOf (reader_of s) a piece out counts f
  able out counts e =
      let p = piece_accepted s piece (room_in out counts) _ e in
      record {
        known = known p.0 p.3;
        hold_is = stands.hold_is;
        all_fit = p.4;
        out_room = omega (arith, gained_is, p.1, p.2);
        counts_room = omega (arith, gained_is, p.1, p.2);
      }

  -- the state after it is sound
  pub next_sound : (room : ℕ) {m : ℕ} → piece_said s piece room ≡ answers m → Sound (after_piece s piece (answers m))
  next_sound room e =
      let p = piece_accepted s piece room _ e in
      record {
        kind_is = sound.kind_is;
        bytes_are = bytes_joined s.bytes piece sound.bytes_are bytes;
        small = omega (arith, length-append s.bytes piece, p.3);
        fit = p.4;
        among = omega (arith, ready_within dss f a all, sound.taking p.0);
        taking = sound.taking;
        draining = λ e. absurd (omega (arith, p.0));
        ended = λ e. absurd (omega (arith, p.0));
        header = λ h. absurd (h p.0);
        phases = sound.phases;
      }

  module _ {out counts : List ℕ} {room : ℕ} {answer : Result ℕ Refusal} (d : Decided (reader_of s) a piece out counts room answer) where
    said : result_says answer ≡ piece_said s piece (room_in out counts)
    unfolding piece_said judged
    said = d.says f known ∙ cc (gained_is, d.room_is)

    settled : {to : Said ℕ} {reader : Reader} {out' counts' : List ℕ} → result_says answer ≡ to → reader ≡ reader_of (after_piece s piece to)
        → Sound (after_piece s piece to) → Hands (reading_by s.kind f) (handed s) to out out' counts counts'
        → Takes s piece out out' counts counts' (record { answer = answer; reader = reader })
    settled {to} {reader} e reader_is next hands =
        let steps : Steps to (after_piece s piece to) (record { answer = answer; reader = reader }) =
        record { answer_is = e; reader_is = reader_is; sound = next } in
        record { steps = steps_by (after_piece s piece) said steps; hands = hands_by said steps hands }

    -- a refused one leaves everything as it was
    kept : {why : Numbers} → result_says answer ≡ refusal why → Takes s piece out out counts counts (record { answer = answer; reader = reader_of s })
    kept e = settled e refl sound (record { out_is = refl; counts_are = refl })

    -- an accepted one has had all blocks added, and what they brought stands in front
    module _ {m : ℕ} (e : result_says answer ≡ answers m) where
      here : piece_said s piece (room_in out counts) ≡ answers m
      here = sym said ∙ e

      enabled : AbleOf (reader_of s) a piece out counts f
      enabled = able out counts here

      grown : {hold partial waiting out' counts' : List ℕ} {now : Standing}
          → ((f : List ℕ) → AbleOf (reader_of s) a piece out counts f → Absorbed dss f a (length s.bytes) hold partial waiting now out out' counts counts')
          → Takes s piece out out' counts counts'
          (record { answer = answer; reader = reader_with s.kind s.phase (length s.bytes + length piece) s.drained now hold partial waiting })
      grown {out' = out'} {counts' = counts'} {now = now} absorbed =
          let p = piece_accepted s piece (room_in out counts) m here in
          let v = absorbed f enabled in
          let long : length s.bytes + length piece ≡ length f = sym (length-append s.bytes piece) in
          let first : ready dss f a had ≡ handed s = sym (none_drained p.0 ∙ ready_on) in
          let written =
          subst₂ (λ (k m : ℕ). PartWritten (reading_by s.kind f) k m 0 out out' counts counts' now.carry) first (gained_is ∙ p.1)
          v.added.written in
          settled e (rw long (stands_for (after_piece s piece (answers m)) (sound.taking p.0) v.added.stands v.partial_is))
          (next_sound (room_in out counts) here)
          (record { out_is = leaves_over written.packets_are; counts_are = leaves_over written.counts_are })

-- the same of the reader that stands for the state
module _ (s : State) {r : Reader} {a : ℕ} (is : r ≡ reader_of s) (a-is : a ≡ start_of r.kind) where
  at : (P : Reader → ℕ → Type 0) → P (reader_of s) (start_of s.kind) → P r a
  at P h = subst₂ P (sym is) (sym (a-is ∙ ap (λ (r : Reader). start_of r.kind) is)) h

  module _ (piece : List ℕ) (sound : Sound s) (bytes : Bytes piece) where
    pub knows : r.phase ≡ 0 → r.taken + length piece ≤ limit → (f : List ℕ) × KnownOf r a piece f
    knows =
        at (λ (r : Reader) (a : ℕ). r.phase ≡ 0 → r.taken + length piece ≤ limit → (f : List ℕ) × KnownOf r a piece f)
        (λ taking within. (s.bytes ++ piece, known s piece sound bytes taking within))

    module _ {out counts : List ℕ} {room : ℕ} {answer : Result ℕ Refusal} (d : Decided r a piece out counts room answer) where
      pub enables : {m : ℕ} → result_says answer ≡ answers m → (f : List ℕ) × AbleOf r a piece out counts f
      enables e =
          at (λ (r : Reader) (a : ℕ). Decided r a piece out counts room answer → (f : List ℕ) × AbleOf r a piece out counts f)
          (λ d. (s.bytes ++ piece, enabled s piece sound bytes d e)) d

      -- the bytes taken are within the limit then
      pub few_taken : {m : ℕ} → result_says answer ≡ answers m → r.taken + length piece ≤ limit
      few_taken {m} e =
          at (λ (r : Reader) (a : ℕ). Decided r a piece out counts room answer → r.taken + length piece ≤ limit)
          (λ d. (piece_accepted s piece (room_in out counts) m (here s piece sound bytes d e)).3) d

      pub keeps : {why : Numbers} → result_says answer ≡ refusal why → Takes s piece out out counts counts (record { answer = answer; reader = r })
      keeps e =
          at
          (λ (r : Reader) (a : ℕ).
          Decided r a piece out counts room answer → Takes s piece out out counts counts (record { answer = answer; reader = r }))
          (λ d. kept s piece sound bytes d e) d

      pub takes : {m : ℕ} → result_says answer ≡ answers m → {hold partial waiting out' counts' : List ℕ} {now : Standing}
          → ((f : List ℕ) → AbleOf r a piece out counts f → Absorbed (is_dss r.kind) f a r.taken hold partial waiting now out out' counts counts')
          → Takes s piece out out' counts counts'
          (record { answer = answer; reader = reader_with r.kind r.phase (r.taken + length piece) r.drained now hold partial waiting })
      takes e {hold} {partial} {waiting} {out'} {counts'} {now} absorbed =
          at
          (λ (r : Reader) (a : ℕ).
          Decided r a piece out counts room answer
          → ((f : List ℕ) → AbleOf r a piece out counts f → Absorbed (is_dss r.kind) f a r.taken hold partial waiting now out out' counts counts')
          → Takes s piece out out' counts counts'
          (record { answer = answer; reader = reader_with r.kind r.phase (r.taken + length piece) r.drained now hold partial waiting }))
          (λ d absorbed. grown s piece sound bytes d e absorbed) d absorbed
