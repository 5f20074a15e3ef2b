-- Calls one after another: what the pieces that were accepted brought out together, and what ends did.
-- Assumes nothing.
use Prim.Native.Nat.{ℕ, ◌+◌, ◌*◌, ◌≤◌}
use mathlib.Core.Path.{◌≡◌, sym, ap, ap₂, ◌∙◌, subst}
use mathlib.Core.List.{List, [], ◌++◌, append_assoc, append-nil}
use mathlib.Core.Bool.{true, cond}
use native.Mathlib.Omega.{arith}
use borrow.Author.Tests.{eq-eqb}
use lib.ListN.{length, take}
use lib.Dec.{eqb}
use Rattle.tables.specs.Table.{Each}
use Rattle.refusals.specs.Said.{answers, result_says}
use Rattle.sp.specs.Outcome.{room_in}
use Rattle.reader.specs.declared.Reader.{Reader}
use Rattle.reader.specs.declared.Step.{Step}
use Rattle.reader.specs.State.{State, is_kind, opened, reading_by, ready_by, handed, owed, reader_of, Sound}
use Rattle.reader.specs.Calls.{open_said, after_open, after_piece, strict, end_said, after_end, Opens}
use Rattle.reader.specs.History.{PieceCall, EndCall, joined, Refuses, a_piece, an_end, Fed, Drained, none, more, strictly, refused}
use Rattle.reader.proofs.Parts.{Part, part_none, part_joined, ready_in_header, ready_more, part_stays}
use Rattle.reader.proofs.Laws.{steps_by, hands_by, part_written, piece_accepted, lenient_many}
use Rattle.reader.proofs.Within.{end_within, strict_none}

-- a state with other bytes
abbrev pub holding : State → List ℕ → State
holding s f = record { kind = s.kind; bytes = f; drained = s.drained; phase = s.phase }

-- a refused call gives back a reader for the same state
pub kept_by : {reader next : Reader} → Refuses reader next → (s : State) → reader ≡ reader_of s → Sound s → next ≡ reader_of s
kept_by (a_piece piece out out' counts counts' step why call said) s e sound =
    (steps_by (after_piece s piece) said (call s e sound).steps).reader_is
kept_by (an_end choice out out' counts counts' step why call said) s e sound = (steps_by (after_end s) said (call s e sound).steps).reader_is

-- from a state a reader came to hold the bytes f, and n packets came out
pub record Took (s : State) (f : List ℕ) (n : ℕ) (packets entries : List ℕ) (last : Reader) : Type 0 where
  pub reader_is : last ≡ reader_of (holding s f)
  pub sound : Sound (holding s f)
  pub many : ready_by s.kind s.bytes + n ≡ ready_by s.kind f
  pub part : Part (reading_by s.kind f) (ready_by s.kind s.bytes) n packets entries

-- one piece
took_one : {reader : Reader} {piece out out' counts counts' : List ℕ} {step : Step} {n : ℕ} (s : State) → reader ≡ reader_of s → Sound s
    → PieceCall reader piece out out' counts counts' step → result_says step.answer ≡ answers n
    → Took s (s.bytes ++ piece) n (take (42 * n) out') (take n counts') step.reader
took_one {piece = piece} {out = out} {counts = counts} {n = n} s e sound call said =
    let v = call s e sound in
    let passed = piece_accepted s piece (room_in out counts) n (sym v.steps.answer_is ∙ said) in
    let next = steps_by (after_piece s piece) said v.steps in
    let from : handed s ≡ ready_by s.kind s.bytes = omega (arith, sound.taking passed.0) in
    record {
      reader_is = next.reader_is;
      sound = next.sound;
      many = omega (arith, passed.1, ready_more s.kind s.bytes piece);
      part = rw (← from) (part_written (hands_by said v.steps v.hands) passed.2);
    }

-- what comes out of a longer input goes on from what came out before
took_more : {s : State} {f : List ℕ} {n m : ℕ} {packets entries packets' entries' : List ℕ} {reader last : Reader} (rest : List ℕ)
    → Took s f n packets entries reader → Took (holding s f) (f ++ rest) m packets' entries' last
    → Took s (f ++ rest) (n + m) (packets ++ packets') (entries ++ entries') last
took_more {s} {f} {m = m} {packets' = packets'} {entries' = entries'} rest v w =
    record {
      reader_is = w.reader_is;
      sound = w.sound;
      many = omega (arith, v.many, w.many);
      part =
          part_joined (part_stays s.kind f rest (omega (arith, v.many)) v.part)
          (subst (λ (k : ℕ). Part (reading_by s.kind (f ++ rest)) k m packets' entries') (sym v.many) w.part);
    }

-- pieces that were accepted, one after another
pub fed_is : {reader last : Reader} {pieces : List (List ℕ)} {n : ℕ} {packets entries : List ℕ} → Fed reader pieces n packets entries last
    → (s : State) → reader ≡ reader_of s → Sound s → Took s (s.bytes ++ joined pieces) n packets entries last
unfolding joined
fed_is {reader} none s e sound =
    subst (λ (f : List ℕ). Took s f 0 [] [] reader) (sym (append-nil s.bytes))
    (record { reader_is = e; sound = sound; many = omega arith; part = part_none (reading_by s.kind s.bytes) (ready_by s.kind s.bytes) })
fed_is (more {piece = piece} {rest = rest} out out' counts counts' step call said after) s e sound =
    let v = took_one s e sound call said in
    let w = fed_is after (holding s (s.bytes ++ piece)) v.reader_is v.sound in
    rw (← append_assoc s.bytes piece (joined rest)) (took_more (joined rest) v w)
fed_is (refused call after) s e sound = fed_is after s (kept_by call s e sound) sound

-- the same from a reader that was opened as a kind that there is
pub record Came (kind : ℕ) (f : List ℕ) (n : ℕ) (packets entries : List ℕ) (last : Reader) : Type 0 where
  pub reader_is : last ≡ reader_of (holding (opened kind) f)
  pub sound : Sound (holding (opened kind) f)
  pub many : n ≡ ready_by kind f
  pub part : Part (reading_by kind f) 0 n packets entries

pub opened_fed : (kind : ℕ) (opening : Step) → Opens kind opening → is_kind kind ≡ true → {last : Reader} {pieces : List (List ℕ)} {n : ℕ}
    {packets entries : List ℕ} → Fed opening.reader pieces n packets entries last → Came kind (joined pieces) n packets entries last
unfolding open_said
opened_fed kind opening opens known {pieces = pieces} {n = n} {packets = packets} {entries = entries} fed =
    let said : open_said kind ≡ answers 0 = simp known in
    let first = steps_by (after_open kind) (opens.answer_is ∙ said) opens in
    let v = fed_is fed (opened kind) first.reader_is first.sound in
    let none = ready_in_header kind [] (omega arith) in
    record {
      reader_is = v.reader_is;
      sound = v.sound;
      many = omega (arith, none, v.many);
      part = subst (λ (k : ℕ). Part (reading_by kind (joined pieces)) k n packets entries) none v.part;
    }

-- a state of another phase that has drained otherwise
abbrev pub lighter : State → ℕ → ℕ → State
lighter s drained phase = record { kind = s.kind; bytes = s.bytes; drained = drained; phase = phase }

-- from a state a reader was ended, perhaps again and again, and n packets came out
pub record Drew (s : State) (n : ℕ) (packets entries : List ℕ) (last : Reader) : Type 0 where
  pub drained : ℕ
  pub phase : ℕ
  pub reader_is : last ≡ reader_of (lighter s drained phase)
  pub sound : Sound (lighter s drained phase)
  pub many : s.drained + n ≡ drained
  pub part : Part (reading_by s.kind s.bytes) (handed s) n packets entries

-- what it owes then
abbrev pub owing : {s : State} {n : ℕ} {packets entries : List ℕ} {last : Reader} → Drew s n packets entries last → ℕ
owing {s} v = owed (lighter s v.drained v.phase)

-- what it owed is what came out and what it owes then
pub drew_owed : {s : State} {n : ℕ} {packets entries : List ℕ} {last : Reader} (v : Drew s n packets entries last) → n + owing v ≡ owed s
drew_owed v = omega (arith, v.many, v.sound.among)

-- one end
drew_one : {reader : Reader} {choice : ℕ} {out out' counts counts' : List ℕ} {step : Step} {n : ℕ} (s : State) → reader ≡ reader_of s → Sound s
    → EndCall reader choice out out' counts counts' step → result_says step.answer ≡ answers n
    → Drew s n (take (42 * n) out') (take n counts') step.reader
drew_one {choice = choice} {out = out} {counts = counts} {n = n} s e sound call said =
    let v = call s e sound in
    let next = steps_by (after_end s) said v.steps in
    record {
      drained = s.drained + n;
      phase = cond (eqb n (owed s)) 2 1;
      reader_is = next.reader_is;
      sound = next.sound;
      many = omega arith;
      part = part_written (hands_by said v.steps v.hands) (end_within sound choice (room_in out counts) (sym v.steps.answer_is ∙ said)).0;
    }

-- a strict one has ended the reader, and nothing else is changed
pub after_strict : (s : State) (room n : ℕ) → Sound s → end_said s strict room ≡ answers n → after_end s (answers n) ≡ lighter s s.drained 2
after_strict s room n sound said =
    let none = strict_none sound room said in
    let many : s.drained + n ≡ s.drained = omega (arith, none.0) in
    ap₂ (lighter s) many (simp (eq-eqb n (owed s) (none.0 ∙ sym none.1)))

ended_by : {reader : Reader} {out out' counts counts' : List ℕ} {step : Step} {n : ℕ} (s : State) → reader ≡ reader_of s → Sound s
    → EndCall reader strict out out' counts counts' step → result_says step.answer ≡ answers n
    → (step.reader ≡ reader_of (lighter s s.drained 2)) × Sound (lighter s s.drained 2)
ended_by {out = out} {counts = counts} {n = n} s e sound call said =
    let v = (call s e sound).steps in
    let next = steps_by (after_end s) said v in
    let ended = after_strict s (room_in out counts) n sound (sym v.answer_is ∙ said) in
    (next.reader_is ∙ ap reader_of ended, subst Sound ended next.sound)

-- and others after it
drew_more : {s : State} {n m : ℕ} {packets entries packets' entries' : List ℕ} {reader last : Reader} (v : Drew s n packets entries reader)
    → Drew (lighter s v.drained v.phase) m packets' entries' last → Drew s (n + m) (packets ++ packets') (entries ++ entries') last
drew_more {s} {n} {m} {packets' = packets'} {entries' = entries'} v w =
    let from : ready_by s.kind s.bytes + v.drained ≡ handed s + n = omega (arith, v.many) in
    record {
      drained = w.drained;
      phase = w.phase;
      reader_is = w.reader_is;
      sound = w.sound;
      many = omega (arith, v.many, w.many);
      part = part_joined v.part (subst (λ (k : ℕ). Part (reading_by s.kind s.bytes) k m packets' entries') from w.part);
    }

-- ends one after another
pub drained_is : {reader last : Reader} {rooms : List ℕ} {n : ℕ} {packets entries : List ℕ} → Drained reader rooms n packets entries last
    → (s : State) → reader ≡ reader_of s → Sound s → Drew s n packets entries last
drained_is none s e sound =
    record {
      drained = s.drained;
      phase = s.phase;
      reader_is = e;
      sound = sound;
      many = omega arith;
      part = part_none (reading_by s.kind s.bytes) (handed s);
    }
drained_is (more out out' counts counts' step room call said after) s e sound =
    let v = drew_one s e sound call said in
    drew_more v (drained_is after (lighter s v.drained v.phase) v.reader_is v.sound)
drained_is (strictly out out' counts counts' step call said after) s e sound =
    let next = ended_by s e sound call said in
    let v = drained_is after (lighter s s.drained 2) next.0 next.1 in
    record { drained = v.drained; phase = v.phase; reader_is = v.reader_is; sound = v.sound; many = v.many; part = v.part }
drained_is (refused call after) s e sound = drained_is after s (kept_by call s e sound) sound

-- with room for a packet each time, and at least as many times as packets are owed, all of them come out
pub all_drawn : {reader last : Reader} {rooms : List ℕ} {n : ℕ} {packets entries : List ℕ} → Drained reader rooms n packets entries last
    → (s : State) → reader ≡ reader_of s → Sound s → Each (λ room. 1 ≤ room) rooms → owed s ≤ length rooms → n ≡ owed s
unfolding Each
all_drawn none s e sound roomy enough = omega arith
all_drawn (more out out' counts counts' step room call said after) s e sound roomy enough =
    let v = drew_one s e sound call said in
    let many = lenient_many s e sound call said in
    let left = drew_owed v in
    let rest = all_drawn after (lighter s v.drained v.phase) v.reader_is v.sound roomy.1 (omega (arith, many, left, room, roomy.0)) in
    omega (arith, left, rest)
all_drawn (strictly out out' counts counts' step call said after) s e sound roomy enough =
    let next = ended_by s e sound call said in
    all_drawn after (lighter s s.drained 2) next.0 next.1 roomy enough
all_drawn (refused call after) s e sound roomy enough = all_drawn after s (kept_by call s e sound) sound roomy enough
