-- Any calls on a reader, in any order, are those of a reader that takes pieces and then those of one that was ended: a reader that has
-- answered an end takes no piece. So what is said of the two parts is said of any sequence of calls. Assumes nothing.
use Prim.Native.Nat.{ℕ, ◌+◌, ◌*◌, ◌-◌}
use mathlib.Core.Path.{◌≡◌, refl, sym, ap, ◌∙◌, subst}
use mathlib.Core.Bool.{true}
use mathlib.Core.List.{List, [], ◌∷◌, ◌++◌, append_assoc}
use native.Mathlib.Omega.{arith}
use lib.ListN.{length, take}
use lib.Dec.{eqb}
use Rattle.tables.proofs.Cases.{by_test}
use Rattle.blocks.specs.Headers.{announced_in}
use Rattle.refusals.specs.Said.{answers, result_says}
use Rattle.sp.specs.Readings.{Reading, total}
use Rattle.sp.specs.Outcome.{room_in}
use Rattle.reader.specs.declared.Reader.{Reader}
use Rattle.reader.specs.declared.Step.{Step}
use Rattle.reader.specs.State.{State, is_kind, start_of, blocks_in, opened, owed, reader_of, Sound, Reached}
use Rattle.reader.specs.Calls.{after_piece, after_end, Opens}
use Rattle.reader.specs.History.{EndCall, OwedCall, packets_from, counts_from, joined, Fed, Drained, none, more, strictly, ended, refused, Called, InTwo}
use Rattle.reader.specs.Agreement.{whole_reading, Agrees}
use Rattle.reader.proofs.Laws.{steps_by, reached_by, piece_accepted}
use Rattle.reader.proofs.Ends.{owed_is, end_passed}
use Rattle.reader.proofs.Within.{strict_none}
use Rattle.reader.proofs.Folding.{kept_by, holding, opened_fed}
use Rattle.reader.proofs.Counted.{none_uncounted, handed_with_owed}
use Rattle.reader.proofs.Equal.{pieces_are_whole}

-- the calls of a reader that has answered an end
record Ended (reader : Reader) (pieces : List (List ℕ)) (n : ℕ) (packets entries : List ℕ) (last : Reader) : Type 0 where
  pub no_pieces : pieces ≡ []
  pub rooms : List ℕ
  pub drained : Drained reader rooms n packets entries last

-- an end that hands out nothing
none_more : {reader last : Reader} {rooms : List ℕ} {m : ℕ} {packets entries : List ℕ} (n : ℕ) (out counts : List ℕ) → n ≡ 0
    → Drained reader rooms m packets entries last → Drained reader rooms (n + m) (take (42 * n) out ++ packets) (take n counts ++ entries) last
none_more {reader} {last} {rooms} {m} {packets} {entries} n out counts is v =
    let same : m ≡ 0 + m = omega arith in
    subst (λ (n : ℕ). Drained reader rooms (n + m) (take (42 * n) out ++ packets) (take n counts ++ entries) last) (sym is)
    (subst (λ (m : ℕ). Drained reader rooms m packets entries last) same v)

-- an end by either choice, and then those
ends_then : {reader last : Reader} {pieces : List (List ℕ)} {n m : ℕ} {packets entries : List ℕ} (choice : ℕ) (out out' counts counts' : List ℕ)
    (step : Step) (s : State) → reader ≡ reader_of s → Sound s → EndCall reader choice out out' counts counts' step
    → result_says step.answer ≡ answers n → Ended step.reader pieces m packets entries last
    → Ended reader pieces (n + m) (take (42 * n) out' ++ packets) (take n counts' ++ entries) last
ends_then {reader} {n = n} choice out out' counts counts' step s e sound call said v =
    let answer = sym (call s e sound).steps.answer_is ∙ said in
    end_passed choice s.phase (start_of s.kind) (length s.bytes) (owed s) (room_in out counts) answer
    (λ is passed.
    record {
      no_pieces = v.no_pieces;
      rooms = v.rooms;
      drained = none_more n out' counts' (strict_none sound (room_in out counts) passed).0 (strictly out out' counts counts' step (meant is) said v.drained);
    })
    (λ is full many.
    record {
      no_pieces = v.no_pieces;
      rooms = room_in out counts ∷ v.rooms;
      drained = more out out' counts counts' step refl (meant is) said v.drained;
    })
  where
    meant : {c : ℕ} → choice ≡ c → EndCall reader c out out' counts counts' step
    meant is = subst (λ (c : ℕ). EndCall reader c out out' counts counts' step) is call

end_phase : (s : State) (n : ℕ) → (after_end s (answers n)).phase ≡ 0 → ⊥
end_phase s n e = by_test (eqb n (owed s)) (λ t. omega (arith, simp t at e)) (λ t. omega (arith, simp t at e))

after_end_lem : {reader last : Reader} {pieces : List (List ℕ)} {n : ℕ} {packets entries : List ℕ} → Called reader pieces n packets entries last
    → (s : State) → reader ≡ reader_of s → Sound s → (s.phase ≡ 0 → ⊥) → Ended reader pieces n packets entries last
after_end_lem none s e sound was = record { no_pieces = refl; rooms = []; drained = none }
after_end_lem (more {piece = piece} {n = n} out out' counts counts' step call said after) s e sound was =
    absurd (was (piece_accepted s piece (room_in out counts) n (sym (call s e sound).steps.answer_is ∙ said)).0)
after_end_lem (ended {n = n} choice out out' counts counts' step call said after) s e sound was =
    let next = steps_by (after_end s) said (call s e sound).steps in
    ends_then choice out out' counts counts' step s e sound call said
    (after_end_lem after (after_end s (answers n)) next.reader_is next.sound (end_phase s n))
after_end_lem (refused call after) s e sound was =
    let v = after_end_lem after s (kept_by call s e sound) sound was in
    record { no_pieces = v.no_pieces; rooms = v.rooms; drained = refused call v.drained }

-- a reader that was ended: all of it is the second part
ended_in_two : {reader last : Reader} {pieces : List (List ℕ)} {n : ℕ} {packets entries : List ℕ} → Ended reader pieces n packets entries last
    → InTwo reader pieces n packets entries last
ended_in_two {reader} {n = n} {packets = packets} {entries = entries} v =
    record {
      middle = reader;
      n₁ = 0;
      packets₁ = [];
      entries₁ = [];
      fed = subst (λ (pieces : List (List ℕ)). Fed reader pieces 0 [] [] reader) (sym v.no_pieces) none;
      rooms = v.rooms;
      n₂ = n;
      packets₂ = packets;
      entries₂ = entries;
      drained = v.drained;
      many = omega arith;
      packets_are = refl;
      entries_are = refl;
    }

in_two_at : {reader last : Reader} {pieces : List (List ℕ)} {n : ℕ} {packets entries : List ℕ} → Called reader pieces n packets entries last
    → (s : State) → reader ≡ reader_of s → Sound s → InTwo reader pieces n packets entries last
in_two_at none s e sound = ended_in_two (record { no_pieces = refl; rooms = []; drained = none })
in_two_at (more {piece = piece} {n = n} out out' counts counts' step call said after) s e sound =
    let next = steps_by (after_piece s piece) said (call s e sound).steps in
    let v = in_two_at after (after_piece s piece (answers n)) next.reader_is next.sound in
    record {
      middle = v.middle;
      n₁ = n + v.n₁;
      packets₁ = take (42 * n) out' ++ v.packets₁;
      entries₁ = take n counts' ++ v.entries₁;
      fed = more out out' counts counts' step call said v.fed;
      rooms = v.rooms;
      n₂ = v.n₂;
      packets₂ = v.packets₂;
      entries₂ = v.entries₂;
      drained = v.drained;
      many = omega (arith, v.many);
      packets_are = ap (λ (l : List ℕ). take (42 * n) out' ++ l) v.packets_are ∙ sym (append_assoc (take (42 * n) out') v.packets₁ v.packets₂);
      entries_are = ap (λ (l : List ℕ). take n counts' ++ l) v.entries_are ∙ sym (append_assoc (take n counts') v.entries₁ v.entries₂);
    }
in_two_at (ended {n = n} choice out out' counts counts' step call said after) s e sound =
    let next = steps_by (after_end s) said (call s e sound).steps in
    let v = after_end_lem after (after_end s (answers n)) next.reader_is next.sound (end_phase s n) in
    ended_in_two (ends_then choice out out' counts counts' step s e sound call said v)
in_two_at (refused call after) s e sound =
    let v = in_two_at after s (kept_by call s e sound) sound in
    record {
      middle = v.middle;
      n₁ = v.n₁;
      packets₁ = v.packets₁;
      entries₁ = v.entries₁;
      fed = refused call v.fed;
      rooms = v.rooms;
      n₂ = v.n₂;
      packets₂ = v.packets₂;
      entries₂ = v.entries₂;
      drained = v.drained;
      many = v.many;
      packets_are = v.packets_are;
      entries_are = v.entries_are;
    }

-- Any calls on a reader that open or a call gave back are accepted pieces, and then ends, with refused calls in between.
pub calls_in_two : {reader last : Reader} {pieces : List (List ℕ)} {n : ℕ} {packets entries : List ℕ} → Reached reader
    → Called reader pieces n packets entries last → InTwo reader pieces n packets entries last
calls_in_two known called = in_two_at called known.state known.is known.sound

-- what a reader owes is told by its numbers
owes_by : (reader : Reader) → OwedCall reader (reader.announced - reader.ready - reader.drained)
owes_by reader s is sound = owed_is s reader is

-- So the theorems of a fresh reader hold after any calls.
module _ (kind : ℕ) (opening : Step) (opens : Opens kind opening) (known : is_kind kind ≡ true) {pieces : List (List ℕ)} {n : ℕ}
    {packets entries : List ℕ} {last : Reader} (called : Called opening.reader pieces n packets entries last) where
  -- the two parts, and the reader between them
  parts : InTwo opening.reader pieces n packets entries last
  parts = calls_in_two (reached_by opens) called

  between : Reached parts.middle
  between =
      let v = opened_fed kind opening opens known parts.fed in
      record { state = holding (opened kind) (joined pieces); is = v.reader_is; sound = v.sound }

  -- Packets handed out, by pieces and by ends, and frames owed are together as many as the count bytes of all whole blocks add up to.
  pub any_calls_counted : (m : ℕ) → OwedCall last m → n + m ≡ announced_in (joined pieces) (start_of kind) (blocks_in kind (joined pieces))
  any_calls_counted m owes =
      let owed_then = owes_by parts.middle in
      omega (
        arith,
        parts.many,
        none_uncounted kind opening opens known parts.fed _ owed_then,
        handed_with_owed between parts.drained _ m owed_then owes,
      )

  -- When nothing is owed any more, and the bytes joined are a file that is read as that kind, all that came out is its whole reading.
  pub any_calls_whole : OwedCall last 0 → Agrees kind (joined pieces) → (reading : Reading) × (whole_reading kind (joined pieces) ≡ answers reading)
      × (n ≡ total reading) × (packets ≡ packets_from reading 0 (total reading)) × (entries ≡ counts_from reading 0 (total reading))
  any_calls_whole none_owed agrees =
      let v = pieces_are_whole kind opening opens known parts.fed parts.drained none_owed agrees in
      (v.0, v.1, parts.many ∙ v.2, parts.packets_are ∙ v.3, parts.entries_are ∙ v.4)
