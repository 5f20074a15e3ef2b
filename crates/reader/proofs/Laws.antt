-- Laws of states and answers: what is known of a call by what it said, that it has one outcome, and what is said when.
-- Assumes nothing.
use Prim.Native.Nat.{ℕ, ◌+◌, ◌*◌, ◌-◌, ◌≤◌, min}
use mathlib.Core.Path.{◌≡◌, sym, ap, ap₂, ◌∙◌, subst}
use mathlib.Core.List.{List, ◌++◌}
use mathlib.Core.Bool.{true, false}
use native.Mathlib.Omega.{arith}
use borrow.Author.Tests.{le-leb, leb-true, eq-eqb, ne_eqb, eqb-true}
use lib.ListN.{length, get_or, take, get_or-append}
use lib.Seq.{get_or-append-add}
use lib.Dec.{eqb, leb}
use Rattle.tables.proofs.Cases.{by_order, by_equal}
use Rattle.blocks.specs.Places.{limit}
use Rattle.blocks.specs.Headers.{Bytes, announced_in}
use Rattle.blocks.proofs.Headers.{announced_none}
use Rattle.refusals.specs.declared.Numbers.{Numbers}
use Rattle.refusals.specs.Said.{Said, answers, refuses, refusal, result_says}
use Rattle.refusals.proofs.Said.{not_both, passed, by_demand}
use Rattle.sp.specs.Readings.{Reading}
use Rattle.sp.specs.Outcome.{room_in}
use Rattle.reader.specs.declared.Reader.{Reader}
use Rattle.reader.specs.declared.Step.{Step}
use Rattle.reader.specs.State.{State, start_of, blocks_in, fits_by, owed, reader_of, header_full, header_done, Sound, Reached}
use Rattle.reader.specs.Calls.{brings, piece_said, in_block, strict_by, lenient_by, strict, lenient, end_said, Steps, Hands}
use Rattle.reader.specs.History.{EndCall}
use Rattle.reader.proofs.Parts.{Part, part_over}
use Rattle.std.specs.Prelude.{Result}
use Rattle.refusals.specs.declared.Refusal.{Refusal}
use Rattle.refusals.proofs.Results.{only_result}

-- what a contract says of every state that a reader may stand for, said of one
pub at_state : {reader : Reader} {P : State → Type 0} (known : Reached reader) → ((s : State) → reader ≡ reader_of s → Sound s → P s)
    → P known.state
at_state known call = call known.state known.is known.sound

-- a call whose answer says this has come to the state that follows from it
pub steps_by : {said known : Said ℕ} {step : Step} (after : Said ℕ → State) → result_says step.answer ≡ known → Steps said (after said) step
    → Steps known (after known) step
steps_by {step = step} after e v = subst (λ (x : Said ℕ). Steps x (after x) step) (sym v.answer_is ∙ e) v

-- and has left what follows from it in the lent buffers
pub hands_by : {said known : Said ℕ} {next : State} {step : Step} {reading : Reading} {k : ℕ} {out out' counts counts' : List ℕ}
    → result_says step.answer ≡ known → Steps said next step → Hands reading k said out out' counts counts'
    → Hands reading k known out out' counts counts'
hands_by {reading = reading} {k = k} {out = out} {out' = out'} {counts = counts} {counts' = counts'} e v h =
    subst (λ (x : Said ℕ). Hands reading k x out out' counts counts') (sym v.answer_is ∙ e) h

-- a refused one has left everything as it was
pub refused_by : {said : Said ℕ} {step : Step} {reading : Reading} {k : ℕ} {out out' counts counts' : List ℕ} {why : Numbers} (after : Said ℕ → State)
    → result_says step.answer ≡ refusal why → Steps said (after said) step → Hands reading k said out out' counts counts'
    → (step.reader ≡ reader_of (after (refusal why))) × (out' ≡ out) × (counts' ≡ counts)
refused_by after e v h = let kept = hands_by e v h in ((steps_by after e v).reader_is, kept.out_is, kept.counts_are)

-- its reader is one that a call gave back
pub reached_by : {said : Said ℕ} {next : State} {step : Step} → Steps said next step → Reached step.reader
reached_by {next = next} v = record { state = next; is = v.reader_is; sound = v.sound }

-- what an answered call has written in front
pub part_written : {reading : Reading} {k n : ℕ} {out out' counts counts' : List ℕ} → Hands reading k (answers n) out out' counts counts'
    → n ≤ room_in out counts → Part reading k n (take (42 * n) out') (take n counts')
part_written {reading} {k} {n} {out} {out'} {counts} {counts'} h room =
    let v = part_over reading k n out counts room in
    record { packets_are = ap (take (42 * n)) h.out_is ∙ v.packets_are; entries_are = ap (take n) h.counts_are ∙ v.entries_are }

-- two outcomes of one call are the same
step_of : Result ℕ Refusal → Reader → Step
step_of answer reader = record { answer = answer; reader = reader }

pub only_step : {said : Said ℕ} {next : State} {step step' : Step} → Steps said next step → Steps said next step' → step ≡ step'
unfolding step_of
only_step {said} {next} {step} {step'} v w =
    let answer : step.answer ≡ step'.answer =
    only_result step.answer step'.answer said v.answer_is w.answer_is in
    ap₂ step_of answer (v.reader_is ∙ sym w.reader_is)

pub only_outcome : {reading : Reading} {k : ℕ} {said : Said ℕ} {next : State} {step step' : Step} {out out' out'' counts counts' counts'' : List ℕ}
    → Steps said next step → Steps said next step' → Hands reading k said out out' counts counts' → Hands reading k said out out'' counts counts''
    → (step ≡ step') × (out' ≡ out'') × (counts' ≡ counts'')
only_outcome v w h g = (only_step v w, h.out_is ∙ sym g.out_is, h.counts_are ∙ sym g.counts_are)

-- a piece that was accepted: the reader took pieces, there was room for what it brought, and the bytes joined are few enough and fit
pub piece_accepted : (s : State) (piece : List ℕ) (room n : ℕ) → piece_said s piece room ≡ answers n
    → (s.phase ≡ 0) × (brings s piece ≡ n) × (n ≤ room) × (length s.bytes + length piece ≤ limit) × (fits_by s.kind (s.bytes ++ piece) ≡ true)
unfolding piece_said
piece_accepted s piece room n e =
    let taking = passed (eqb s.phase 0) 6 0 _ e in
    let within = passed (leb (length s.bytes + length piece) limit) 2 limit _ taking.1 in
    let fitting = passed (fits_by s.kind (s.bytes ++ piece)) 7 12288 _ within.1 in
    let roomy = passed (leb (brings s piece) room) 8 (brings s piece) (answers (brings s piece)) fitting.1 in
    let many : brings s piece ≡ n = cc roomy.1 in
    let few = leb-true (length s.bytes + length piece) limit within.0 in
    (eqb-true s.phase 0 taking.0, many, omega (arith, many, leb-true (brings s piece) room roomy.0), few, fitting.0)

-- how many packets a lenient end answers
pub lenient_many : {reader : Reader} {out out' counts counts' : List ℕ} {step : Step} {n : ℕ} (s : State) → reader ≡ reader_of s → Sound s
    → EndCall reader lenient out out' counts counts' step → result_says step.answer ≡ answers n → n ≡ min (room_in out counts) (owed s)
unfolding lenient_by
lenient_many {out = out} {counts = counts} s e sound call said =
    let v = (call s e sound).steps in
    let full = passed (header_done s) 3 (start_of s.kind) (answers (min (room_in out counts) (owed s))) (sym v.answer_is ∙ said) in
    cc full.1

-- a piece that was refused by 7: a block did not fit
pub seven_given_by : (s : State) (piece : List ℕ) (room : ℕ) → piece_said s piece room ≡ refuses 7 12288 → fits_by s.kind (s.bytes ++ piece) ≡ false
unfolding piece_said
seven_given_by s piece room e =
    by_demand (eqb s.phase 0) e
    (λ taking e.
    by_demand (leb (length s.bytes + length piece) limit) e
    (λ within e.
    by_demand (fits_by s.kind (s.bytes ++ piece)) e
    (λ fit e.
    by_demand (leb (brings s piece) room) e (λ roomy e. absurd (not_both (sym e))) (λ full is beside. absurd (omega (arith, is))))
    (λ full is beside. full))
    (λ over is beside. absurd (omega (arith, is))))
    (λ ended is beside. absurd (omega (arith, is)))

-- a header that is reached is full
pub header_full_lem : (a long : ℕ) → a ≤ long → header_full a long ≡ true
header_full_lem a long h = by_equal long 0 (λ none. simp (eq-eqb long 0 none)) (λ some. simp (ne_eqb long 0 some, le-leb a long h))

-- bytes joined are bytes
pub bytes_joined : (f g : List ℕ) → Bytes f → Bytes g → Bytes (f ++ g)
bytes_joined f g p q i =
    by_order i (length f) (λ l. omega (arith, get_or-append f g 0 i l, p i))
    (λ l.
    let at : i ≡ length f + (i - length f) = omega arith in
    omega (arith, ap (λ (j : ℕ). get_or (f ++ g) j 0) at, get_or-append-add f g (i - length f) 0, q (i - length f)))

-- up to a full header no block is there, and nothing is owed
pub owed_in_header : (s : State) → length s.bytes ≤ start_of s.kind → owed s ≡ 0
owed_in_header s short =
    let none : blocks_in s.kind s.bytes ≡ 0 = omega arith in
    omega (arith, ap (announced_in s.bytes (start_of s.kind)) none, announced_none s.bytes (start_of s.kind))

-- so an end there, at the header's last byte or before any input, is answered with no packets
pub ends_empty : (s : State) (room : ℕ) → s.phase ≡ 0 → length s.bytes ≤ start_of s.kind → header_done s ≡ true
    → (end_said s strict room ≡ answers 0) × (end_said s lenient room ≡ answers 0) × (owed s ≡ 0)
unfolding strict_by lenient_by
ends_empty s room taking short full =
    let nothing = owed_in_header s short in
    let whole : in_block (start_of s.kind) (length s.bytes) ≡ 0 = omega arith in
    let none : min room 0 ≡ 0 = omega arith in
    (simp (taking, full, whole, nothing), simp (full, nothing, none), nothing)
