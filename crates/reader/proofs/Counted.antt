-- What reading in pieces counts: no announced frame goes uncounted, what came out is the first packets of the whole reading, and what is
-- owed is what lenient ends hand out. Assumes nothing.
use Prim.Native.Nat.{ℕ, ◌+◌, ◌*◌, ◌≤◌, ◌<◌, min}
use mathlib.Core.Path.{◌≡◌, sym, ap, ◌∙◌}
use mathlib.Core.List.{List}
use mathlib.Core.Bool.{true}
use native.Mathlib.Omega.{arith}
use lib.ListN.{length, take}
use Rattle.tables.specs.Table.{Each}
use Rattle.tables.proofs.Cases.{by_order}
use Rattle.blocks.specs.Headers.{announced_in}
use Rattle.refusals.specs.declared.Numbers.{Numbers}
use Rattle.refusals.specs.Said.{answers, refusal, result_says}
use Rattle.refusals.proofs.Said.{by_said}
use Rattle.sp.specs.Readings.{Reading, total}
use Rattle.sp.specs.Outcome.{room_in}
use Rattle.hold.proofs.Ready.{total_is, ready_within}
use Rattle.reader.specs.declared.Reader.{Reader}
use Rattle.reader.specs.declared.Step.{Step}
use Rattle.reader.specs.State.{State, is_kind, is_dss, start_of, blocks_in, reading_by, owed, Reached}
use Rattle.reader.specs.Calls.{lenient_by, lenient, end_said, Opens}
use Rattle.reader.specs.History.{EndCall, OwedCall, packets_from, counts_from, joined, Fed, Drained}
use Rattle.reader.specs.Agreement.{whole_reading, Agrees}
use Rattle.reader.proofs.Parts.{part_first}
use Rattle.reader.proofs.Laws.{at_state, lenient_many, header_full_lem, owed_in_header}
use Rattle.reader.proofs.Folding.{opened_fed, drew_owed, drained_is, all_drawn}
use Rattle.reader.proofs.Agreeing.{agrees_is}

module _ (kind : ℕ) (opening : Step) (opens : Opens kind opening) (known : is_kind kind ≡ true) {pieces : List (List ℕ)} {n : ℕ}
    {packets entries : List ℕ} {last : Reader} (fed : Fed opening.reader pieces n packets entries last) where
  -- However a fresh reader is given its pieces, the packets that came out and the frames owed are together as many as the count bytes of all
  -- whole blocks received add up to.
  pub none_uncounted : (m : ℕ) → OwedCall last m → n + m ≡ announced_in (joined pieces) (start_of kind) (blocks_in kind (joined pieces))
  none_uncounted m owes =
      let v = opened_fed kind opening opens known fed in
      let is = owes _ v.reader_is v.sound in
      omega (arith, is, v.many, ready_within (is_dss kind) (joined pieces) (start_of kind) (blocks_in kind (joined pieces)))

  -- Where the bytes joined are a file that is read as that kind, the packets that came out are the first that many of the whole reading, and
  -- so are their counts.
  pub first_packets : Agrees kind (joined pieces) → (reading : Reading) × (whole_reading kind (joined pieces) ≡ answers reading) × (n ≤ total reading)
      × (packets ≡ take (42 * n) (packets_from reading 0 (total reading))) × (entries ≡ take n (counts_from reading 0 (total reading)))
  first_packets agrees =
      let v = opened_fed kind opening opens known fed in
      let f = joined pieces in
      let reading = reading_by kind f in
      let among : n ≤ total reading =
      omega
      (arith, v.many, ready_within (is_dss kind) f (start_of kind) (blocks_in kind f), total_is (is_dss kind) f (start_of kind) (blocks_in kind f)) in
      let first = part_first reading 0 n (total reading) among in
      (reading, agrees_is kind f v.sound.small agrees, among, v.part.packets_are ∙ sym first.packets_are, v.part.entries_are ∙ sym first.entries_are)

-- What is owed is what a lenient end with room for all of it hands out, unless it is refused.
pub owed_is_handed : {reader : Reader} {m : ℕ} {out out' counts counts' : List ℕ} {step : Step} → Reached reader → OwedCall reader m
    → EndCall reader lenient out out' counts counts' step → m ≤ room_in out counts → ((why : Numbers) → result_says step.answer ≡ refusal why → ⊥)
    → result_says step.answer ≡ answers m
owed_is_handed {m = m} {step = step} known owes call room not_refused =
    by_said (result_says step.answer)
    (λ n said.
    let all : n ≡ m =
    omega (arith, at_state known owes, lenient_many known.state known.is known.sound call said) in
    said ∙ ap answers all)
    (λ why said. absurd (not_refused why said))

-- Before the header is full nothing is owed.
pub owed_before_header : (s : State) → length s.bytes < start_of s.kind → owed s ≡ 0
owed_before_header s short = owed_in_header s (omega arith)

-- So a lenient end is answered wherever something is owed: with as many packets as are owed and have room.
pub owed_is_answered : (s : State) (room : ℕ) → 0 < owed s → end_said s lenient room ≡ answers (min room (owed s))
unfolding lenient_by
owed_is_answered s room some =
    let a = start_of s.kind in
    let long = length s.bytes in
    by_order long a (λ short. absurd (omega (arith, owed_before_header s short))) (λ full. simp (header_full_lem a long full))

module _ {reader : Reader} {rooms : List ℕ} {n : ℕ} {packets entries : List ℕ} {last : Reader} (known : Reached reader)
    (drained : Drained reader rooms n packets entries last) (m k : ℕ) (before : OwedCall reader m) (after : OwedCall last k) where
  -- However often a reader is ended leniently, what came out and what is still owed are together what was owed.
  pub handed_with_owed : n + k ≡ m
  handed_with_owed =
      let s = known.state in
      let v = drained_is drained s known.is known.sound in
      omega (arith, drew_owed v, at_state known before, after _ v.reader_is v.sound)

  -- Ended leniently with room for a packet each time, and at least as often as packets are owed, it owes none in the end.
  pub owed_to_zero : Each (λ room. 1 ≤ room) rooms → m ≤ length rooms → k ≡ 0
  owed_to_zero roomy enough =
      let s = known.state in
      let owes = at_state known before in
      omega (arith, owes, handed_with_owed, all_drawn drained s known.is known.sound roomy (omega (arith, owes)))
