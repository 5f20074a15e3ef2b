-- What reading in pieces is equal to: what came out of a fresh reader is what is ready in the bytes joined, with what lenient ends hand
-- out it is the whole reading, and however the input was cut it is the same. Assumes nothing.
use Prim.Native.Nat.{ℕ, ◌+◌, ◌*◌, ◌≤◌, ◌<◌}
use mathlib.Core.Path.{◌≡◌, refl, sym, ap, ◌∙◌, subst}
use mathlib.Core.List.{List, ◌++◌}
use mathlib.Core.Bool.{true, false}
use native.Mathlib.Omega.{arith}
use borrow.Author.Tests.{le-leb, lt-leb, leb-false}
use lib.ListN.{length, take}
use Rattle.blocks.specs.Places.{limit}
use Rattle.blocks.specs.Headers.{count_of, announced_in}
use Rattle.refusals.specs.Said.{answers, refuses, result_says}
use Rattle.sp.specs.Readings.{Reading, total, CompleteAt}
use Rattle.sp.specs.Outcome.{Demuxes}
use Rattle.hold.specs.Held.{fitting}
use Rattle.hold.proofs.Ready.{total_is, ds2_exactly}
use Rattle.reader.specs.declared.Reader.{Reader}
use Rattle.reader.specs.declared.Step.{Step}
use Rattle.reader.specs.State.{State, is_kind, is_dss, start_of, blocks_in, announced_by, reading_by, ready_by, fits_by, opened}
use Rattle.reader.specs.Calls.{piece_said, Opens}
use Rattle.reader.specs.History.{PieceCall, OwedCall, packets_from, counts_from, CompleteUpto, joined, Fed, Drained}
use Rattle.reader.specs.Agreement.{whole_reading, Agrees}
use Rattle.reader.proofs.Parts.{Part, part_joined}
use Rattle.reader.proofs.Laws.{seven_given_by}
use Rattle.reader.proofs.Folding.{holding, Came, opened_fed, drew_owed, drained_is}
use Rattle.reader.proofs.Agreeing.{agrees_is, whole_hands}
use Rattle.reader.proofs.Fitting.{fits_same}
use Rattle.reader.proofs.Blockwise.{block_exactly}
use Rattle.std.specs.Prelude.{Result}
use Rattle.refusals.specs.declared.Refusal.{Refusal}

-- A reader that takes pieces refuses one with which it is within the limit by 7 exactly when some block of the bytes joined does not fit.
pub seven_given : (s : State) (piece : List ℕ) (room : ℕ) → s.phase ≡ 0 → length s.bytes + length piece ≤ limit
    → (piece_said s piece room ≡ refuses 7 12288 → fits_by s.kind (s.bytes ++ piece) ≡ false)
    × (fits_by s.kind (s.bytes ++ piece) ≡ false → piece_said s piece room ≡ refuses 7 12288)
unfolding piece_said
seven_given s piece room taking small = (
  seven_given_by s piece room,
  (λ full. simp (taking, le-leb (length s.bytes + length piece) limit small, full)),
)

module _ (kind : ℕ) (opening : Step) (opens : Opens kind opening) (known : is_kind kind ≡ true) {pieces : List (List ℕ)} {n : ℕ}
    {packets entries : List ℕ} {last : Reader} (fed : Fed opening.reader pieces n packets entries last) where
  came : Came kind (joined pieces) n packets entries last
  came = opened_fed kind opening opens known fed

  -- However a fresh reader is given its pieces, and whatever magic and type the bytes joined have, the packets that came out are those that
  -- are ready in them: the first packets of their reading, with their counts.
  pub what_came_out : (n ≡ ready_by kind (joined pieces)) × (packets ≡ packets_from (reading_by kind (joined pieces)) 0 n)
      × (entries ≡ counts_from (reading_by kind (joined pieces)) 0 n)
  what_came_out = (came.many, came.part.packets_are, came.part.entries_are)

  -- DS2: of the announced packets those came out whose reads are complete in whole blocks.
  pub ds2_out_exactly : is_dss kind ≡ false → (k : ℕ) → k < announced_by kind (joined pieces)
      → (k < n → CompleteAt (reading_by kind (joined pieces)) k) × (CompleteAt (reading_by kind (joined pieces)) k → k < n)
  ds2_out_exactly ds2 k h =
      rw (came.many, ds2) (ds2_exactly (joined pieces) (start_of kind) (blocks_in kind (joined pieces)) k h)

  -- DSS: packet i of block b came out exactly when every packet of that block and of the blocks before it is complete. So a block's packets
  -- come out together, in block order.
  pub dss_out_exactly : is_dss kind ≡ true → (b i : ℕ) → b < blocks_in kind (joined pieces) → i < count_of (joined pieces) (start_of kind) b
      → (announced_in (joined pieces) (start_of kind) b + i < n → CompleteUpto (reading_by kind (joined pieces)) (joined pieces) (start_of kind) b)
      × (CompleteUpto (reading_by kind (joined pieces)) (joined pieces) (start_of kind) b → announced_in (joined pieces) (start_of kind) b + i < n)
  dss_out_exactly dss b i there h =
      rw (came.many, dss) (block_exactly (joined pieces) (start_of kind) (blocks_in kind (joined pieces)) b i there h)

  -- A piece that follows, within the limit, is refused by 7 exactly when more blocks are there with it than fit, one after another, of any
  -- longer input that begins so: however the input is cut, 7 comes at the same block.
  pub seven_at_the_same_block : {piece out out' counts counts' : List ℕ} {step : Step} → PieceCall last piece out out' counts counts' step
      → length (joined pieces) + length piece ≤ limit → (rest : List ℕ)
      → (result_says step.answer ≡ refuses 7 12288
      → fitting (is_dss kind) (joined pieces ++ piece ++ rest) (start_of kind) (blocks_in kind (joined pieces ++ piece ++ rest)) < blocks_in kind (joined pieces ++ piece))
      × (fitting (is_dss kind) (joined pieces ++ piece ++ rest) (start_of kind) (blocks_in kind (joined pieces ++ piece ++ rest)) < blocks_in kind (joined pieces ++ piece)
      → result_says step.answer ≡ refuses 7 12288)
  seven_at_the_same_block {piece = piece} {step = step} call small rest =
      let f = joined pieces ++ piece in
      let s = holding (opened kind) (joined pieces) in
      let said = (call s came.reader_is came.sound).steps.answer_is in
      let given = seven_given s piece _ refl small in
      let same = fits_same (is_dss kind) f rest (start_of kind) in (
        (λ e. leb-false _ _ (sym same ∙ given.0 (sym said ∙ e))),
        (λ full. said ∙ given.1 (same ∙ lt-leb _ _ full)),
      )

  module _ {rooms : List ℕ} {n' : ℕ} {packets' entries' : List ℕ} {end : Reader} (drained : Drained last rooms n' packets' entries' end)
      (none_owed : OwedCall end 0) where
    -- Then ended leniently until nothing is owed, a reader has handed out every packet of the reading of the bytes joined, magic or not.
    pub pieces_make_reading : (n + n' ≡ total (reading_by kind (joined pieces)))
        × (packets ++ packets' ≡ packets_from (reading_by kind (joined pieces)) 0 (total (reading_by kind (joined pieces))))
        × (entries ++ entries' ≡ counts_from (reading_by kind (joined pieces)) 0 (total (reading_by kind (joined pieces))))
    pieces_make_reading =
        let f = joined pieces in
        let reading = reading_by kind f in
        let w = drained_is drained (holding (opened kind) f) came.reader_is came.sound in
        let all : n + n' ≡ total reading =
        omega (
          arith,
          came.many,
          drew_owed w,
          none_owed _ w.reader_is w.sound,
          w.many,
          w.sound.among,
          total_is (is_dss kind) f (start_of kind) (blocks_in kind f),
        ) in
        let from : ready_by kind f + 0 ≡ 0 + n = omega (arith, came.many) in
        let v = part_joined came.part (subst (λ (k : ℕ). Part reading k n' packets' entries') from w.part) in
        (all, v.packets_are ∙ ap (packets_from reading 0) all, v.entries_are ∙ ap (counts_from reading 0) all)

    -- Where the bytes joined are a file that is read as that kind, that is the whole reading.
    pub pieces_are_whole : Agrees kind (joined pieces) → (reading : Reading) × (whole_reading kind (joined pieces) ≡ answers reading)
        × (n + n' ≡ total reading) × (packets ++ packets' ≡ packets_from reading 0 (total reading))
        × (entries ++ entries' ≡ counts_from reading 0 (total reading))
    pieces_are_whole agrees =
        let v = pieces_make_reading in
        (reading_by kind (joined pieces), agrees_is kind (joined pieces) came.sound.small agrees, v.0, v.1, v.2)

    -- And it is what the whole call, where it has room, leaves in front of its output and of its count table.
    pub pieces_are_the_whole_call : Agrees kind (joined pieces) → {out out' counts counts' : List ℕ} {answer : Result ℕ Refusal} {t : ℕ}
        → Demuxes (whole_reading kind (joined pieces)) out out' counts counts' answer → result_says answer ≡ answers t
        → (n + n' ≡ t) × (packets ++ packets' ≡ take (42 * t) out') × (entries ++ entries' ≡ take t counts')
    pieces_are_the_whole_call agrees {out' = out'} {counts' = counts'} whole said =
        let v = pieces_make_reading in
        let w = whole_hands (agrees_is kind (joined pieces) came.sound.small agrees) whole said in (
          v.0 ∙ w.0,
          v.1 ∙ sym w.1.packets_are ∙ ap (λ (m : ℕ). take (42 * m) out') w.0,
          v.2 ∙ sym w.1.entries_are ∙ ap (λ (m : ℕ). take m counts') w.0,
        )

-- Input that is cut otherwise brings out the same packets and counts, and comes to the same reader.
pub cut_otherwise : (kind : ℕ) (opening opening' : Step) → Opens kind opening → Opens kind opening' → is_kind kind ≡ true
    → {pieces pieces' : List (List ℕ)} {n n' : ℕ} {packets packets' entries entries' : List ℕ} {last last' : Reader}
    → Fed opening.reader pieces n packets entries last → Fed opening'.reader pieces' n' packets' entries' last'
    → joined pieces ≡ joined pieces' → (n ≡ n') × (packets ≡ packets') × (entries ≡ entries') × (last ≡ last')
cut_otherwise kind opening opening' opens opens' known {n = n} {n' = n'} {packets = packets} {entries = entries} {last = last} one other same =
    let v = subst (λ (f : List ℕ). Came kind f n packets entries last) same (opened_fed kind opening opens known one) in
    let w = opened_fed kind opening' opens' known other in
    let many : n ≡ n' = v.many ∙ sym w.many in (
      many,
      v.part.packets_are ∙ ap (packets_from _ 0) many ∙ sym w.part.packets_are,
      v.part.entries_are ∙ ap (counts_from _ 0) many ∙ sym w.part.entries_are,
      v.reader_is ∙ sym w.reader_is,
    )
