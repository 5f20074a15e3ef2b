-- What a host is told adds up: the packets that the calls have told and the frames owed that the last one tells are together all that was
-- announced. Assumes nothing.
use Prim.Native.Nat.{ℕ, ◌+◌, ◌*◌}
use mathlib.Core.Path.{◌≡◌, sym, ◌∙◌, subst}
use mathlib.Core.List.{List, [], ◌++◌}
use mathlib.Core.Bool.{true}
use native.Mathlib.Omega.{arith}
use lib.ListN.{take}
use Rattle.tables.proofs.Cases.{by_order}
use Rattle.blocks.specs.Headers.{announced_in}
use Rattle.refusals.specs.Said.{answers}
use Rattle.refusals.proofs.Said.{passed}
use Rattle.reader.specs.declared.Reader.{Reader}
use Rattle.reader.specs.declared.Step.{Step}
use Rattle.reader.specs.State.{is_kind, start_of, blocks_in, opened, Reached}
use Rattle.reader.specs.Calls.{open_said, after_open, Opens}
use Rattle.reader.specs.History.{OwedCall, joined, Refuses, Called, none, more, ended, refused}
use Rattle.reader.proofs.Laws.{at_state, steps_by, reached_by, owed_in_header}
use Rattle.reader.proofs.Ends.{owed_is}
use Rattle.reader.proofs.Total.{reached_opened}
use Rattle.reader.proofs.Called.{any_calls_counted}
use Rattle.klovdrun.specs.declared.Opened.{Opened}
use Rattle.klovdrun.specs.Wrapped.{step_to, OpenCarries}
use Rattle.klovdrun.specs.Hosted.{Told, nothing, taken, not_taken, an_end}
use Rattle.klovdrun.proofs.Theorems.{open_tells, piece_tells, end_tells}
use Rattle.klovdrun.proofs.Hosted.{told_answer, piece_refused, end_refused}

-- what stands behind what a host is told: calls that brought out so many packets, and that it owes so many in the end
record Behind (reader : Reader) (pieces : List (List ℕ)) (sum m : ℕ) : Type 0 where
  pub packets : List ℕ
  pub entries : List ℕ
  pub last : Reader
  pub called : Called reader pieces sum packets entries last
  pub owes : OwedCall last m

-- a call that told no packets
told_none : {reader : Reader} {pieces : List (List ℕ)} {sum m : ℕ} (first : ℕ) → first ≡ 0 → Behind reader pieces sum m
    → Behind reader pieces (first + sum) m
told_none {reader} {pieces} {sum} {m} first is_zero v =
    let same : sum ≡ first + sum = omega arith in
    subst (λ (sum : ℕ). Behind reader pieces sum m) same v

-- and was refused
after_refused : {reader next : Reader} {pieces : List (List ℕ)} {sum m : ℕ} (first : ℕ) → Refuses reader next × (first ≡ 0)
    → Behind next pieces sum m → Behind reader pieces (first + sum) m
after_refused first call v =
    told_none first call.1
    (record { packets = v.packets; entries = v.entries; last = v.last; called = refused call.0 v.called; owes = v.owes })

told_behind : {reader : Reader} {m m' sum : ℕ} {pieces : List (List ℕ)} → Told reader m pieces sum m' → Reached reader → OwedCall reader m
    → Behind reader pieces sum m'
told_behind {reader} nothing known owes = record { packets = []; entries = []; last = reader; called = none; owes = owes }
told_behind (taken {stored = stored} out out' counts counts' r c zero after) known owes =
    let step = (at_state known c.carries.comes).steps in
    let v = told_behind after (reached_by step) c.owed_is in
    record {
      packets = take (42 * r.first) out' ++ v.packets;
      entries = take r.first counts' ++ v.entries;
      last = v.last;
      called = more out out' counts counts' (step_to stored c.carries.answer) c.carries.comes (told_answer (piece_tells known c) step zero) v.called;
      owes = v.owes;
    }
told_behind (not_taken piece out out' counts counts' r c some after) known owes =
    let v = told_behind after (reached_by (at_state known c.carries.comes).steps) c.owed_is in
    after_refused r.first (piece_refused known c some) v
told_behind (an_end {stored = stored} choice out out' counts counts' r c after) known owes =
    let step = (at_state known c.carries.comes).steps in
    let v = told_behind after (reached_by step) c.owed_is in
    by_order 0 r.refusal (λ some. after_refused r.first (end_refused known c some) v)
    (λ no-refusal.
    let zero : r.refusal ≡ 0 = omega arith in
    record {
      packets = take (42 * r.first) out' ++ v.packets;
      entries = take r.first counts' ++ v.entries;
      last = v.last;
      called = ended choice out out' counts counts' (step_to stored c.carries.answer) c.carries.comes (told_answer (end_tells known c) step zero) v.called;
      owes = v.owes;
    })

-- an open that is answered is of a kind that there is, has no packets, and owes none
pub opened_none : (kind n : ℕ) → open_said kind ≡ answers n → (is_kind kind ≡ true) × (n ≡ 0)
unfolding open_said
opened_none kind n said = let p = passed (is_kind kind) 10 kind (answers 0) said in (p.0, cc p.1)

opened_owes : (kind n : ℕ) {step : Step} → Opens kind step → open_said kind ≡ answers n → OwedCall step.reader 0
opened_owes kind n {step} opens said s is sound =
    let first = steps_by (after_open kind) (opens.answer_is ∙ said) opens in
    sym (owed_in_header (opened kind) (omega arith)) ∙ sym (owed_is (opened kind) step.reader first.reader_is) ∙ owed_is s step.reader is

-- No announced frame goes uncounted, in a host's numbers: after `klov_open` and any calls of `klov_piece` and `klov_end`, by any choice and in
-- any order, refused ones among them, all the first numbers together and the last second number are what the whole blocks of the pieces that
-- were taken announce.
pub told_adds_up : (kind : ℕ) {r : Opened} → OpenCarries kind r → r.answer.refusal ≡ 0 → {pieces : List (List ℕ)} {sum m : ℕ}
    → Told r.reader r.answer.second pieces sum m
    → r.answer.first + sum + m ≡ announced_in (joined pieces) (start_of kind) (blocks_in kind (joined pieces))
told_adds_up kind {r} c zero {m = m} told =
    let begun = (open_tells kind c).zero zero in
    let known = opened_none kind begun.0 begun.1 in
    let owes = subst (λ (m : ℕ). OwedCall r.reader m) (sym begun.4) (opened_owes kind begun.0 c.comes begun.1) in
    let v = told_behind told (reached_opened kind c.comes) owes in
    omega (arith, begun.3, known.1, any_calls_counted kind _ c.comes known.0 v.called m v.owes)
