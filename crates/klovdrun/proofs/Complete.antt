-- What a host knows whose strict end is answered with refusal 0: of the recording that it gave every read is complete.
-- Assumes nothing.
use Prim.Native.Nat.{ℕ}
use mathlib.Core.Path.{◌≡◌}
use mathlib.Core.List.{List}
use Rattle.reader.specs.declared.Reader.{Reader}
use Rattle.reader.specs.State.{opened as fresh, Reached}
use Rattle.reader.specs.History.{EndCall, joined, Fed, none, more, refused}
use Rattle.reader.specs.Complete.{CompleteRecording}
use Rattle.reader.proofs.Laws.{at_state, reached_by}
use Rattle.reader.proofs.Total.{reached_opened}
use Rattle.reader.proofs.Folding.{holding, opened_fed}
use Rattle.reader.proofs.Complete.{strict_end_is_complete}
use Rattle.numbers.specs.declared.Answer.{Answer}
use Rattle.klovdrun.specs.declared.Opened.{Opened}
use Rattle.klovdrun.specs.Wrapped.{step_to, OpenCarries, Advances}
use Rattle.klovdrun.specs.Hosted.{Given, nothing, taken, not_taken, no_end}
use Rattle.klovdrun.proofs.Theorems.{open_tells, piece_tells, end_tells}
use Rattle.klovdrun.proofs.Hosted.{told_answer, piece_refused, end_refused}
use Rattle.klovdrun.proofs.Counted.{opened_none}

-- what a host gave is what a reader by value is given
pub given_fed : {reader last : Reader} {pieces : List (List ℕ)} {n : ℕ} {packets entries : List ℕ} → Given reader pieces n packets entries last
    → Reached reader → Fed reader pieces n packets entries last
given_fed nothing known = none
given_fed (taken {stored = stored} out out' counts counts' r c zero after) known =
    let step = (at_state known c.carries.comes).steps in
    more out out' counts counts' (step_to stored c.carries.answer) c.carries.comes (told_answer (piece_tells known c) step zero)
    (given_fed after (reached_by step))
given_fed (not_taken piece out out' counts counts' r c some after) known =
    refused (piece_refused known c some).0 (given_fed after (reached_by (at_state known c.carries.comes).steps))
given_fed (no_end choice out out' counts counts' r c some after) known =
    refused (end_refused known c some).0 (given_fed after (reached_by (at_state known c.carries.comes).steps))

-- A host that has opened a reader, given it pieces, and asked whatever was refused in between: if `klov_end` with 0, the strict end, then answers with
-- refusal 0, all that was taken and came out is a complete recording, every read of it.
pub told_complete : (kind : ℕ) {opened : Opened} → OpenCarries kind opened → opened.answer.refusal ≡ 0 → {pieces : List (List ℕ)} {n : ℕ}
    {packets entries : List ℕ} {last : Reader} → Given opened.reader pieces n packets entries last
    → {out out' counts counts' : List ℕ} {stored : Reader} {r : Answer} → Advances (EndCall last 0 out out' counts counts') stored r → r.refusal ≡ 0
    → CompleteRecording kind (joined pieces) n packets entries
told_complete kind carries begun {pieces = pieces} given {stored = stored} c ended =
    let opens = carries.comes in
    let kind_is = (opened_none kind _ ((open_tells kind carries).zero begun).1).0 in
    let fed = given_fed given (reached_opened kind opens) in
    let v = opened_fed kind _ opens kind_is fed in
    let known : Reached _ = record { state = holding (fresh kind) (joined pieces); is = v.reader_is; sound = v.sound } in
    strict_end_is_complete kind _ opens kind_is fed {step = step_to stored c.carries.answer} c.carries.comes
    (told_answer (end_tells known c) (at_state known c.carries.comes).steps ended)
