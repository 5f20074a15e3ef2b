-- What an export promises that wraps a call and lends it memory: the wrapped call's own outcome, of which the export hands over the
-- numbers; and when numbers tell what was said. Assumes nothing.
use Rattle.std.specs.Prelude.{ℕ, ◌<◌, ◌≡◌, List, true, Result}
use Rattle.refusals.specs.declared.Numbers.{Numbers}
use Rattle.refusals.specs.Numbers.{lacking, OnlyRecordsLack}
use Rattle.refusals.specs.Said.{Said, answers, refusal, is_among, result_says}
use Rattle.sp.specs.Readings.{Reading}
use Rattle.sp.specs.Outcome.{Demuxes}
use Rattle.qp.specs.Segments.{Reading as QpReading}
use Rattle.qp.specs.Outcome.{Demuxes as QpDemuxes}
use Rattle.qp7.specs.Walk.{Gathered}
use Rattle.qp7.specs.Outcome.{Demuxes as Qp7Demuxes}
use Rattle.frames.specs.Fetch.{Fills, fetched_says}
use Rattle.writing.specs.Outcome.{Writes}
use Rattle.entries.specs.Entries.{Contents}
use Rattle.index.specs.Outcome.{Builds}
use Rattle.reader.specs.declared.Reader.{Reader}
use Rattle.reader.specs.declared.Step.{Step}
use Rattle.reader.specs.Calls.{Opens}
use Rattle.reader.specs.History.{OwedCall}
use Rattle.numbers.specs.declared.Answer.{Answer}
use Rattle.numbers.specs.declared.Tallied.{Tallied}
use Rattle.numbers.specs.declared.Entry.{Entry}
use Rattle.klovdrun.specs.declared.Opened.{Opened}
use Rattle.numbers.specs.Numbers.{one_number, qp_numbers, qp7_numbers, stand_numbers, owing_numbers, built_numbers}
use Rattle.refusals.specs.declared.Refusal.{Refusal}

-- the wrapped call has this outcome with some answer, and r is that answer's numbers
pub record Carries {A : Type 0} (outcome : A → Type 0) (numbers_of : A → Answer) (r : Answer) : Type 0 where
  pub answer : A
  pub comes : outcome answer
  pub numbers_are : r ≡ numbers_of answer

-- SP readings, whole or of one packet, the whole readings of QP and QP7, and a frame that is filled
abbrev pub SpCarries : Said Reading → List ℕ → List ℕ → List ℕ → List ℕ → Answer → Type 0
SpCarries reading out out' counts counts' r =
    Carries (Demuxes reading out out' counts counts') (λ answer. one_number (result_says answer)) r

abbrev pub QpCarries : Said QpReading → List ℕ → List ℕ → Answer → Type 0
QpCarries reading table table' r = Carries (QpDemuxes reading table table') (λ answer. qp_numbers (result_says answer)) r

abbrev pub Qp7Carries : Said Gathered → List ℕ → List ℕ → List ℕ → List ℕ → Answer → Type 0
Qp7Carries reading records records' segments segments' r =
    Carries (Qp7Demuxes reading records records' segments segments') (λ answer. qp7_numbers (result_says answer)) r

abbrev pub FillCarries : List ℕ → ℕ → ℕ → List ℕ → List ℕ → Answer → Type 0
FillCarries f q size scratch scratch' r =
    Carries (Fills f q size scratch scratch') (λ answer. stand_numbers (fetched_says answer)) r

-- a file that is written
abbrev pub WriteCarries : List ℕ → List ℕ → List ℕ → List ℕ → Answer → Type 0
WriteCarries header packets out out' r =
    Carries (Writes header packets out out') (λ answer. one_number (result_says answer)) r

-- an index that is built
abbrev pub BuildCarries : Said Contents → List ℕ → List ℕ → Answer → Type 0
BuildCarries contents out out' r = Carries (Builds contents out out') (λ answer. built_numbers (result_says answer)) r

-- a reader's call that answered so and handed this reader back
abbrev pub step_to : Reader → Result ℕ Refusal → Step
step_to reader answer = record { answer = answer; reader = reader }

-- open: the reader stands beside the answer
abbrev pub OpenCarries : ℕ → Opened → Type 0
OpenCarries kind r =
    Carries (λ answer. Opens kind (step_to r.reader answer)) (λ answer. one_number (result_says answer)) r.answer

-- a reader is advanced where it stands: what the call hands back is stored there, and r has the frames that it then owes
pub record Advances (call : Step → Type 0) (stored : Reader) (r : Answer) : Type 0 where
  pub carries : Carries (λ answer. call (step_to stored answer)) (λ answer. owing_numbers r.second (result_says answer)) r
  pub owed_is : OwedCall stored r.second

-- the refusal that r tells
abbrev pub told_by : Answer → Numbers
told_by r = lacking r.refusal r.beside r.size r.absent

-- r tells what was said. With refusal 0 the call answered, and first and second are of its answer; with another it refused by that number,
-- which is in the call's list, with that number beside it, that size and so many bytes absent, first is 0, and second is this other number.
-- Unless a record is refused, in answers too, size and absent are 0
pub record Tells {A : Type 0} (numbers : List ℕ) (first second : A → ℕ) (other : ℕ) (said : Said A) (r : Answer) : Type 0 where
  pub zero : r.refusal ≡ 0 → (a : A) × (said ≡ answers a) × (r.beside ≡ 0) × (r.first ≡ first a) × (r.second ≡ second a)
  pub above : 0 < r.refusal
      → (why : Numbers) × (said ≡ refusal why) × (r.refusal ≡ why.number) × (r.beside ≡ why.beside) × (r.first ≡ 0) × (r.second ≡ other)
      × (r.size ≡ why.size) × (r.absent ≡ why.absent)
  pub listed : 0 < r.refusal → is_among numbers r.refusal ≡ true
  pub only_records_lack : OnlyRecordsLack (told_by r)

-- what an entry tells as an answer does: its refusal, its first packet and its place, size and absent
abbrev pub of_entry : Entry → Answer
of_entry r = record { refusal = r.refusal; beside = r.beside; first = r.first; second = r.place; size = r.size; absent = r.absent }

-- what a tally tells as an answer does: its refusal, how many frames are announced and handed out, size and absent
abbrev pub of_tally : Tallied → Answer
of_tally r =
    record { refusal = r.refusal; beside = r.beside; first = r.announced; second = r.handed; size = r.size; absent = r.absent }
