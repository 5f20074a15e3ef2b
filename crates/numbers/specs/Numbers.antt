-- The numbers that cross the boundary to C: what a call of the crates below says, as six numbers, seven or eleven. A refusal is its number, the
-- number beside it, size and absent; an answer has refusal 0, and what a call does not name is 0. Assumes nothing.
use Rattle.std.specs.Prelude.{ℕ, Bool, cond}
use Rattle.refusals.specs.declared.Numbers.{Numbers}
use Rattle.refusals.specs.Said.{Said, answers, refusal}
use Rattle.detect.specs.declared.AudioFormat.{AudioFormat}
use Rattle.detect.specs.declared.AudioFormat.TheVariants.{None, DssSp, Ds2Sp, Ds2Qp, Ds2Qp7, GrundigSp}
use Rattle.frames.specs.declared.Found.{Found}
use Rattle.frames.specs.Fetch.{Stand, in_file, in_scratch}
use Rattle.qp.specs.declared.Totals.{Totals as QpTotals}
use Rattle.qp7.specs.declared.Totals.{Totals as Qp7Totals}
use Rattle.entries.specs.declared.Entry.{Entry}
use Rattle.entries.specs.declared.Totals.{Totals}
use Rattle.index.specs.declared.Size.{Size}
use Rattle.tally.specs.declared.FileKind.{FileKind}
use Rattle.tally.specs.declared.FileKind.TheVariants as kinds
use Rattle.tally.specs.declared.Figures.{Figures}
use Rattle.numbers.specs.declared.Answer.{Answer}
use Rattle.numbers.specs.declared.Tallied.{Tallied}
use Rattle.numbers.specs.declared.Entry.{Entry as Shown}

-- a format's number; none is 0
abbrev pub format_number : AudioFormat → ℕ
format_number None = 0
format_number DssSp = 1
format_number Ds2Sp = 2
format_number Ds2Qp = 3
format_number Ds2Qp7 = 4
format_number GrundigSp = 5

-- yes is 1
abbrev pub truth_number : Bool → ℕ
truth_number truth = cond truth 1 0

-- an answer by its two numbers, and a refusal with a second number
abbrev pub answering : ℕ → ℕ → Answer
answering first second = record { refusal = 0; beside = 0; first = first; second = second; size = 0; absent = 0 }

abbrev pub refusing : Numbers → ℕ → Answer
refusing why second =
    record { refusal = why.number; beside = why.beside; first = 0; second = second; size = why.size; absent = why.absent }

-- what a call says, by the two numbers of an answer and the second number of a refusal
abbrev pub numbers_or : {A : Type 0} → (A → ℕ) → (A → ℕ) → ℕ → Said A → Answer
numbers_or first second other (answers a) = answering (first a) (second a)
numbers_or first second other (refusal why) = refusing why other

-- of most calls that is 0
abbrev pub numbers : {A : Type 0} → (A → ℕ) → (A → ℕ) → Said A → Answer
numbers first second said = numbers_or first second 0 said

-- one number: packets, a place, or bytes
abbrev pub one_number : Said ℕ → Answer
one_number said = numbers (λ n. n) (λ n. 0) said

-- segments, and frames announced
abbrev pub qp_numbers : Said QpTotals → Answer
qp_numbers said = numbers (λ totals. totals.segments) (λ totals. totals.announced) said

-- records, and segments
abbrev pub qp7_numbers : Said Qp7Totals → Answer
qp7_numbers said = numbers (λ totals. totals.records) (λ totals. totals.segments) said

-- a frame's place in the payload stream, and its size
abbrev pub found_numbers : Found → Answer
found_numbers found = answering found.place.0 found.size

-- 0 and a file place, or 1 for the scratch's start
abbrev pub where_number : Stand → ℕ
where_number (in_file place) = 0
where_number in_scratch = 1

abbrev pub place_number : Stand → ℕ
place_number (in_file place) = place
place_number in_scratch = 0

abbrev pub stand_numbers : Said Stand → Answer
stand_numbers said = numbers where_number place_number said

-- packets, and in every answer, refused ones too, how many frames are owed afterwards
abbrev pub owing_numbers : ℕ → Said ℕ → Answer
owing_numbers owed said = numbers_or (λ n. n) (λ n. owed) owed said

-- bytes of an index, and entries; entries of one that was read, and packets in all
abbrev pub built_numbers : Said Size → Answer
built_numbers said = numbers (λ size. size.bytes) (λ size. size.entries) said

abbrev pub read_numbers : Said Totals → Answer
read_numbers said = numbers (λ totals. totals.entries) (λ totals. totals.packets) said

-- an entry's seven numbers
abbrev pub entry_numbers : Said Entry → Shown
entry_numbers (answers entry) =
    record {
      refusal = 0;
      beside = 0;
      number = entry.number;
      first = entry.first;
      place = entry.place.0;
      size = 0;
      absent = 0;
    }
entry_numbers (refusal why) =
    record {
      refusal = why.number;
      beside = why.beside;
      number = 0;
      first = 0;
      place = 0;
      size = why.size;
      absent = why.absent;
    }

-- a tally's eleven numbers
abbrev pub kind_number : FileKind → ℕ
kind_number kinds.DssSp = 0
kind_number kinds.Ds2Sp = 1
kind_number kinds.Ds2Qp = 2
kind_number kinds.Ds2Qp7 = 3

abbrev pub tally_numbers : Said Figures → Tallied
tally_numbers (answers figures) =
    record {
      refusal = 0;
      beside = 0;
      kind = kind_number figures.kind;
      start = figures.start.0;
      blocks = figures.blocks;
      announced = figures.announced;
      handed = figures.out.many;
      short_count = figures.out.short;
      bytes = figures.out.bytes;
      size = 0;
      absent = 0;
    }
tally_numbers (refusal why) =
    record {
      refusal = why.number;
      beside = why.beside;
      kind = 0;
      start = 0;
      blocks = 0;
      announced = 0;
      handed = 0;
      short_count = 0;
      bytes = 0;
      size = why.size;
      absent = why.absent;
    }
