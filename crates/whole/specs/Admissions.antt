-- What every whole call does first: magic, limit, audio start, and for a reading of one kind the type. Refusals 1, 2, 3 and 11 with
-- the numbers beside them, or the recording. Assumes nothing.
use Rattle.std.specs.Prelude.{ℕ, ◌*◌, ◌≤◌, ◌≡◌, List, Bool, true, false, get_or, length, leb}
use Rattle.blocks.specs.Places.{limit, whole_blocks, Whole, stream_at}
use Rattle.refusals.specs.Said.{Said, answers, refuses, demand, onward}
use Rattle.magic.specs.declared.Magic.{Magic}
use Rattle.magic.specs.declared.Magic.TheVariants.{Dss, Ds2, Grundig, Other}
use Rattle.whole.specs.declared.Recording.{Recording}
use Rattle.blocks.specs.Headers.{announced_in}
use Rattle.detect.specs.Start.{audio_start}
use Rattle.detect.specs.Kinds.{format_type, read_as}
use Rattle.detect.specs.declared.Kind.{Kind}
use Rattle.magic.specs.Magics.{magic_of}

-- the recording whose audio starts at a
abbrev pub recording_at : List ℕ → ℕ → Recording
recording_at f a = record { start = record { 0 = a }; blocks = whole_blocks (length f) a }

-- the limit, and the header whole
unfoldable pub admission_at : List ℕ → ℕ → Said Recording
admission_at f a =
    demand (leb (length f) limit) 2 limit (demand (leb a (length f)) 3 a (answers (recording_at f a)))

-- the magic, for a call that takes DSS files, DS2 files or both. DSS's audio starts at 512 times the first byte
abbrev pub admission_by : Magic → List ℕ → Bool → Bool → Said Recording
admission_by Dss f dss ds2 = demand dss 1 0 (admission_at f (512 * get_or f 0 0))
admission_by Ds2 f dss ds2 = demand ds2 1 0 (admission_at f (audio_start f))
admission_by Grundig f dss ds2 = refuses 1 0
admission_by Other f dss ds2 = refuses 1 0

-- of any file: refusals 1, 2 and 3 in that order, or the recording
unfoldable pub admission : List ℕ → Bool → Bool → Said Recording
admission f dss ds2 = admission_by (magic_of f) f dss ds2

-- what a whole reading asks of a recording then: the type of a DS2 recording, and how many frames it announces
abbrev pub type_in : List ℕ → Recording → ℕ
type_in f rec = format_type f rec.start.0

abbrev pub announced_by : List ℕ → Recording → ℕ
announced_by f rec = announced_in f rec.start.0 rec.blocks

-- a reading of one kind of DS2 file asks the type after that: refusal 11 with the type
abbrev pub of_kind : List ℕ → Kind → Recording → Said Recording
of_kind f kind rec = demand (read_as (type_in f rec) kind) 11 (type_in f rec) (answers rec)

unfoldable pub ds2_admission : List ℕ → Kind → Said Recording
ds2_admission f kind = onward (admission f false true) (of_kind f kind)

-- what holds of a recording that was taken
pub record Sound (f : List ℕ) (rec : Recording) : Type 0 where
  pub whole : Whole f rec.start.0 rec.blocks
  pub all : rec.blocks ≡ whole_blocks (length f) rec.start.0
  pub within : length f ≤ limit

-- its payload stream
abbrev pub stream_in : List ℕ → Recording → ℕ → ℕ
stream_in f rec = stream_at f rec.start.0 rec.blocks
