-- What a tally is held to: the whole readings' own definitions, of any file.
-- Assumes nothing.
use Rattle.std.specs.Prelude.{ℕ, ◌<◌, ◌≡◌, List, true, not, cond, length}
use Rattle.tables.specs.Counting.{how_many}
use Rattle.tables.specs.Leading.{leading}
use Rattle.blocks.specs.Places.{whole_blocks, stream_at}
use Rattle.refusals.specs.Said.{Said, answers, onward}
use Rattle.magic.specs.Magics.{names_dss}
use Rattle.detect.specs.Start.{audio_start}
use Rattle.detect.specs.Kinds.{format_type, kind_of}
use Rattle.whole.specs.declared.Recording.{Recording}
use Rattle.whole.specs.Admissions.{admission}
use Rattle.sp.specs.declared.Run.{Run}
use Rattle.sp.specs.Readings.{total, walk_at, CompleteAt, reading_of, dss_reading, ds2_reading}
use Rattle.sp.specs.Whole.{whole_at}
use Rattle.qp.specs.Segments.{qp_reading}
use Rattle.qp7.specs.Walk.{qp7_reading}
use Rattle.tally.specs.declared.HandedOut.{HandedOut}
use Rattle.tally.specs.declared.FileKind.{FileKind}
use Rattle.tally.specs.declared.FileKind.TheVariants.{DssSp, Ds2Sp, Ds2Qp, Ds2Qp7}
use Rattle.tally.specs.declared.Figures.{Figures}
use Rattle.tally.specs.HandedOut.{packets_out, frames_out, records_out}
use Rattle.tally.specs.Tallies.{ds2_kind, tallied}

-- the kind of any file: `dss` chooses DSS, and otherwise the type decides how a DS2 file is read
abbrev pub kind_for : List ℕ → FileKind
kind_for f = cond (names_dss f) DssSp (ds2_kind (kind_of (format_type f (audio_start f))))

-- the payload stream of a DS2 file
abbrev pub ds2_stream : List ℕ → ℕ → ℕ
ds2_stream f = stream_at f (audio_start f) (whole_blocks (length f) (audio_start f))

-- what the whole reading of a kind hands out of any file, or why it refuses
abbrev pub whole_out : FileKind → List ℕ → Said HandedOut
whole_out DssSp f = onward (dss_reading f) (λ reading. answers (packets_out reading))
whole_out Ds2Sp f = onward (ds2_reading f) (λ reading. answers (packets_out reading))
whole_out Ds2Qp f = onward (qp_reading f) (λ r. answers (frames_out r.segments))
whole_out Ds2Qp7 f = onward (qp7_reading f) (λ g. answers (records_out (ds2_stream f) g.records))

-- what the tally says is handed out
abbrev pub tallied_out : List ℕ → Said HandedOut
tallied_out f = onward (tallied f) (λ (figures : Figures). answers figures.out)

-- so many are short of an SP recording that is read by these runs: the packets that are not whole; of which the first is one if it is swapped, and
-- which, where all reads are complete, are as many as are swapped before the first unswapped one
pub record ShortAre (f : List ℕ) (runs : List ℕ → ℕ → ℕ → List Run) (short : ℕ) : Type 0 where
  pub rec : Recording
  pub taken : admission f (names_dss f) (not (names_dss f)) ≡ answers rec
  pub short_is : short ≡ how_many (total (reading_of f rec runs)) (λ k. not (whole_at (reading_of f rec runs) k))
  pub begun_swapped : 0 < total (reading_of f rec runs) → (walk_at (reading_of f rec runs) 0).swap ≡ true → 0 < short
  pub all_complete : ((k : ℕ) → k < total (reading_of f rec runs) → CompleteAt (reading_of f rec runs) k)
      → short ≡ leading (λ k. (walk_at (reading_of f rec runs) k).swap) (total (reading_of f rec runs))
