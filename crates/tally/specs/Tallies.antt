-- The tally of any file: its kind, audio start, whole blocks, announced frames, and what its whole reading hands out; or the refusal
-- that the whole reading gives. Assumes nothing.
use Rattle.std.specs.Prelude.{ℕ, List, [], ◌∷◌, Bool, cond, not}
use Rattle.refusals.specs.Said.{Said, answers, onward}
use Rattle.magic.specs.Magics.{names_dss}
use Rattle.whole.specs.declared.Recording.{Recording}
use Rattle.detect.specs.declared.Kind.{Kind}
use Rattle.detect.specs.declared.Kind.TheVariants.{Sp, Qp, Qp7}
use Rattle.detect.specs.Kinds.{kind_of}
use Rattle.whole.specs.Admissions.{admission, type_in, announced_by, stream_in}
use Rattle.sp.specs.ReadLists.{dss_runs, ds2_runs}
use Rattle.sp.specs.Readings.{reading_of}
use Rattle.qp.specs.Segments.{segments_from}
use Rattle.qp7.specs.Walk.{gathered_from}
use Rattle.tally.specs.declared.HandedOut.{HandedOut}
use Rattle.tally.specs.declared.FileKind.{FileKind}
use Rattle.tally.specs.declared.FileKind.TheVariants.{DssSp, Ds2Sp, Ds2Qp, Ds2Qp7}
use Rattle.tally.specs.declared.Figures.{Figures}
use Rattle.tally.specs.HandedOut.{packets_out, frames_out, records_out}

-- of a recording of this kind that hands out so much
abbrev pub figures_of : FileKind → List ℕ → Recording → HandedOut → Figures
figures_of kind f rec out =
    record { kind = kind; start = rec.start; blocks = rec.blocks; announced = announced_by f rec; out = out }

-- what a recording hands out, read by its kind. Only QP7's reading can still refuse, by 4 or 5
abbrev pub handed_by : FileKind → List ℕ → Recording → Said HandedOut
handed_by DssSp f rec = answers (packets_out (reading_of f rec dss_runs))
handed_by Ds2Sp f rec = answers (packets_out (reading_of f rec ds2_runs))
handed_by Ds2Qp f rec = answers (frames_out (segments_from f rec))
handed_by Ds2Qp7 f rec = onward (gathered_from f rec) (λ g. answers (records_out (stream_in f rec) g.records))

abbrev pub counted_as : FileKind → List ℕ → Recording → Said Figures
counted_as kind f rec = onward (handed_by kind f rec) (λ out. answers (figures_of kind f rec out))

-- a DS2 recording is of the kind that its type is read as
abbrev pub ds2_kind : Kind → FileKind
ds2_kind Sp = Ds2Sp
ds2_kind Qp = Ds2Qp
ds2_kind Qp7 = Ds2Qp7

abbrev pub kind_in : Bool → List ℕ → Recording → FileKind
kind_in dss f rec = cond dss DssSp (ds2_kind (kind_of (type_in f rec)))

-- of any file: read as DSS or as DS2, which asks magic, limit and header as every whole reading does
abbrev pub tallied_as : Bool → List ℕ → Said Figures
tallied_as dss f = onward (admission f dss (not dss)) (λ rec. counted_as (kind_in dss f rec) f rec)

-- bytes 1 to 3 `dss` choose DSS, otherwise DS2
unfoldable pub tallied : List ℕ → Said Figures
tallied f = tallied_as (names_dss f) f

-- these are its refusals
abbrev pub tally_refusals : List ℕ
tally_refusals = 1 ∷ 2 ∷ 3 ∷ 4 ∷ 5 ∷ []
