-- The tally beside the whole readings: what was tallied is what was admitted, counted by the file's kind, and that hands out what the
-- reading of its kind does. Assumes nothing.
use Prim.Native.Nat.{ℕ}
use mathlib.Core.Path.{◌≡◌, refl, sym, ap, ◌∙◌}
use mathlib.Core.List.{List}
use mathlib.Core.Bool.{Bool, true, false, cond, not}
use Rattle.refusals.specs.declared.Numbers.{Numbers}
use Rattle.refusals.specs.Said.{Said, answers, refusal, onward}
use Rattle.refusals.proofs.Said.{by_said, went_on, for_the_answer}
use Rattle.magic.specs.Magics.{names_dss}
use Rattle.whole.specs.declared.Recording.{Recording}
use Rattle.detect.specs.declared.Kind.{Kind}
use Rattle.detect.specs.declared.Kind.TheVariants.{Sp, Qp, Qp7}
use Rattle.detect.specs.Start.{audio_start}
use Rattle.detect.specs.Kinds.{format_type, kind_of}
use Rattle.detect.proofs.Types.{itself}
use Rattle.whole.specs.Admissions.{recording_at, admission, type_in, announced_by, stream_in, ds2_admission}
use Rattle.whole.proofs.Admissions.{ds2_recording, ds2_refused, ds2_taken}
use Rattle.sp.specs.ReadLists.{dss_runs}
use Rattle.sp.specs.Readings.{read_by, dss_reading, ds2_reading}
use Rattle.qp.specs.Segments.{qp_reading}
use Rattle.qp7.specs.Walk.{gathered_from, qp7_reading}
use Rattle.tally.specs.declared.HandedOut.{HandedOut}
use Rattle.tally.specs.declared.FileKind.{FileKind}
use Rattle.tally.specs.declared.FileKind.TheVariants.{DssSp}
use Rattle.tally.specs.declared.Figures.{Figures}
use Rattle.tally.specs.HandedOut.{packets_out, records_out}
use Rattle.tally.specs.Tallies.{figures_of, handed_by, counted_as, ds2_kind, kind_in, tallied_as, tallied}
use Rattle.tally.specs.Agreement.{kind_for, whole_out, tallied_out}

-- what figures say is handed out
abbrev out_of : Said Figures → Said HandedOut
out_of said = onward said (λ (figures : Figures). answers figures.out)

-- counting changes nothing of that
counted_out : (kind : FileKind) (f : List ℕ) (rec : Recording) → out_of (counted_as kind f rec) ≡ handed_by kind f rec
counted_out kind f rec = same (handed_by kind f rec)
  where
    same : (said : Said HandedOut) → out_of (onward said (λ out. answers (figures_of kind f rec out))) ≡ said
    same (answers out) = refl
    same (refusal why) = refl

-- a file that is taken as DSS
dss_agrees : (f : List ℕ) → out_of (tallied_as true f) ≡ whole_out DssSp f
unfolding dss_reading
dss_agrees f = same (admission f true false)
  where
    same : (said : Said Recording)
        → out_of (onward said (λ rec. counted_as DssSp f rec)) ≡ onward (read_by f said dss_runs) (λ reading. answers (packets_out reading))
    same (answers rec) = refl
    same (refusal why) = refl

-- a DS2 recording passes the test for the kind that its type is read as
of_its_kind : (f : List ℕ) (rec : Recording) → admission f false true ≡ answers rec → ds2_admission f (kind_of (type_in f rec)) ≡ answers rec
of_its_kind f rec e = ds2_taken f (kind_of (type_in f rec)) rec e (type_in f rec) refl (itself (kind_of (type_in f rec)))

-- a file that is taken as DS2, read as this kind
module _ (f : List ℕ) where
  taken_agrees : (kind : Kind) (rec : Recording) → recording_at f (audio_start f) ≡ rec → ds2_admission f kind ≡ answers rec
      → handed_by (ds2_kind kind) f rec ≡ whole_out (ds2_kind kind) f
  unfolding ds2_reading qp_reading qp7_reading
  taken_agrees Sp rec at e = rw e
  taken_agrees Qp rec at e = rw e
  taken_agrees Qp7 rec at e =
      rw e
      (ap (λ (r : Recording). onward (gathered_from f rec) (λ g. answers (records_out (stream_in f r) g.records))) (sym at))

  refused_agrees : (kind : Kind) {why : Numbers} → refusal why ≡ ds2_admission f kind → refusal why ≡ whole_out (ds2_kind kind) f
  unfolding ds2_reading qp_reading qp7_reading
  refused_agrees Sp e = rw (← e)
  refused_agrees Qp e = rw (← e)
  refused_agrees Qp7 e = rw (← e)

  -- the kind by the type that is read from the audio start
  abbrev kind_there : Kind
  kind_there = kind_of (format_type f (audio_start f))

  kind_there_lem : (rec : Recording) → admission f false true ≡ answers rec → kind_of (type_in f rec) ≡ kind_there
  kind_there_lem rec e = ap (λ (r : Recording). kind_of (type_in f r)) (sym (ds2_recording f rec e))

  ds2_agrees : out_of (tallied_as false f) ≡ whole_out (ds2_kind kind_there) f
  ds2_agrees =
      by_said (admission f false true)
      (λ rec e.
      rw e
      (counted_out (kind_in false f rec) f rec
      ∙ rw (kind_there_lem rec e) (taken_agrees kind_there rec (ds2_recording f rec e) (rw (← kind_there_lem rec e) (of_its_kind f rec e)))))
      (λ why e. rw e (refused_agrees kind_there (ds2_refused f kind_there (sym e))))

-- by what bytes 1 to 3 choose
agrees_as : (f : List ℕ) (dss : Bool) → out_of (tallied_as dss f) ≡ whole_out (cond dss DssSp (ds2_kind (kind_there f))) f
agrees_as f true = dss_agrees f
agrees_as f false = ds2_agrees f

pub agrees : (f : List ℕ) → tallied_out f ≡ whole_out (kind_for f) f
unfolding tallied
agrees f = agrees_as f (names_dss f)

-- the kind of a recording that was admitted is the file's
kind_as : (f : List ℕ) (dss : Bool) (rec : Recording) → admission f dss (not dss) ≡ answers rec
    → kind_in dss f rec ≡ cond dss DssSp (ds2_kind (kind_there f))
kind_as f true rec e = refl
kind_as f false rec e = ap ds2_kind (kind_there_lem f rec e)

-- what was tallied: a recording that was admitted, counted by the file's kind
pub record Counting (f : List ℕ) (figures : Figures) : Type 0 where
  pub rec : Recording
  pub taken : admission f (names_dss f) (not (names_dss f)) ≡ answers rec
  pub kind_is : figures.kind ≡ kind_for f
  pub start_is : figures.start ≡ rec.start
  pub blocks_are : figures.blocks ≡ rec.blocks
  pub announced_are : figures.announced ≡ announced_by f rec
  pub handed : handed_by figures.kind f rec ≡ answers figures.out

pub counting : (f : List ℕ) (figures : Figures) → tallied f ≡ answers figures → Counting f figures
unfolding tallied
counting f figures e =
    let w = went_on (admission f (names_dss f) (not (names_dss f))) (λ rec. counted_as (kind_in (names_dss f) f rec) f rec) e in
    let rec = w.0 in
    let kind = kind_in (names_dss f) f rec in
    let h = went_on (handed_by kind f rec) (λ out. answers (figures_of kind f rec out)) w.2 in
    for_the_answer (Counting f) h.2
    (record {
      rec = rec;
      taken = w.1;
      kind_is = kind_as f (names_dss f) rec w.1;
      start_is = refl;
      blocks_are = refl;
      announced_are = refl;
      handed = h.1;
    })
