-- What holds of `tally` for every file, beyond the contract or drawn from it. Each statement stands under a sentence that says it; the
-- laws that carry them are in the files beside this one. Assumes nothing.
use Prim.Native.Nat.{ℕ, ◌+◌}
use mathlib.Core.Path.{◌≡◌, refl, sym, ap, ◌∙◌}
use mathlib.Core.List.{List}
use mathlib.Core.Bool.{not}
use mathlib.Core.Logic.{◌⊎◌, ⊎_elim}
use native.Mathlib.Omega.{arith}
use Rattle.tables.specs.Settled.{SettledResult}
use Rattle.tables.proofs.Cases.{by_order, never}
use Rattle.tables.proofs.Counting.{none_counted}
use Rattle.blocks.specs.Headers.{Bytes}
use Rattle.refusals.specs.declared.Numbers.{Numbers}
use Rattle.refusals.specs.Numbers.{OfRecord}
use Rattle.refusals.specs.Said.{answers, refusal, refuses, is_among, Numbered}
use Rattle.refusals.proofs.Said.{not_both, by_onward, went_on, for_the_answer}
use Rattle.refusals.proofs.Numbered.{not_of_record}
use Rattle.magic.specs.declared.Magic.TheVariants.{Other}
use Rattle.magic.specs.Magics.{names_dss, magic_of}
use Rattle.whole.specs.declared.Recording.{Recording}
use Rattle.whole.specs.Admissions.{admission, announced_by, stream_in}
use Rattle.whole.proofs.Admissions.{no_magic}
use Rattle.whole.proofs.Refusing.{admitting}
use Rattle.sp.specs.declared.Run.{Run}
use Rattle.sp.specs.ReadLists.{dss_runs, ds2_runs}
use Rattle.sp.specs.Readings.{total, reading_of}
use Rattle.sp.specs.Whole.{whole_at}
use Rattle.sp.proofs.ReadLists.{ds2_packets, dss_packets}
use Rattle.sp.proofs.Whole.{begun_swapped, short_leading}
use Rattle.qp.specs.Segments.{segments_from}
use Rattle.qp.specs.Handed.{short_of, missing_from}
use Rattle.qp.proofs.Kept.{totals_add_up, handed_or_missing}
use Rattle.qp7.specs.Walk.{gathered_from}
use Rattle.qp7.specs.Lacking.{Lacks}
use Rattle.qp7.proofs.Keeping.{records_many}
use Rattle.qp7.proofs.Stopping.{gathered_lacks}
use Rattle.tally.specs.declared.HandedOut.{HandedOut}
use Rattle.tally.specs.declared.FileKind.{FileKind}
use Rattle.tally.specs.declared.FileKind.TheVariants.{DssSp, Ds2Sp, Ds2Qp, Ds2Qp7}
use Rattle.tally.specs.declared.Figures.{Figures}
use Rattle.tally.specs.HandedOut.{packets_out, records_out}
use Rattle.tally.specs.Tallies.{handed_by, counted_as, kind_in, tallied, tally_refusals}
use Rattle.tally.specs.Agreement.{kind_for, whole_out, tallied_out, ShortAre}
use Rattle.tally.proofs.Agreeing.{agrees, counting}
use Rattle.tally.proofs.Refusing.{tallying}
use Rattle.tally.proofs.tally.Kinds as tally
use Rattle.tally.proofs.tally.Reads as tally-reads
use Rattle.refusals.proofs.Results.{only_result}

-- The tally says of every file what the whole reading of its kind hands out, and refuses exactly as that reading does.
pub tally_is_the_reading : (f : List ℕ) → tallied_out f ≡ whole_out (kind_for f) f
tally_is_the_reading f = agrees f

-- A file without a magic is refused by 1.
pub no_magic_no_tally : (f : List ℕ) → magic_of f ≡ Other → tallied f ≡ refuses 1 0
unfolding tallied
no_magic_no_tally f none = rw (no_magic f (names_dss f) (not (names_dss f)) none)

module _ (f : List ℕ) (figures : Figures) (says : tallied f ≡ answers figures) where
  -- The kind is the file's, and the other numbers are those of the recording that is admitted: where its audio starts, its whole blocks,
  -- and how many frames they announce.
  pub what_is_tallied : (figures.kind ≡ kind_for f)
      × ((rec : Recording) × (admission f (names_dss f) (not (names_dss f)) ≡ answers rec) × (figures.start ≡ rec.start)
      × (figures.blocks ≡ rec.blocks) × (figures.announced ≡ announced_by f rec))
  what_is_tallied =
      let c = counting f figures says in
      (c.kind_is, (c.rec, c.taken, c.start_is, c.blocks_are, c.announced_are))

  -- what its recording hands out, read by this kind
  handed_by_lem : (kind : FileKind) → figures.kind ≡ kind → handed_by kind f (counting f figures says).rec ≡ answers figures.out
  handed_by_lem kind is = let c = counting f figures says in ap (λ (k : FileKind). handed_by k f c.rec) (sym is) ∙ c.handed

  -- An SP recording hands out all packets that it announces.
  pub all_packets : (figures.kind ≡ DssSp) ⊎ (figures.kind ≡ Ds2Sp) → figures.out.many ≡ figures.announced
  all_packets =
      let c = counting f figures says in
      ⊎_elim
      (λ dss. for_the_answer AsAnnounced (handed_by_lem DssSp dss) (dss_packets f c.rec.start.0 c.rec.blocks ∙ sym c.announced_are))
      (λ ds2. for_the_answer AsAnnounced (handed_by_lem Ds2Sp ds2) (ds2_packets f c.rec.start.0 c.rec.blocks ∙ sym c.announced_are))
    where
      AsAnnounced : HandedOut → Type 0
      AsAnnounced out = out.many ≡ figures.announced

  -- Short among them are those that are not whole, and at least the first of a recording that begins swapped.
  pub short_packets : (figures.kind ≡ DssSp → ShortAre f dss_runs figures.out.short)
      × (figures.kind ≡ Ds2Sp → ShortAre f ds2_runs figures.out.short)
  short_packets = (
    (λ dss. short_are dss_runs (for_the_answer (λ (out : HandedOut). out ≡ of dss_runs) (handed_by_lem DssSp dss) refl)),
    (λ ds2. short_are ds2_runs (for_the_answer (λ (out : HandedOut). out ≡ of ds2_runs) (handed_by_lem Ds2Sp ds2) refl)),
  )
    where
      of : (List ℕ → ℕ → ℕ → List Run) → HandedOut
      of runs = packets_out (reading_of f (counting f figures says).rec runs)

      short_are : (runs : List ℕ → ℕ → ℕ → List Run) → figures.out ≡ of runs → ShortAre f runs figures.out.short
      short_are runs hands =
          let c = counting f figures says in
          let r = reading_of f c.rec runs in
          let short = ap (λ (out : HandedOut). out.short) hands in
          record {
            rec = c.rec;
            taken = c.taken;
            short_is = short;
            begun_swapped = λ some swapped.
                by_order 0 figures.out.short (λ h. h)
                (λ none.
                absurd
                (never (ap not (begun_swapped r swapped)) (none_counted (total r) (λ k. not (whole_at r k)) (omega (arith, short)) 0 some)));
            all_complete = λ complete. short ∙ short_leading r complete;
          }

  -- A QP recording hands out all frames that it announces, but for those that are missing from its segments, and short ones are those of its
  -- segments.
  pub frames_and_missing : figures.kind ≡ Ds2Qp
      → (rec : Recording) × (admission f (names_dss f) (not (names_dss f)) ≡ answers rec)
      × (figures.out.many + missing_from (segments_from f rec) ≡ figures.announced) × (figures.out.short ≡ short_of (segments_from f rec))
  frames_and_missing is =
      let c = counting f figures says in
      let rec = c.rec in (
        rec,
        c.taken,
        for_the_answer (λ (out : HandedOut). out.many + missing_from (segments_from f rec) ≡ figures.announced) (handed_by_lem Ds2Qp is)
            (handed_or_missing (segments_from f rec)
            ∙ totals_add_up f rec.start.0 rec.blocks
            ∙ sym c.announced_are),
        for_the_answer (λ (out : HandedOut). out.short ≡ short_of (segments_from f rec)) (handed_by_lem Ds2Qp is) refl,
      )

  -- A QP7 recording hands out all records that it announces.
  pub all_records : figures.kind ≡ Ds2Qp7 → figures.out.many ≡ figures.announced
  all_records is =
      let c = counting f figures says in
      let rec = c.rec in
      let w = went_on (gathered_from f rec) (λ g. answers (records_out (stream_in f rec) g.records)) (handed_by_lem Ds2Qp7 is) in
      for_the_answer (λ (out : HandedOut). out.many ≡ figures.announced) w.2
      (records_many f rec w.0 w.1 ∙ sym c.announced_are)

-- what is handed out is refused for a record only
handed_lacks : (kind : FileKind) (f : List ℕ) (rec : Recording) {why : Numbers} → Bytes f → handed_by kind f rec ≡ refusal why
    → Lacks f rec why
handed_lacks DssSp f rec bytes e = absurd (not_both (sym e))
handed_lacks Ds2Sp f rec bytes e = absurd (not_both (sym e))
handed_lacks Ds2Qp f rec bytes e = absurd (not_both (sym e))
handed_lacks Ds2Qp7 f rec bytes e =
    by_onward (gathered_from f rec) (λ g. answers (records_out (stream_in f rec) g.records)) e (λ stopped. gathered_lacks f rec bytes stopped)
    (λ g came r. absurd (not_both (sym r)))

-- A file that the tally refuses by 4 or 5 was admitted, and the refusal says how much is missing, as that of the whole reading does.
pub tally_lacks : (f : List ℕ) → Bytes f → (why : Numbers) → tallied f ≡ refusal why → OfRecord why.number
    → (rec : Recording) × (admission f (names_dss f) (not (names_dss f)) ≡ answers rec) × Lacks f rec why
unfolding tallied is_among
tally_lacks f bytes why e of-record =
    let dss = names_dss f in
    by_onward (admission f dss (not dss)) (λ rec. counted_as (kind_in dss f rec) f rec) e
    (λ turned. absurd (not_of_record (admitting f dss (not dss)) refl refl turned of-record))
    (λ rec taken rest. (
      rec,
      taken,
      by_onward (handed_by (kind_in dss f rec) f rec) _ rest (λ here. handed_lacks (kind_in dss f rec) f rec bytes here) (λ out came r. absurd (not_both (sym r))),
    ))

-- A refusal is by 1, 2, 3, 4 or 5; and by another than 4 and 5 it has no size, and nothing is absent.
pub refused_by : (f : List ℕ) → Numbered tally_refusals (tallied f)
refused_by f = tallying f

-- Two outcomes of `tally` that its contract allows for the same arguments are equal. The contract is the one in the source, as the check
-- reads it.
pub tally_settled : SettledResult 1 tally.ps tally.r tally-reads.Post
tally_settled κs a x y s t p q = only_result x y _ p q
