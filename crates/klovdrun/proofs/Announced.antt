-- One rule for "complete as announced": of a file that is read as a reader's kind, the strict end answers and it does not begin swapped exactly if
-- the tally's numbers say so; of an SP file that they say it of every packet is whole, and of a QP file no frame is missing or short.
-- Assumes nothing.
use Prim.Native.Nat.{ℕ, ◌+◌, ◌*◌, ◌≤◌, ◌<◌}
use mathlib.Core.Path.{◌≡◌, refl, sym, ap, ◌∙◌, subst}
use mathlib.Core.List.{List}
use mathlib.Core.Bool.{true, not, cond}
use mathlib.Core.Logic.{inl, inr}
use native.Mathlib.Omega.{arith}
use borrow.Author.Tests.{lt-ltb, not-false}
use lib.ListN.{length, get_or}
use Rattle.tables.proofs.Cases.{by_test, by_order}
use Rattle.blocks.specs.Places.{limit}
use Rattle.blocks.specs.Headers.{announced_in}
use Rattle.refusals.specs.Said.{Said, answers, onward}
use Rattle.refusals.proofs.Said.{not_both, went_on}
use Rattle.magic.specs.Magics.{names_dss}
use Rattle.magic.proofs.Names.{dss_named, ds2_not_named}
use Rattle.detect.specs.Start.{audio_start}
use Rattle.detect.specs.Kinds.{format_type, kind_of}
use Rattle.whole.specs.declared.Recording.{Recording}
use Rattle.whole.specs.Admissions.{admission}
use Rattle.whole.proofs.Admissions.{dss_recording, ds2_recording}
use Rattle.sp.specs.declared.Run.{Run}
use Rattle.sp.specs.ReadLists.{dss_runs, ds2_runs}
use Rattle.sp.specs.Readings.{Reading, total, reading_of}
use Rattle.sp.specs.Whole.{whole_at}
use Rattle.sp.proofs.Sourced.{whole_says}
use Rattle.sp.proofs.ReadLists.{packets_announced}
use Rattle.qp.specs.Segments.{segments_from}
use Rattle.qp.specs.Handed.{short_of, missing_from}
use Rattle.tables.specs.Counting.{how_many}
use Rattle.tables.proofs.Counting.{none_such, none_counted}
use Rattle.tally.specs.declared.HandedOut.{HandedOut}
use Rattle.tally.specs.declared.FileKind.{FileKind}
use Rattle.tally.specs.declared.FileKind.TheVariants.{DssSp, Ds2Sp, Ds2Qp}
use Rattle.tally.specs.declared.Figures.{Figures}
use Rattle.tally.specs.HandedOut.{packets_out}
use Rattle.tally.specs.Tallies.{tallied}
use Rattle.tally.specs.Agreement.{kind_for, whole_out, tallied_out, ShortAre}
use Rattle.tally.proofs.Theorems.{tally_is_the_reading, what_is_tallied, all_packets, short_packets, frames_and_missing}
use Rattle.reader.specs.declared.Reader.{Reader}
use Rattle.reader.specs.State.{is_dss, start_of, blocks_in, reading_by, opened as fresh, Reached}
use Rattle.reader.specs.History.{EndCall, joined}
use Rattle.reader.specs.Agreement.{whole_reading, Agrees}
use Rattle.reader.specs.Complete.{CompleteRecording, BeginsUnswapped}
use Rattle.reader.proofs.Agreeing.{agrees_is, dss_start_lem, ds2_start, not_scanned}
use Rattle.reader.proofs.Laws.{at_state}
use Rattle.reader.proofs.Total.{reached_opened}
use Rattle.reader.proofs.Folding.{holding, opened_fed}
use Rattle.reader.proofs.Complete.{all_whole, complete_is_ended}
use Rattle.numbers.specs.declared.Answer.{Answer}
use Rattle.numbers.specs.declared.Tallied.{Tallied}
use Rattle.numbers.specs.Numbers.{tally_numbers}
use Rattle.klovdrun.specs.declared.Opened.{Opened}
use Rattle.klovdrun.specs.Wrapped.{step_to, OpenCarries, Advances}
use Rattle.klovdrun.specs.Hosted.{Given}
use Rattle.klovdrun.specs.Announced.{AsAnnounced, AllWhole}
use Rattle.klovdrun.proofs.Theorems.{klov_tally_tells, open_tells, end_tells}
use Rattle.klovdrun.proofs.Counted.{opened_none}
use Rattle.klovdrun.proofs.Complete.{given_fed, told_complete}

-- a file that is read as a reader's kind, by its tally
module _ (kind : ℕ) (f : List ℕ) (small : length f ≤ limit) (agrees : Agrees kind f) where
  abbrev read : Reading
  read = reading_by kind f

  kind_is : kind_for f ≡ cond (is_dss kind) DssSp Ds2Sp
  unfolding kind_of
  kind_is =
      by_test (is_dss kind)
      (λ dss. rw (dss, dss_named f (agrees.dss dss).0))
      (λ ds2.
      let a = agrees.ds2 ds2 in
      rw (ds2, ds2_not_named f a.0, not_scanned f a.1, lt-ltb (format_type f 1536) 6 a.2))

  out_is : whole_out (cond (is_dss kind) DssSp Ds2Sp) f ≡ onward (whole_reading kind f) (λ (reading : Reading). answers (packets_out reading))
  out_is = by_test (is_dss kind) (λ e. rw e) (λ e. rw e)

  tallies : tallied_out f ≡ answers (packets_out read)
  tallies =
      tally_is_the_reading f ∙ ap (λ (k : FileKind). whole_out k f) kind_is ∙ out_is
      ∙ ap (λ (said : Said Reading). onward said (λ (reading : Reading). answers (packets_out reading))) (agrees_is kind f small agrees)

  -- what its tally says
  record Stands (figures : Figures) : Type 0 where
    hands : figures.out ≡ packets_out read
    start_is : figures.start.0 ≡ start_of kind
    blocks_are : figures.blocks ≡ blocks_in kind f
    as_announced : figures.out.many ≡ figures.announced

  stands : (figures : Figures) → tallied f ≡ answers figures → Stands figures
  stands figures says =
      let w = what_is_tallied f figures says in
      let rec = w.1.0 in
      let at = there rec w.1.1 in
      record {
        hands = cc (rw says at tallies);
        start_is = ap (λ (start : _). start.0) w.1.2 ∙ at.0;
        blocks_are = w.1.3 ∙ at.1;
        as_announced =
            all_packets f figures says
            (by_test (is_dss kind) (λ dss. inl (w.0 ∙ kind_is ∙ rw dss)) (λ ds2. inr (w.0 ∙ kind_is ∙ rw ds2)));
      }
    where
      there : (rec : Recording) → admission f (names_dss f) (not (names_dss f)) ≡ answers rec
          → (rec.start.0 ≡ start_of kind) × (rec.blocks ≡ blocks_in kind f)
      there rec taken =
          by_test (is_dss kind)
          (λ dss.
          let a = agrees.dss dss in
          let is = dss_recording f rec (rw (dss_named f a.0) at taken) in
          let start : 512 * get_or f 0 0 ≡ start_of kind = omega (arith, dss_start_lem kind dss, a.1) in
          (rw (← is) start, rw (← is, start)))
          (λ ds2.
          let a = agrees.ds2 ds2 in
          let is = ds2_recording f rec (rw (ds2_not_named f a.0) at taken) in
          let start : audio_start f ≡ start_of kind = not_scanned f a.1 ∙ sym (ds2_start kind ds2) in
          (rw (← is) start, rw (← is, start)))

-- the numbers of its tally
module _ (kind : ℕ) (f : List ℕ) (small : length f ≤ limit) (agrees : Agrees kind f) {told : Tallied} (is : told ≡ tally_numbers (tallied f)) where
  record Figured : Type 0 where
    figures : Figures
    is_theirs : told ≡ tally_numbers (answers figures)
    so : Stands kind f small agrees figures

  figured : Figured
  figured =
      let w = went_on (tallied f) (λ (figures : Figures). answers figures.out) (tallies kind f small agrees) in
      record { figures = w.0; is_theirs = is ∙ ap tally_numbers w.1; so = stands kind f small agrees w.0 w.1 }

  -- if every packet is whole, and no byte lies past the last whole block
  pub tallied_as : ((k : ℕ) → k < total (reading_by kind f) → whole_at (reading_by kind f) k ≡ true)
      → length f ≡ start_of kind + 512 * blocks_in kind f → AsAnnounced told (length f)
  tallied_as whole none_past =
      let v = figured in
      let r = reading_by kind f in
      subst (λ (numbers : Tallied). AsAnnounced numbers (length f)) (sym v.is_theirs)
      (record {
        answered = refl;
        all_handed = v.so.as_announced;
        none_short =
            ap (λ (out : HandedOut). out.short) v.so.hands
            ∙ none_such (total r) (λ k. not (whole_at r k)) (λ k h. ap not (whole k h));
        none_past = omega (arith, none_past, v.so.start_is, v.so.blocks_are);
      })

  complete_tallied : {n : ℕ} {packets entries : List ℕ} → CompleteRecording kind f n packets entries → BeginsUnswapped entries
      → AsAnnounced told (length f)
  complete_tallied c begins =
      tallied_as (λ k h. (all_whole c).0 begins k (omega (arith, (c.all_read agrees).1))) (omega (arith, c.none_cut, agrees.full))

  tallied_whole : AsAnnounced told (length f)
      → (length f ≡ start_of kind + 512 * blocks_in kind f)
      × ((k : ℕ) → k < announced_in f (start_of kind) (blocks_in kind f) → whole_at (reading_by kind f) k ≡ true)
  tallied_whole rule =
      let v = figured in
      let r = reading_by kind f in
      let numbers = subst (λ (numbers : Tallied). AsAnnounced numbers (length f)) v.is_theirs rule in
      let none : how_many (total r) (λ k. not (whole_at r k)) ≡ 0 = sym (ap (λ (out : HandedOut). out.short) v.so.hands) ∙ numbers.none_short in (
        omega (arith, numbers.none_past, v.so.start_is, v.so.blocks_are),
        (λ k h.
            not-false (whole_at r k)
            (none_counted (total r) (λ k. not (whole_at r k)) none k
            (omega (arith, packets_announced (is_dss kind) f (start_of kind) (blocks_in kind f))))),
      )

-- if none is short all are whole
none_short_whole : (f : List ℕ) {runs : List ℕ → ℕ → ℕ → List Run} {short : ℕ} → short ≡ 0 → ShortAre f runs short → AllWhole f runs
none_short_whole f {runs} none s =
    let r = reading_of f s.rec runs in (
      s.rec,
      s.taken,
      (λ k h. not-false (whole_at r k) (none_counted (total r) (λ k. not (whole_at r k)) (sym s.short_is ∙ none) k h)),
    )

-- A host that has opened a reader and given it a recording that is read as its kind, and the same host or another that has the whole recording: a
-- first strict end, `klov_end` with 0, answers with refusal 0, and the first count that came out is 42, or none did, exactly if the numbers of `klov_tally` say that
-- it is complete as announced.
pub one_rule : (kind : ℕ) {opened : Opened} → OpenCarries kind opened → opened.answer.refusal ≡ 0 → {pieces : List (List ℕ)} {n : ℕ}
    {packets entries : List ℕ} {last : Reader} → Given opened.reader pieces n packets entries last
    → {out out' counts counts' : List ℕ} {stored : Reader} {r : Answer} → Advances (EndCall last 0 out out' counts counts') stored r
    → Agrees kind (joined pieces) → {told : Tallied} → told ≡ tally_numbers (tallied (joined pieces))
    → (r.refusal ≡ 0 → BeginsUnswapped entries → AsAnnounced told (length (joined pieces)))
    × (AsAnnounced told (length (joined pieces)) → (r.refusal ≡ 0) × BeginsUnswapped entries)
one_rule kind carries begun {pieces = pieces} given {stored = stored} {r = r} c agrees is =
    let f = joined pieces in
    let opens = carries.comes in
    let kind_is = (opened_none kind _ ((open_tells kind carries).zero begun).1).0 in
    let fed = given_fed given (reached_opened kind opens) in
    let v = opened_fed kind _ opens kind_is fed in
    let known : Reached _ = record { state = holding (fresh kind) f; is = v.reader_is; sound = v.sound } in
    let tells = end_tells known c in (
      (λ ended begins. complete_tallied kind f v.sound.small agrees is (told_complete kind carries begun given c ended) begins),
      (λ rule.
          let so = tallied_whole kind f v.sound.small agrees is rule in
          let said =
          complete_is_ended kind _ opens kind_is fed agrees.full so.0 (λ k h. (whole_says (reading_by kind f) k (so.1 k h)).0)
          {step = step_to stored c.carries.answer} c.carries.comes in
          let ended : r.refusal ≡ 0 =
          by_order 0 r.refusal
          (λ some.
          let why = tells.above some in
          absurd (not_both (sym why.1 ∙ sym (at_state known c.carries.comes).steps.answer_is ∙ said)))
          (λ none. omega (arith, none)) in
          let complete = told_complete kind carries begun given c ended in
          (ended, (all_whole complete).1 (λ k h. so.1 k (omega (arith, complete.none_owed))))),
    )

-- Of an SP file that is complete as announced every packet is whole; so none begins swapped that has one.
pub packets_complete : (f : List ℕ) {told : Tallied} → told ≡ tally_numbers (tallied f) → AsAnnounced told (length f)
    → (kind_for f ≡ DssSp → AllWhole f dss_runs) × (kind_for f ≡ Ds2Sp → AllWhole f ds2_runs)
packets_complete f is rule =
    let t = (klov_tally_tells f is).zero rule.answered in
    let figures = t.0 in
    let kind = (what_is_tallied f figures t.1).0 in
    let numbers = subst (λ (numbers : Tallied). AsAnnounced numbers (length f)) (is ∙ ap tally_numbers t.1) rule in (
      (λ dss. none_short_whole f numbers.none_short ((short_packets f figures t.1).0 (kind ∙ dss))),
      (λ ds2. none_short_whole f numbers.none_short ((short_packets f figures t.1).1 (kind ∙ ds2))),
    )

-- Of a QP file that is complete as announced no frame is missing, and none is short.
pub frames_complete : (f : List ℕ) {told : Tallied} → told ≡ tally_numbers (tallied f) → AsAnnounced told (length f) → kind_for f ≡ Ds2Qp
    → (rec : Recording) × (admission f (names_dss f) (not (names_dss f)) ≡ answers rec) × (missing_from (segments_from f rec) ≡ 0)
    × (short_of (segments_from f rec) ≡ 0)
frames_complete f is rule kind =
    let t = (klov_tally_tells f is).zero rule.answered in
    let figures = t.0 in
    let w = frames_and_missing f figures t.1 ((what_is_tallied f figures t.1).0 ∙ kind) in
    let numbers = subst (λ (numbers : Tallied). AsAnnounced numbers (length f)) (is ∙ ap tally_numbers t.1) rule in
    (w.0, w.1, omega (arith, w.2, numbers.all_handed), sym w.3 ∙ numbers.none_short)
