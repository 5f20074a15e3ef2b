-- The theorems about the boundary: an answer's numbers tell whether the call answered or refused, and what, and a refused call has changed
-- nothing. Assumes nothing.
use Prim.Native.Nat.{ℕ, ◌/◌, ◌<◌}
use mathlib.Core.Path.{◌≡◌, refl, sym, ap, ◌∙◌, subst}
use mathlib.Core.List.{List}
use mathlib.Core.Bool.{true, false}
use native.Mathlib.Omega.{arith}
use lib.ListN.{length}
use Rattle.tables.proofs.Cases.{never}
use Rattle.refusals.specs.declared.Numbers.{Numbers}
use Rattle.refusals.specs.Numbers.{OfRecord}
use Rattle.refusals.specs.Said.{Said, answers, refusal, is_among, Numbered, result_says}
use Rattle.whole.specs.Payload.{payload_place}
use Rattle.sp.specs.Readings.{Reading, dss_reading, ds2_reading}
use Rattle.sp.specs.Outcome.{room_in, in_room, answered as packets}
use Rattle.sp.proofs.Theorems.{refused_changes_nothing}
use Rattle.at_once.specs.Straight.{packet_reading}
use Rattle.qp.specs.Segments.{qp_reading}
use Rattle.qp.specs.Outcome.{width as segmentWidth, in_table, answered as segments}
use Rattle.qp.proofs.Theorems.{refused_changes_nothing as qp-refused}
use Rattle.qp7.specs.Walk.{qp7_reading}
use Rattle.qp7.specs.Outcome.{width as entryWidth, in_tables, answered as records}
use Rattle.qp7.proofs.Theorems.{refused_changes_nothing as qp7-refused}
use Rattle.frames.specs.Fetch.{fetch_from, standing}
use Rattle.frames.proofs.Theorems.{refused_fill_changes_nothing}
use Rattle.writing.specs.Outcome.{written_size}
use Rattle.writing.proofs.Theorems.{refused_changes_nothing as write-refused}
use Rattle.entries.specs.declared.Entry.{Entry}
use Rattle.index.specs.Reading.{contents_of, index_read}
use Rattle.index.specs.Outcome.{in_room as inIndex, sized, totalled}
use Rattle.index.proofs.Theorems.{refused_changes_nothing as build-refused}
use Rattle.finding.specs.Finding.{entry_found}
use Rattle.finding.specs.Packet.{packet_found}
use Rattle.tally.specs.declared.Figures.{Figures}
use Rattle.tally.specs.Tallies.{tallied, tally_refusals}
use Rattle.tally.proofs.Theorems.{refused_by}
use Rattle.reader.specs.declared.Reader.{Reader}
use Rattle.reader.specs.State.{State, owed, Reached}
use Rattle.reader.specs.Calls.{open_said, piece_said, after_piece, end_said, after_end, handed_by, Steps}
use Rattle.reader.specs.History.{PieceCall, EndCall, OwedCall}
use Rattle.reader.proofs.Laws.{at_state}
use Rattle.reader.proofs.Total.{refused_piece_keeps, refused_end_keeps, strict_end_hands_nothing, ends_by_number}
use Rattle.numbers.specs.declared.Answer.{Answer}
use Rattle.klovdrun.specs.declared.Opened.{Opened}
use Rattle.numbers.specs.declared.Tallied.{Tallied}
use Rattle.numbers.specs.declared.Entry.{Entry as Shown}
use Rattle.numbers.specs.Numbers.{numbers_or, one_number, qp_numbers, qp7_numbers, where_number, place_number, stand_numbers, owing_numbers, tally_numbers, built_numbers, read_numbers, entry_numbers}
use Rattle.klovdrun.specs.Wrapped.{SpCarries, QpCarries, Qp7Carries, FillCarries, WriteCarries, BuildCarries, step_to, OpenCarries, Advances, Tells, of_entry, of_tally}
use Rattle.klovdrun.specs.Refusals.{payload_refusals, dss_refusals, ds2_refusals, packet_refusals, qp_refusals, qp7_refusals, fetch_refusals, open_refusals, piece_refusals, refusals_by, write_refusals, build_refusals, read_refusals, find_refusals, indexed_refusals}
use Rattle.klovdrun.proofs.Refusing.{payload_numbered, dss_numbered, ds2_numbered, packet_numbered, packets_numbered, segments_numbered, records_numbered, fetch_numbered, open_numbered, piece_numbered, none_by_0, end_numbered, write_numbered, build_numbered, read_numbered, find_numbered, indexed_numbered}
use Rattle.std.specs.Prelude.{Result}
use Rattle.refusals.specs.declared.Refusal.{Refusal}

tells : {A : Type 0} {numbers : List ℕ} (first second : A → ℕ) (other : ℕ) (said : Said A) → is_among numbers 0 ≡ false → Numbered numbers said
    → {r : Answer} → r ≡ numbers_or first second other said → Tells numbers first second other said r
tells first second other (answers a) above_zero is {r} e =
    let none : r.refusal ≡ 0 = ap (λ (x : Answer). x.refusal) e in
    record {
      zero = λ z. (a, refl, ap (λ (x : Answer). x.beside) e, ap (λ (x : Answer). x.first) e, ap (λ (x : Answer). x.second) e);
      above = λ some. absurd (omega (arith, none));
      listed = λ some. absurd (omega (arith, none));
      only_records_lack = λ other. (ap (λ (x : Answer). x.size) e, ap (λ (x : Answer). x.absent) e);
    }
tells {numbers = numbers} first second other (refusal why) above_zero is {r} e =
    let number : r.refusal ≡ why.number = ap (λ (x : Answer). x.refusal) e in
    let size : r.size ≡ why.size = ap (λ (x : Answer). x.size) e in
    let absent : r.absent ≡ why.absent = ap (λ (x : Answer). x.absent) e in
    let there = subst (λ (n : ℕ). is_among numbers n ≡ true) (sym number) (is.among why refl) in
    record {
      zero = λ z. absurd (never (subst (λ (n : ℕ). is_among numbers n ≡ true) z there) above_zero);
      above = λ some. (
        why,
        refl,
        number,
        ap (λ (x : Answer). x.beside) e,
        ap (λ (x : Answer). x.first) e,
        ap (λ (x : Answer). x.second) e,
        size,
        absent,
      );
      listed = λ some. there;
      only_records_lack = λ other.
          let none = is.only_records_lack why refl (λ of-record. other (subst OfRecord (sym number) of-record)) in
          (size ∙ none.0, absent ∙ none.1);
    }

-- a number above 0 is a refusal's
refused_of : {A : Type 0} (first second : A → ℕ) (other : ℕ) (said : Said A) {r : Answer} → r ≡ numbers_or first second other said
    → 0 < r.refusal → (why : Numbers) × (said ≡ refusal why)
refused_of first second other (answers a) {r} e some =
    let none : r.refusal ≡ 0 = ap (λ (x : Answer). x.refusal) e in
    absurd (omega (arith, none))
refused_of first second other (refusal why) e some = (why, refl)

-- `klov_payload`, `klov_show`
pub klov_payload_tells : (f : List ℕ) (block : ℕ) {r : Answer} → r ≡ one_number (payload_place f block)
    → Tells payload_refusals (λ n. n) (λ n. 0) 0 (payload_place f block) r
unfolding is_among
klov_payload_tells f block e = tells (λ n. n) (λ n. 0) 0 (payload_place f block) refl (payload_numbered f block) e

pub klov_show_tells : (f : List ℕ) (q size room : ℕ) {r : Answer} → r ≡ stand_numbers (standing (fetch_from f q size room) q size)
    → Tells fetch_refusals where_number place_number 0 (standing (fetch_from f q size room) q size) r
unfolding is_among
klov_show_tells f q size room e = tells where_number place_number 0 (standing (fetch_from f q size room) q size) refl (fetch_numbered f q size room) e

-- `klov_tally`: the same of six of its eleven numbers; that all are the tally's is its contract
pub klov_tally_tells : (f : List ℕ) {r : Tallied} → r ≡ tally_numbers (tallied f)
    → Tells tally_refusals (λ figures. figures.announced) (λ figures. figures.out.many) 0 (tallied f) (of_tally r)
unfolding is_among
klov_tally_tells f {r} e = tells (λ figures. figures.announced) (λ figures. figures.out.many) 0 (tallied f) refl (refused_by f) (as_answer (tallied f) e)
  where
    as_answer : (said : Said Figures) → r ≡ tally_numbers said
        → of_tally r ≡ numbers_or (λ figures. figures.announced) (λ figures. figures.out.many) 0 said
    as_answer (answers figures) p = ap of_tally p
    as_answer (refusal why) p = ap of_tally p

-- `klov_read_index`; and `klov_find_entry`: the same of six of its seven numbers; that all are the entry's is its contract
pub klov_read_index_tells : (f x : List ℕ) {r : Answer} → r ≡ read_numbers (totalled (index_read f x))
    → Tells read_refusals (λ totals. totals.entries) (λ totals. totals.packets) 0 (totalled (index_read f x)) r
unfolding is_among
klov_read_index_tells f x e = tells (λ totals. totals.entries) (λ totals. totals.packets) 0 (totalled (index_read f x)) refl (read_numbered f x) e

module _ (f x : List ℕ) (p : ℕ) {r : Shown} (e : r ≡ entry_numbers (entry_found f x p)) where
  pub klov_find_entry_tells : Tells find_refusals (λ entry. entry.first) (λ entry. entry.place.0) 0 (entry_found f x p) (of_entry r)
  unfolding is_among
  klov_find_entry_tells =
      tells (λ entry. entry.first) (λ entry. entry.place.0) 0 (entry_found f x p) refl (find_numbered f x p) (as_answer (entry_found f x p) e)
    where
      as_answer : (said : Said Entry) → r ≡ entry_numbers said → of_entry r ≡ numbers_or (λ entry. entry.first) (λ entry. entry.place.0) 0 said
      as_answer (answers entry) p = ap of_entry p
      as_answer (refusal why) p = ap of_entry p

  -- A refused call shows no entry.
  pub no_entry_shown : 0 < r.refusal → (r.number ≡ 0) × (r.first ≡ 0) × (r.place ≡ 0)
  no_entry_shown some =
      let why = klov_find_entry_tells.above some in
      let refused : r ≡ entry_numbers (refusal why.0) = e ∙ ap entry_numbers why.1 in
      (ap (λ (y : Shown). y.number) refused, ap (λ (y : Shown). y.first) refused, ap (λ (y : Shown). y.place) refused)

-- `klov_demux_dss`, `klov_demux_ds2_sp`, `klov_ds2_sp_packet` and `klov_dss_packet`
module _ {reading : Said Reading} {out out' counts counts' : List ℕ} {r : Answer} (c : SpCarries reading out out' counts counts' r) where
  sp_tells : (numbers : List ℕ) → is_among numbers 0 ≡ false → is_among numbers 8 ≡ true → Numbered numbers reading
      → Tells numbers (λ n. n) (λ n. 0) 0 (packets (in_room reading (room_in out counts))) r
  sp_tells numbers above_zero eight is =
      tells (λ n. n) (λ n. 0) 0 (packets (in_room reading (room_in out counts))) above_zero (packets_numbered reading (room_in out counts) eight is)
      (c.numbers_are ∙ ap one_number c.comes.answer_is)

  pub sp_refused_changes_nothing : 0 < r.refusal → (out' ≡ out) × (counts' ≡ counts)
  sp_refused_changes_nothing some =
      let why = refused_of (λ n. n) (λ n. 0) 0 (result_says c.answer) c.numbers_are some in
      refused_changes_nothing reading out out' counts counts' c.answer c.comes why.0 why.1

module _ (f : List ℕ) {out out' counts counts' : List ℕ} {r : Answer} where
  pub dss_tells : SpCarries (dss_reading f) out out' counts counts' r
      → Tells dss_refusals (λ n. n) (λ n. 0) 0 (packets (in_room (dss_reading f) (room_in out counts))) r
  unfolding is_among
  dss_tells c = sp_tells c dss_refusals refl refl (dss_numbered f)

  pub ds2_tells : SpCarries (ds2_reading f) out out' counts counts' r
      → Tells ds2_refusals (λ n. n) (λ n. 0) 0 (packets (in_room (ds2_reading f) (room_in out counts))) r
  unfolding is_among
  ds2_tells c = sp_tells c ds2_refusals refl refl (ds2_numbered f)

  pub packet_tells : (k : ℕ) → SpCarries (packet_reading f k) out out' counts counts' r
      → Tells packet_refusals (λ n. n) (λ n. 0) 0 (packets (in_room (packet_reading f k) (room_in out counts))) r
  unfolding is_among
  packet_tells k c = sp_tells c packet_refusals refl refl (packet_numbered f k)

  pub indexed_tells : (x : List ℕ) (p : ℕ) → SpCarries (packet_found f x p) out out' counts counts' r
      → Tells indexed_refusals (λ n. n) (λ n. 0) 0 (packets (in_room (packet_found f x p) (room_in out counts))) r
  unfolding is_among
  indexed_tells x p c = sp_tells c indexed_refusals refl refl (indexed_numbered f x p)

-- `klov_demux_ds2_qp`
module _ (f : List ℕ) {table table' : List ℕ} {r : Answer} (c : QpCarries (qp_reading f) table table' r) where
  pub qp_tells : Tells qp_refusals (λ totals. totals.segments) (λ totals. totals.announced) 0 (segments (in_table (qp_reading f) table)) r
  unfolding is_among
  qp_tells =
      tells _ _ 0 (segments (in_table (qp_reading f) table)) refl (segments_numbered f (length table / segmentWidth))
      (c.numbers_are ∙ ap qp_numbers c.comes.answer_is)

  pub qp_refused_changes_nothing : 0 < r.refusal → table' ≡ table
  qp_refused_changes_nothing some =
      let why = qp_tells.above some in
      qp-refused (qp_reading f) table table' c.answer c.comes why.0 (c.comes.answer_is ∙ why.1)

-- `klov_demux_ds2_qp7`
module _ (f : List ℕ) {table table' entries entries' : List ℕ} {r : Answer} (c : Qp7Carries (qp7_reading f) table table' entries entries' r) where
  pub qp7_tells : Tells qp7_refusals (λ totals. totals.records) (λ totals. totals.segments) 0 (records (in_tables (qp7_reading f) table entries)) r
  unfolding is_among
  qp7_tells =
      tells _ _ 0 (records (in_tables (qp7_reading f) table entries)) refl (records_numbered f (length table) (length entries / entryWidth))
      (c.numbers_are ∙ ap qp7_numbers c.comes.answer_is)

  pub qp7_refused_changes_nothing : 0 < r.refusal → (table' ≡ table) × (entries' ≡ entries)
  qp7_refused_changes_nothing some =
      let why = qp7_tells.above some in
      qp7-refused (qp7_reading f) table table' entries entries' c.answer c.comes why.0 (c.comes.answer_is ∙ why.1)

-- `klov_fetch`; its numbers are those of `klov_show`
module _ {f scratch scratch' : List ℕ} {q size : ℕ} {r : Answer} (c : FillCarries f q size scratch scratch' r) where
  pub fetch_shows : r ≡ stand_numbers (standing (fetch_from f q size (length scratch)) q size)
  fetch_shows = c.numbers_are ∙ ap stand_numbers c.comes.answer_is

  pub fetch_refused_changes_nothing : 0 < r.refusal → scratch' ≡ scratch
  fetch_refused_changes_nothing some =
      let why = (klov_show_tells f q size (length scratch) fetch_shows).above some in
      refused_fill_changes_nothing f q size scratch scratch' c.answer c.comes why.0 (c.comes.answer_is ∙ why.1)

-- `klov_write_ds2_sp`
module _ {header packets out out' : List ℕ} {r : Answer} (c : WriteCarries header packets out out' r) where
  pub write_tells : Tells write_refusals (λ n. n) (λ n. 0) 0 (written_size header packets (length out)) r
  unfolding is_among
  write_tells =
      tells (λ n. n) (λ n. 0) 0 (written_size header packets (length out)) refl (write_numbered header packets (length out))
      (c.numbers_are ∙ ap one_number c.comes.answer_is)

  pub write_refused_changes_nothing : 0 < r.refusal → out' ≡ out
  write_refused_changes_nothing some =
      let why = write_tells.above some in
      write-refused header packets out out' c.answer c.comes why.0 (c.comes.answer_is ∙ why.1)

-- `klov_build_index`
module _ (f : List ℕ) {out out' : List ℕ} {r : Answer} (c : BuildCarries (contents_of f) out out' r) where
  pub build_tells : Tells build_refusals (λ size. size.bytes) (λ size. size.entries) 0 (sized (inIndex (contents_of f) (length out))) r
  unfolding is_among
  build_tells =
      tells _ _ 0 (sized (inIndex (contents_of f) (length out))) refl (build_numbered f (length out)) (c.numbers_are ∙ ap built_numbers c.comes.answer_is)

  pub build_refused_changes_nothing : 0 < r.refusal → out' ≡ out
  build_refused_changes_nothing some =
      let why = build_tells.above some in
      build-refused f out out' c.answer c.comes why.0 (c.comes.answer_is ∙ why.1)

-- `klov_open`: a fresh reader owes nothing
pub open_tells : (kind : ℕ) {r : Opened} → OpenCarries kind r → Tells open_refusals (λ n. n) (λ n. 0) 0 (open_said kind) r.answer
unfolding is_among
open_tells kind c = tells (λ n. n) (λ n. 0) 0 (open_said kind) refl (open_numbered kind) (c.numbers_are ∙ ap one_number c.comes.answer_is)

-- what a reader's call says, and the frames owed afterwards
module _ (s : State) (after : Said ℕ → State) (keeps : (why : Numbers) → after (refusal why) ≡ s) where
  owing_by : (said : Said ℕ) → owing_numbers (owed (after said)) said ≡ numbers_or (λ n. n) (λ n. owed (after (answers n))) (owed s) said
  owing_by (answers n) = refl
  owing_by (refusal why) = ap (λ (s : State). owing_numbers (owed s) (refusal why)) (keeps why)

  advanced_tells : {numbers : List ℕ} (said : Said ℕ) → is_among numbers 0 ≡ false → Numbered numbers said → {stored : Reader} {answer : Result ℕ Refusal}
      → Steps said (after said) (step_to stored answer) → {r : Answer} → r ≡ owing_numbers r.second (result_says answer) → OwedCall stored r.second
      → Tells numbers (λ n. n) (λ n. owed (after (answers n))) (owed s) said r
  advanced_tells said above_zero is step {r} e owes =
      let second : r.second ≡ owed (after said) = owes (after said) step.reader_is step.sound in
      tells (λ n. n) (λ n. owed (after (answers n))) (owed s) said above_zero is
      (e ∙ ap (owing_numbers r.second) step.answer_is ∙ ap (λ (m : ℕ). owing_numbers m said) second ∙ owing_by said)

-- A reader that is advanced where it stands: its numbers tell what the call said and what is owed afterwards, and a refused call has stored it
-- as it was and has written nothing.
module _ {reader : Reader} (known : Reached reader) where
  abbrev s : State
  s = known.state

  -- `klov_piece`
  module _ {stored : Reader} {r : Answer} {piece out out' counts counts' : List ℕ}
      (c : Advances (PieceCall reader piece out out' counts counts') stored r) where
    pub piece_tells : Tells piece_refusals (λ n. n) (λ n. owed (after_piece s piece (answers n))) (owed s) (piece_said s piece (room_in out counts)) r
    unfolding is_among
    piece_tells =
        advanced_tells s (after_piece s piece) (λ why. refl) (piece_said s piece (room_in out counts)) refl (piece_numbered s piece (room_in out counts))
        (at_state known c.carries.comes).steps c.carries.numbers_are c.owed_is

    pub piece_refused_changes_nothing : 0 < r.refusal → (stored ≡ reader) × (out' ≡ out) × (counts' ≡ counts)
    piece_refused_changes_nothing some =
        let why = piece_tells.above some in
        refused_piece_keeps known c.carries.comes why.0 ((at_state known c.carries.comes).steps.answer_is ∙ why.1)

  -- `klov_end`, by any choice
  module _ {stored : Reader} {r : Answer} {choice : ℕ} {out out' counts counts' : List ℕ}
      (c : Advances (EndCall reader choice out out' counts counts') stored r) where
    pub end_tells : Tells (refusals_by choice) (λ n. n) (λ n. owed (after_end s (answers n))) (owed s) (end_said s choice (room_in out counts)) r
    end_tells =
        advanced_tells s (after_end s) (λ why. refl) (end_said s choice (room_in out counts)) (none_by_0 choice) (end_numbered s choice (room_in out counts))
        (at_state known c.carries.comes).steps c.carries.numbers_are c.owed_is

    pub end_refused_changes_nothing : 0 < r.refusal → (stored ≡ reader) × (out' ≡ out) × (counts' ≡ counts)
    end_refused_changes_nothing some =
        let why = end_tells.above some in
        refused_end_keeps known c.carries.comes why.0 ((at_state known c.carries.comes).steps.answer_is ∙ why.1)

  -- With 0, the strict end, it tells no packets and writes nothing, answered or refused.
  pub strict_end_writes_nothing : {stored : Reader} {r : Answer} {out out' counts counts' : List ℕ}
      → Advances (EndCall reader 0 out out' counts counts') stored r → (r.first ≡ 0) × (out' ≡ out) × (counts' ≡ counts)
  strict_end_writes_nothing {r = r} c =
      let v = strict_end_hands_nothing known c.carries.comes in
      let told = told_handed r.second (result_says c.carries.answer) in
      (ap (λ (x : Answer). x.first) c.carries.numbers_are ∙ told ∙ v.0, v.1, v.2)
    where
      told_handed : (second : ℕ) (said : Said ℕ) → (owing_numbers second said).first ≡ handed_by said
      told_handed second (answers n) = refl
      told_handed second (refusal why) = refl

  -- With a choice above 1, neither end, it is refused by 22 and 0 beside it, whatever state the reader is in.
  pub other_choice_told : {stored : Reader} {r : Answer} {choice : ℕ} {out out' counts counts' : List ℕ}
      → Advances (EndCall reader choice out out' counts counts') stored r → 1 < choice → (r.refusal ≡ 22) × (r.beside ≡ 0)
  other_choice_told {r = r} {choice = choice} {out = out} {counts = counts} c other =
      let said = (ends_by_number s (room_in out counts)).2 choice other in
      let numbers = c.carries.numbers_are ∙ ap (owing_numbers r.second) ((at_state known c.carries.comes).steps.answer_is ∙ said) in
      (ap (λ (x : Answer). x.refusal) numbers, ap (λ (x : Answer). x.beside) numbers)
