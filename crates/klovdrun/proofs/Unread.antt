-- What has no magic is not read: each call that reads a file whole refuses it by 1, and its export tells so. Of that sort are the files of the
-- encrypted recorders, which are withdrawn. Assumes nothing.
use Prim.Native.Nat.{ℕ}
use mathlib.Core.Path.{◌≡◌, ap, ◌∙◌}
use mathlib.Core.List.{List}
use mathlib.Core.Bool.{true, false}
use lib.ListN.{length}
use Rattle.refusals.specs.Numbers.{numbered}
use Rattle.refusals.specs.Said.{Said, refuses}
use Rattle.magic.specs.declared.Magic.TheVariants.{Other}
use Rattle.magic.specs.Magics.{magic_of}
use Rattle.magic.specs.Withdrawn.{encrypted}
use Rattle.magic.proofs.Withdrawn.{encrypted_is_none}
use Rattle.detect.specs.declared.Kind.{Kind}
use Rattle.detect.specs.Format.{detected}
use Rattle.detect.proofs.Format.{encrypted_unnamed}
use Rattle.whole.specs.declared.Recording.{Recording}
use Rattle.whole.specs.Admissions.{ds2_admission}
use Rattle.whole.specs.Payload.{payload_place, payload_shown, shown_at}
use Rattle.whole.proofs.Admissions.{no_magic}
use Rattle.sp.specs.Readings.{Reading, dss_reading, ds2_reading}
use Rattle.sp.specs.Outcome.{room_in, in_room, answered as packets}
use Rattle.at_once.specs.Straight.{packet_reading}
use Rattle.qp.specs.Segments.{Reading as QpReading, qp_reading}
use Rattle.qp.specs.Outcome.{in_room as qpRoom, in_table, answered as segments}
use Rattle.qp7.specs.Walk.{Gathered, qp7_reading}
use Rattle.qp7.specs.Outcome.{in_room as qp7Room, in_tables, answered as records}
use Rattle.frames.specs.Fetch.{fetch_from, standing, shown, shown_by}
use Rattle.tally.specs.Tallies.{tallied}
use Rattle.tally.proofs.Theorems.{no_magic_no_tally}
use Rattle.entries.specs.Entries.{Contents}
use Rattle.index.specs.Reading.{contents_of, index_read}
use Rattle.index.specs.Outcome.{in_room as inIndex, sized, totalled}
use Rattle.finding.specs.Finding.{entry_found}
use Rattle.finding.specs.Packet.{packet_found}
use Rattle.numbers.specs.declared.Answer.{Answer}
use Rattle.numbers.specs.declared.Tallied.{Tallied}
use Rattle.numbers.specs.declared.Entry.{Entry}
use Rattle.numbers.specs.Numbers.{format_number, refusing, one_number, qp_numbers, qp7_numbers, stand_numbers, tally_numbers, built_numbers, read_numbers, entry_numbers}
use Rattle.klovdrun.specs.Wrapped.{SpCarries, of_entry, of_tally}
use Rattle.klovdrun.specs.Unread.{Unread, Asked, demux_dss, demux_ds2_sp, ds2_sp_packet, demux_ds2_qp, demux_ds2_qp7, tally, payload, fetch, show, build_index, read_index, find_entry, dss_packet}
use Rattle.klovdrun.proofs.Theorems.{fetch_shows}

module _ (f : List ℕ) (none : magic_of f ≡ Other) where
  as_ds2 : (kind : Kind) → ds2_admission f kind ≡ refuses 1 0
  unfolding ds2_admission
  as_ds2 kind = rw (no_magic f false true none)

  place_refused : (block : ℕ) → payload_place f block ≡ refuses 1 0
  unfolding payload_place
  place_refused block = rw (no_magic f true true none)

  fetch_refused : (place size room : ℕ) → fetch_from f place size room ≡ refuses 1 0
  unfolding fetch_from
  fetch_refused place size room = rw (no_magic f false true none)

  -- A file without a magic is read by no call that reads a file whole.
  pub no_magic_unread : Unread f
  unfolding dss_reading ds2_reading packet_reading qp_reading qp7_reading payload_shown shown contents_of index_read entry_found packet_found
  no_magic_unread =
      record {
        dss = rw (no_magic f true false none);
        ds2 = rw (as_ds2 _);
        packet = λ number. rw (as_ds2 _);
        qp = rw (as_ds2 _);
        qp7 = rw (as_ds2 _);
        tally = no_magic_no_tally f none;
        payload = place_refused;
        payload_shown_lem = λ block. ap (shown_at f) (place_refused block);
        fetch = fetch_refused;
        frame_shown = λ place size scratch. ap (λ (said : Said Recording). shown_by f said place size scratch) (fetch_refused place size (length scratch));
        index = rw (no_magic f true false none);
        index_read_lem = λ x. rw (no_magic f true false none);
        entry = λ x number. rw (no_magic f true false none);
        indexed = λ x number. rw (no_magic f true false none);
      }

-- the numbers of an SP reading that is refused so
sp_told : {reading : Said Reading} {out out' counts counts' : List ℕ} {r : Answer} → SpCarries reading out out' counts counts' r
    → reading ≡ refuses 1 0 → r ≡ refusing (numbered 1 0) 0
unfolding in_room
sp_told {out = out} {counts = counts} c is =
    c.numbers_are ∙ ap one_number (c.comes.answer_is ∙ ap (λ (said : Said Reading). packets (in_room said (room_in out counts))) is)

module _ (f : List ℕ) (unread : Unread f) where
  show_told : (place size room : ℕ) {r : Answer} → r ≡ stand_numbers (standing (fetch_from f place size room) place size)
      → r ≡ refusing (numbered 1 0) 0
  unfolding standing
  show_told place size room e =
      e ∙ ap (λ (said : Said Recording). stand_numbers (standing said place size)) (unread.fetch place size room)

  -- The tally refuses it by 1, and its other ten numbers are 0.
  pub told_untallied : {r : Tallied} → r ≡ tally_numbers (tallied f) → r ≡ tally_numbers (refuses 1 0)
  told_untallied e = e ∙ ap tally_numbers unread.tally

  -- No entry is shown of it: refusal 1, and the other six numbers are 0.
  pub told_unshown : (x : List ℕ) (number : ℕ) {r : Entry} → r ≡ entry_numbers (entry_found f x number) → r ≡ entry_numbers (refuses 1 0)
  told_unshown x number e = e ∙ ap entry_numbers (unread.entry x number)

  -- Each export that reads a file whole tells refusal 1 of it, and every other number is 0.
  pub told_unread : {r : Answer} → Asked f r → r ≡ refusing (numbered 1 0) 0
  unfolding qpRoom qp7Room inIndex
  told_unread (demux_dss c) = sp_told c unread.dss
  told_unread (demux_ds2_sp c) = sp_told c unread.ds2
  told_unread (ds2_sp_packet number c) = sp_told c (unread.packet number)
  told_unread (demux_ds2_qp {table = table} c) =
      c.numbers_are ∙ ap qp_numbers (c.comes.answer_is ∙ ap (λ (said : Said QpReading). segments (in_table said table)) unread.qp)
  told_unread (demux_ds2_qp7 {records = places} {segments = entries} c) =
      c.numbers_are ∙ ap qp7_numbers (c.comes.answer_is ∙ ap (λ (said : Said Gathered). records (in_tables said places entries)) unread.qp7)
  told_unread (tally e) = ap of_tally (told_untallied e)
  told_unread (payload block e) = e ∙ ap one_number (unread.payload block)
  told_unread (fetch place size {scratch = scratch} c) = show_told place size (length scratch) (fetch_shows c)
  told_unread (show place size scratch e) = show_told place size (length scratch) e
  told_unread (build_index {out = out} c) =
      c.numbers_are ∙ ap built_numbers (c.comes.answer_is ∙ ap (λ (said : Said Contents). sized (inIndex said (length out))) unread.index)
  told_unread (read_index x e) = e ∙ ap (λ (said : Said Contents). read_numbers (totalled said)) (unread.index_read_lem x)
  told_unread (find_entry x number e) = ap of_entry (told_unshown x number e)
  told_unread (dss_packet x number c) = sp_told c (unread.indexed x number)

-- Of every file that begins with 3 and `enc`, whatever follows and however much.
module _ (rest : List ℕ) where
  -- No call reads it that reads a file whole.
  pub encrypted_refused : Unread (encrypted rest)
  encrypted_refused = no_magic_unread (encrypted rest) (encrypted_is_none rest)

  -- A host that has given it to an export that reads a file whole is told refusal 1, and every other number is 0.
  pub told_refused : {r : Answer} → Asked (encrypted rest) r → r ≡ refusing (numbered 1 0) 0
  told_refused asked = told_unread (encrypted rest) encrypted_refused asked

  -- `klov_detect_format` answers none.
  pub told_unnamed : {r : ℕ} → r ≡ format_number (detected (encrypted rest)) → r ≡ 0
  told_unnamed e = e ∙ ap format_number (encrypted_unnamed rest)
