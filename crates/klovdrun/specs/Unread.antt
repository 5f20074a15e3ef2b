-- A file that is not read: each call that reads a file whole refuses it by 1, and a host is told so by each export that does.
-- Assumes nothing.
use Rattle.std.specs.Prelude.{ℕ, ◌≡◌, List, [], length}
use Rattle.refusals.specs.Said.{refuses}
use Rattle.whole.specs.Payload.{payload_place, payload_shown}
use Rattle.sp.specs.Readings.{dss_reading, ds2_reading}
use Rattle.at_once.specs.Straight.{packet_reading}
use Rattle.qp.specs.Segments.{qp_reading}
use Rattle.qp7.specs.Walk.{qp7_reading}
use Rattle.frames.specs.Fetch.{fetch_from, standing, shown}
use Rattle.tally.specs.Tallies.{tallied}
use Rattle.index.specs.Reading.{contents_of, index_read}
use Rattle.index.specs.Outcome.{totalled}
use Rattle.finding.specs.Finding.{entry_found}
use Rattle.finding.specs.Packet.{packet_found}
use Rattle.numbers.specs.declared.Answer.{Answer}
use Rattle.numbers.specs.declared.Tallied.{Tallied}
use Rattle.numbers.specs.declared.Entry.{Entry}
use Rattle.numbers.specs.Numbers.{one_number, stand_numbers, tally_numbers, read_numbers, entry_numbers}
use Rattle.klovdrun.specs.Wrapped.{SpCarries, QpCarries, Qp7Carries, FillCarries, BuildCarries, of_entry, of_tally}

-- what the calls say of it, whatever they are asked beside the file; the readings do not depend on what is lent. What is shown is empty
pub record Unread (f : List ℕ) : Type 0 where
  pub dss : dss_reading f ≡ refuses 1 0
  pub ds2 : ds2_reading f ≡ refuses 1 0
  pub packet : (number : ℕ) → packet_reading f number ≡ refuses 1 0
  pub qp : qp_reading f ≡ refuses 1 0
  pub qp7 : qp7_reading f ≡ refuses 1 0
  pub tally : tallied f ≡ refuses 1 0
  pub payload : (block : ℕ) → payload_place f block ≡ refuses 1 0
  pub payload_shown_lem : (block : ℕ) → payload_shown f block ≡ []
  pub fetch : (place size room : ℕ) → fetch_from f place size room ≡ refuses 1 0
  pub frame_shown : (place size : ℕ) (scratch : List ℕ) → shown f place size scratch ≡ []
  pub index : contents_of f ≡ refuses 1 0
  pub index_read_lem : (x : List ℕ) → index_read f x ≡ refuses 1 0
  pub entry : (x : List ℕ) (number : ℕ) → entry_found f x number ≡ refuses 1 0
  pub indexed : (x : List ℕ) (number : ℕ) → packet_found f x number ≡ refuses 1 0

-- r is what some export answered that reads a file whole, this one, with whatever was lent to it; of a tally and of an entry the six numbers that an
-- answer has
pub data Asked (f : List ℕ) : Answer → Type 0 where
  demux_dss : {out out' counts counts' : List ℕ} {r : Answer} → SpCarries (dss_reading f) out out' counts counts' r → Asked f r
  demux_ds2_sp : {out out' counts counts' : List ℕ} {r : Answer} → SpCarries (ds2_reading f) out out' counts counts' r → Asked f r
  ds2_sp_packet : (number : ℕ) {out out' counts counts' : List ℕ} {r : Answer} → SpCarries (packet_reading f number) out out' counts counts' r
      → Asked f r
  demux_ds2_qp : {table table' : List ℕ} {r : Answer} → QpCarries (qp_reading f) table table' r → Asked f r
  demux_ds2_qp7 : {records records' segments segments' : List ℕ} {r : Answer} → Qp7Carries (qp7_reading f) records records' segments segments' r
      → Asked f r
  tally : {r : Tallied} → r ≡ tally_numbers (tallied f) → Asked f (of_tally r)
  payload : (block : ℕ) {r : Answer} → r ≡ one_number (payload_place f block) → Asked f r
  fetch : (place size : ℕ) {scratch scratch' : List ℕ} {r : Answer} → FillCarries f place size scratch scratch' r → Asked f r
  show : (place size : ℕ) (scratch : List ℕ) {r : Answer} → r ≡ stand_numbers (standing (fetch_from f place size (length scratch)) place size)
      → Asked f r
  build_index : {out out' : List ℕ} {r : Answer} → BuildCarries (contents_of f) out out' r → Asked f r
  read_index : (x : List ℕ) {r : Answer} → r ≡ read_numbers (totalled (index_read f x)) → Asked f r
  find_entry : (x : List ℕ) (number : ℕ) {r : Entry} → r ≡ entry_numbers (entry_found f x number) → Asked f (of_entry r)
  dss_packet : (x : List ℕ) (number : ℕ) {out out' counts counts' : List ℕ} {r : Answer}
      → SpCarries (packet_found f x number) out out' counts counts' r → Asked f r
