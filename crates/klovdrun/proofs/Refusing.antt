-- Whatever an export's wrapped call refuses by is in the export's list, and tells of absent bytes only if it is of a record.
-- Assumes nothing.
use Prim.Native.Nat.{ℕ, ◌+◌, ◌*◌}
use mathlib.Core.Path.{◌≡◌, refl, sym, subst}
use mathlib.Core.List.{List, ◌++◌}
use mathlib.Core.Bool.{Bool, true, false, not, cond}
use lib.ListN.{length, get_or, drop}
use lib.Dec.{eqb, leb, ltb}
use Rattle.tables.proofs.Cases.{by_test}
use Rattle.blocks.specs.Places.{limit}
use Rattle.refusals.specs.Numbers.{numbered}
use Rattle.refusals.specs.Said.{Said, is_among, Numbered}
use Rattle.refusals.proofs.Said.{by_said}
use Rattle.refusals.proofs.Numbered.{answered, refused_so, asked, goes_on, has_all, wider}
use Rattle.detect.specs.declared.Kind.TheVariants.{Sp, Qp, Qp7}
use Rattle.whole.specs.Admissions.{admission, ds2_admission, announced_by}
use Rattle.whole.specs.Payload.{place_in, payload_place}
use Rattle.whole.proofs.Refusing.{admitting, ds2_admitting}
use Rattle.sp.specs.Readings.{Reading, total, dss_reading, ds2_reading}
use Rattle.sp.specs.Outcome.{in_room, answered as packets}
use Rattle.at_once.specs.Straight.{of_number, packet_reading}
use Rattle.qp.specs.Segments.{qp_reading}
use Rattle.qp.specs.Outcome.{in_room as inSegments, answered as segments}
use Rattle.qp7.specs.Walk.{gathered_from, qp7_reading}
use Rattle.qp7.specs.Outcome.{in_room as inRecords, answered as records}
use Rattle.qp7.proofs.Refusing.{gathering_all}
use Rattle.frames.specs.Fetch.{can_fetch, fetch_from, standing}
use Rattle.laying.specs.Header.{is_header}
use Rattle.writing.specs.Outcome.{sound_in, size_of, written_size}
use Rattle.entries.specs.Entries.{entries_by}
use Rattle.entries.specs.Index.{size_of as indexSize}
use Rattle.entries.specs.Held.{is_rest}
use Rattle.index.specs.Reading.{contents_of, framed, read_beside, index_read}
use Rattle.index.specs.Outcome.{in_room as inIndex, sized, totalled}
use Rattle.finding.specs.Finding.{found_in, entry_found}
use Rattle.finding.specs.Packet.{packet_found}
use Rattle.finding.proofs.Theorems.{found_by_reading, entry_has_the_packet, packet_by_entry, refused_alike}
use Rattle.reader.specs.State.{State, is_kind, start_of, owed, fits_by, header_done}
use Rattle.reader.specs.Calls.{open_said, brings, piece_said, in_block, strict_by, lenient_by, strict, lenient, end_said}
use Rattle.klovdrun.specs.Refusals.{payload_refusals, dss_refusals, ds2_refusals, packet_refusals, qp_refusals, qp7_refusals, fetch_refusals, open_refusals, piece_refusals, end_refusals, refusals_by, write_refusals, build_refusals, read_refusals, find_refusals, indexed_refusals}

-- a payload
pub payload_numbered : (f : List ℕ) (block : ℕ) → Numbered payload_refusals (payload_place f block)
unfolding payload_place is_among has_all
payload_numbered f block =
    goes_on (admission f true true) (λ rec. place_in rec block) (wider refl (admitting f true true))
    (λ rec. asked (ltb block rec.blocks) 12 0 refl (answered _))

-- the whole readings, and their rooms
pub dss_numbered : (f : List ℕ) → Numbered dss_refusals (dss_reading f)
unfolding dss_reading is_among has_all
dss_numbered f = goes_on (admission f true false) _ (wider refl (admitting f true false)) (λ rec. answered _)

pub ds2_numbered : (f : List ℕ) → Numbered ds2_refusals (ds2_reading f)
unfolding ds2_reading is_among has_all
ds2_numbered f = goes_on (ds2_admission f Sp) _ (wider refl (ds2_admitting f Sp)) (λ rec. answered _)

pub packet_numbered : (f : List ℕ) (k : ℕ) → Numbered packet_refusals (packet_reading f k)
unfolding packet_reading is_among has_all
packet_numbered f k =
    goes_on (ds2_admission f Sp) (λ rec. of_number f rec k) (wider refl (ds2_admitting f Sp))
    (λ rec. asked (ltb k (announced_by f rec)) 18 _ refl (answered _))

pub packets_numbered : {numbers : List ℕ} (reading : Said Reading) (room : ℕ) → is_among numbers 8 ≡ true → Numbered numbers reading
    → Numbered numbers (packets (in_room reading room))
unfolding in_room
packets_numbered reading room eight is =
    goes_on _ _ (goes_on reading _ is (λ r. asked (leb (total r) room) 8 (total r) eight (answered r))) (λ r. answered _)

pub segments_numbered : (f : List ℕ) (room : ℕ) → Numbered qp_refusals (segments (inSegments (qp_reading f) room))
unfolding inSegments qp_reading is_among has_all
segments_numbered f room =
    goes_on _ _
    (goes_on _ _ (goes_on (ds2_admission f Qp) _ (wider refl (ds2_admitting f Qp)) (λ rec. answered _))
    (λ r. asked (leb (length r.segments) room) 9 _ refl (answered r)))
    (λ r. answered _)

pub records_numbered : (f : List ℕ) (forRecords forSegments : ℕ) → Numbered qp7_refusals (records (inRecords (qp7_reading f) forRecords forSegments))
unfolding inRecords qp7_reading is_among has_all
records_numbered f forRecords forSegments =
    goes_on _ _
    (goes_on _ _ (goes_on (ds2_admission f Qp7) (gathered_from f) (wider refl (ds2_admitting f Qp7)) (λ rec. wider refl (gathering_all f rec)))
    (λ g.
    asked (leb (length g.records) forRecords) 8 _ refl
    (asked (leb (length g.closed) forSegments) 9 _ refl (answered g))))
    (λ g. answered _)

pub fetch_numbered : (f : List ℕ) (q size room : ℕ) → Numbered fetch_refusals (standing (fetch_from f q size room) q size)
unfolding fetch_from standing is_among has_all
fetch_numbered f q size room =
    goes_on _ _
    (goes_on (admission f false true) _ (wider refl (admitting f false true))
    (λ rec. asked (can_fetch rec.blocks q size room) 12 0 refl (answered rec)))
    (λ rec. answered _)

pub write_numbered : (header packets : List ℕ) (room : ℕ) → Numbered write_refusals (written_size header packets room)
unfolding written_size is_among
write_numbered header packets room =
    asked (is_header header) 15 0 refl
    (asked (eqb (42 * sound_in packets) (length packets)) 16 _ refl
    (asked (leb (size_of packets) limit) 17 limit refl
    (asked (leb (size_of packets) room) 8 _ refl (answered _))))

-- an index: built, read, and searched for an entry or a packet
pub build_numbered : (f : List ℕ) (room : ℕ) → Numbered build_refusals (sized (inIndex (contents_of f) room))
unfolding inIndex contents_of is_among has_all
build_numbered f room =
    goes_on _ _
    (goes_on _ _ (goes_on (admission f true false) _ (wider refl (admitting f true false)) (λ rec. answered _))
    (λ c. asked (leb (indexSize c) room) 8 _ refl (answered c)))
    (λ c. answered _)

reading_numbered : {numbers : List ℕ} (f x : List ℕ) → has_all numbers read_refusals ≡ true → Numbered numbers (index_read f x)
unfolding index_read is_among has_all
reading_numbered f x all =
    wider {some = read_refusals} all
    (goes_on (admission f true false) (λ rec. read_beside f rec x) (wider refl (admitting f true false))
    (λ rec.
    asked (framed x) 19 0 refl
    (asked (eqb (get_or x 4 0) 1) 20 _ refl (asked (is_rest (entries_by f rec) (drop 5 x)) 21 _ refl (answered _)))))

pub read_numbered : (f x : List ℕ) → Numbered read_refusals (totalled (index_read f x))
unfolding is_among has_all
read_numbered f x = goes_on _ _ (reading_numbered f x refl) (λ c. answered _)

finding_numbered : {numbers : List ℕ} (f x : List ℕ) (p : ℕ) → has_all numbers read_refusals ≡ true → is_among numbers 18 ≡ true
    → Numbered numbers (entry_found f x p)
finding_numbered f x p all eighteen =
    subst (Numbered _) (sym (found_by_reading f x p))
    (goes_on (index_read f x) (found_in p) (reading_numbered f x all) (λ c. asked (ltb p c.total) 18 _ eighteen (answered _)))

pub find_numbered : (f x : List ℕ) (p : ℕ) → Numbered find_refusals (entry_found f x p)
unfolding is_among has_all
find_numbered f x p = finding_numbered f x p refl refl

pub indexed_numbered : (f x : List ℕ) (p : ℕ) → Numbered indexed_refusals (packet_found f x p)
unfolding is_among has_all
indexed_numbered f x p =
    by_said (entry_found f x p)
    (λ entry e.
    let h = entry_has_the_packet f x p entry e in
    subst (Numbered indexed_refusals) (sym (packet_by_entry f x p entry h.0 h.1 e)) (answered _))
    (λ why e.
    let is = finding_numbered {numbers = indexed_refusals} f x p refl refl in
    subst (Numbered indexed_refusals) (sym (refused_alike f x p why e)) (refused_so why (is.among why e) (is.only_records_lack why e)))

-- a reader's calls, at any state
pub open_numbered : (kind : ℕ) → Numbered open_refusals (open_said kind)
unfolding open_said is_among
open_numbered kind = asked (is_kind kind) 10 kind refl (answered 0)

pub piece_numbered : (s : State) (piece : List ℕ) (room : ℕ) → Numbered piece_refusals (piece_said s piece room)
unfolding piece_said is_among
piece_numbered s piece room =
    asked (eqb s.phase 0) 6 0 refl
    (asked (leb (length s.bytes + length piece) limit) 2 limit refl
    (asked (fits_by s.kind (s.bytes ++ piece)) 7 12288 refl
    (asked (leb (brings s piece) room) 8 _ refl (answered _))))

either : {numbers : List ℕ} (test : Bool) {one other : Said ℕ} → Numbered numbers one → Numbered numbers other
    → Numbered numbers (cond test one other)
either true is else = is
either false is else = else

strict_numbered : (s : State) → Numbered (refusals_by strict) (strict_by s.phase (start_of s.kind) (length s.bytes) (owed s))
unfolding strict_by is_among
strict_numbered s =
    asked (not (eqb s.phase 1)) 6 0 refl
    (either (eqb s.phase 2) (answered 0)
    (asked (header_done s) 3 _ refl
    (asked (eqb (in_block (start_of s.kind) (length s.bytes)) 0) 13 _ refl
    (asked (eqb (owed s) 0) 14 _ refl (answered 0)))))

lenient_numbered : (s : State) (room : ℕ) → Numbered (refusals_by lenient) (lenient_by (start_of s.kind) (length s.bytes) (owed s) room)
unfolding lenient_by is_among
lenient_numbered s room = asked (header_done s) 3 _ refl (answered _)

pub end_numbered : (s : State) (choice room : ℕ) → Numbered (refusals_by choice) (end_said s choice room)
unfolding is_among
end_numbered s choice room =
    by_test (eqb choice strict) (λ e. rw e (strict_numbered s))
    (λ not-strict.
    by_test (eqb choice lenient) (λ e. rw (not-strict, e) (lenient_numbered s room))
    (λ not-lenient. rw (not-strict, not-lenient) (refused_so (numbered 22 0) refl (λ of-record. (refl, refl)))))

-- what holds of each of an end's three lists: none of its numbers is 0, and all of them are in the end's own
of_each : (P : List ℕ → Type 0) → P (refusals_by 0) → P (refusals_by 1) → P (refusals_by 2) → (choice : ℕ) → P (refusals_by choice)
of_each P one other neither choice =
    by_test (eqb choice strict) (λ e. rw e one)
    (λ not-strict. by_test (eqb choice lenient) (λ e. rw (not-strict, e) other) (λ not-lenient. rw (not-strict, not-lenient) neither))

pub none_by_0 : (choice : ℕ) → is_among (refusals_by choice) 0 ≡ false
unfolding is_among
none_by_0 = of_each (λ numbers. is_among numbers 0 ≡ false) refl refl refl

pub all_listed : (choice : ℕ) → has_all end_refusals (refusals_by choice) ≡ true
unfolding is_among has_all
all_listed = of_each (λ numbers. has_all end_refusals numbers ≡ true) refl refl refl
