-- What holds of `find_entry` and `dss_packet` for every file, all bytes, every number and all lent memory, beyond their contracts or drawn from
-- them. Each statement stands under a sentence that says it. Assumes nothing.
use Prim.Native.Nat.{ℕ, ◌+◌, ◌*◌, ◌≤◌, ◌<◌}
use mathlib.Core.Path.{◌≡◌, refl, sym, ap, ◌∙◌, subst}
use mathlib.Core.List.{List}
use mathlib.Core.Bool.{true, false}
use native.Mathlib.Omega.{arith}
use borrow.Author.Tests.{lt-ltb, le-ltb}
use lib.ListN.{get_or}
use lib.Dec.{leb}
use Rattle.tables.specs.Settled.{SettledAs, SettledResult}
use Rattle.tables.specs.Lent.{Leaves}
use Rattle.tables.proofs.Cases.{by_order}
use Rattle.blocks.specs.Headers.{Bytes}
use Rattle.refusals.specs.declared.Numbers.{Numbers}
use Rattle.refusals.specs.Numbers.{numbered}
use Rattle.refusals.specs.Said.{Said, answers, refuses, refusal, demand, onward, result_says}
use Rattle.refusals.proofs.Said.{for_the_answer, by_said, by_onward, went_on, onward_refused, onward_answered, onward_twice}
use Rattle.whole.specs.declared.Recording.{Recording}
use Rattle.whole.specs.Admissions.{admission}
use Rattle.sp.specs.ReadLists.{dss_runs}
use Rattle.sp.specs.Readings.{Reading, total, packet_at, file_count_at, reading_of, dss_reading}
use Rattle.sp.specs.Outcome.{room_in, in_room, answered, Demuxes}
use Rattle.sp.proofs.Outcome.{refused_before, Seen, only_outcome}
use Rattle.at_once.specs.Agreement.{OnePacket}
use Rattle.at_once.proofs.One.{one_said, one_handed, one_of_whole}
use Rattle.entries.specs.declared.Entry.{Entry}
use Rattle.entries.specs.Entries.{Contents}
use Rattle.entries.specs.Index.{index_of}
use Rattle.index.specs.Reading.{contents_of, read_beside, index_read}
use Rattle.index.proofs.Theorems.{only_one_index, its_index_is_read, every_reading_has_one}
use Rattle.finding.specs.Finding.{last_in, found_in, found_beside, entry_found}
use Rattle.finding.specs.Packet.{stands_by, by_entry, packet_beside, packet_found}
use Rattle.finding.specs.Agreement.{HasPacket, said_by}
use Rattle.finding.proofs.Searching.{found_has}
use Rattle.finding.proofs.Carried.{alone_total, is_one_packet}
use Rattle.finding.proofs.find_entry.Kinds as finds
use Rattle.finding.proofs.find_entry.Reads as finds-reads
use Rattle.finding.proofs.dss_packet.Kinds as packet
use Rattle.finding.proofs.dss_packet.Reads as packet-reads
use Rattle.std.specs.Prelude.{Result}
use Rattle.refusals.specs.declared.Refusal.{Refusal}
use Rattle.refusals.proofs.Results.{only_result}

module _ (f x : List ℕ) (p : ℕ) where
  -- Finding is reading the index, all of it, and then looking the number up: whatever reading is refused by, finding is, and 18 comes after that.
  pub found_by_reading : entry_found f x p ≡ onward (index_read f x) (found_in p)
  unfolding entry_found index_read
  found_by_reading = onward_twice (admission f true false) (λ rec. read_beside f rec x) (found_in p)

  -- So an entry is found only in the file's own index, byte for byte, and so is a packet.
  pub found_only_in_its_index : Bytes x → (entry : Entry) → entry_found f x p ≡ answers entry
      → (c : Contents) × (contents_of f ≡ answers c) × (x ≡ index_of c)
  found_only_in_its_index bytes entry e =
      let w = went_on (index_read f x) (found_in p) (sym found_by_reading ∙ e) in
      let v = only_one_index f x w.0 bytes w.1 in
      (w.0, v.0, v.1)

  -- The entry found for a packet is that of the block which has the packet.
  pub entry_has_the_packet : (entry : Entry) → entry_found f x p ≡ answers entry
      → (rec : Recording) × (admission f true false ≡ answers rec) × HasPacket f rec p entry
  unfolding entry_found
  entry_has_the_packet entry e =
      let w = went_on (admission f true false) (λ rec. found_beside f rec x p) e in
      (w.0, w.1, found_has f w.0 x p entry w.2)

  -- A packet is given exactly where an entry is found, by that entry, and refused as the entry is.
  pub packet_by_entry : (entry : Entry) (rec : Recording) → admission f true false ≡ answers rec → entry_found f x p ≡ answers entry
      → packet_found f x p ≡ answers (by_entry f rec p entry)
  unfolding entry_found packet_found
  packet_by_entry entry rec is e =
      let found : found_beside f rec x p ≡ answers entry = sym (onward_answered (λ rec. found_beside f rec x p) (sym is)) ∙ e in
      onward_answered (λ rec. packet_beside f rec x p) (sym is) ∙ onward_answered (λ entry. answers (by_entry f rec p entry)) (sym found)

  pub refused_alike : (why : Numbers) → entry_found f x p ≡ refusal why → packet_found f x p ≡ refusal why
  unfolding entry_found packet_found
  refused_alike why e =
      by_onward (admission f true false) (λ rec. found_beside f rec x p) e (λ first. onward_refused (λ rec. packet_beside f rec x p) (sym first))
      (λ rec is then.
      onward_answered (λ rec. packet_beside f rec x p) (sym is) ∙ onward_refused (λ entry. answers (by_entry f rec p entry)) (sym then))

  pub found_for_packet : (one : Reading) → packet_found f x p ≡ answers one
      → (rec : Recording) × (entry : Entry) × (admission f true false ≡ answers rec) × (entry_found f x p ≡ answers entry) × (by_entry f rec p entry ≡ one)
  unfolding entry_found packet_found
  found_for_packet one e =
      let w = went_on (admission f true false) (λ rec. packet_beside f rec x p) e in
      let v = went_on (found_beside f w.0 x p) (λ entry. answers (by_entry f w.0 p entry)) w.2 in
      (w.0, v.0, w.1, onward_answered (λ rec. found_beside f rec x p) (sym w.1) ∙ v.1, cc v.2)

  pub packet_only_by_its_index : Bytes x → (one : Reading) → packet_found f x p ≡ answers one → (c : Contents) × (contents_of f ≡ answers c) × (x ≡ index_of c)
  packet_only_by_its_index bytes one e = let w = found_for_packet one e in found_only_in_its_index bytes w.1 w.3

  -- The packet found through an index is the whole reading's, bytes and count: of padded packets too, and with the carried byte of a swapped one, be
  -- it an earlier block's.
  pub packet_by_index : (one : Reading) → packet_found f x p ≡ answers one → (r : Reading) × (dss_reading f ≡ answers r) × OnePacket one r p
  unfolding dss_reading
  packet_by_index one e =
      let w = found_for_packet one e in
      let rec = w.0 in
      let h = entry_has_the_packet w.1 w.3 in
      let same : h.0 ≡ rec = for_the_answer (λ (y : Recording). h.0 ≡ y) (sym h.1 ∙ w.2) refl in
      let has : HasPacket f rec p w.1 = subst (λ (y : Recording). HasPacket f y p w.1) same h.2 in (
        reading_of f rec dss_runs,
        onward_answered (λ rec. answers (reading_of f rec dss_runs)) (sym w.2),
        subst (λ (y : Reading). OnePacket y (reading_of f rec dss_runs) p) w.4 (is_one_packet f rec p w.1 has),
      )

  module _ (out out' counts counts' : List ℕ) (answer : Result ℕ Refusal) (d : Demuxes (packet_found f x p) out out' counts counts' answer) where
    -- What the call for a packet says is decided by what reading the index says, then by the number, and then by the room.
    pub packet_said : result_says answer ≡ said_by (index_read f x) p (room_in out counts)
    packet_said =
        d.answer_is
        ∙ by_said (index_read f x)
        (λ c e.
        by_order p c.total
        (λ h.
        let found : entry_found f x p ≡ answers (last_in p c.entries) = found_by_reading ∙ simp (e, lt-ltb p c.total h) in
        let v = entry_has_the_packet (last_in p c.entries) found in
        let given = packet_by_entry (last_in p c.entries) v.0 v.1 found in
        let says : said_by (index_read f x) p (room_in out counts) ≡ demand (leb 1 (room_in out counts)) 8 1 (answers 1) = simp (e, lt-ltb p c.total h) in
        ap (λ (said : Said Reading). answered (in_room said (room_in out counts))) given
        ∙ one_said (by_entry f v.0 p (last_in p c.entries)) (alone_total f v.0 (stands_by f v.0 (last_in p c.entries) p)) (room_in out counts)
        ∙ sym says)
        (λ h.
        let none : entry_found f x p ≡ refuses 18 c.total = found_by_reading ∙ simp (e, le-ltb p c.total h) in
        rw (refused_alike _ none, e, le-ltb p c.total h) (refused_before (room_in out counts) (numbered 18 c.total))))
        (λ why e.
        let none : entry_found f x p ≡ refusal why = found_by_reading ∙ onward_refused (found_in p) (sym e) in
        rw (refused_alike why none, e) (refused_before (room_in out counts) why))

    -- An answered call has put the packet of that number of the whole reading over the first 42 bytes of the output, and its file-byte count into
    -- the first entry of the table. Every other place of both is as it was, and so are the lengths.
    pub packet_handed : (n : ℕ) → result_says answer ≡ answers n
        → (r : Reading) × (dss_reading f ≡ answers r) × (p < total r) × (n ≡ 1) × Leaves out 0 42 (λ i. get_or (packet_at r p) i 0) out'
        × Leaves counts 0 1 (λ i. file_count_at r p) counts'
    packet_handed = one_handed (packet_found f x p) (dss_reading f) p packet_by_index out out' counts counts' answer d

    -- And where the whole call has answered too, for the same file, the packet and its count are those that it put under that number.
    pub same_as_whole : {o o' c c' : List ℕ} {whole : Result ℕ Refusal} → Demuxes (dss_reading f) o o' c c' whole → (m n : ℕ) → result_says whole ≡ answers m
        → result_says answer ≡ answers n
        → (p < m) × ((i : ℕ) → i < 42 → get_or out' i 0 ≡ get_or o' (42 * p + i) 0) × (get_or counts' 0 0 ≡ get_or c' p 0)
    same_as_whole all m n says e = one_of_whole (packet_found f x p) (dss_reading f) p packet_by_index out out' counts counts' answer d all m n says e

-- And every packet of the whole reading is found so, through the file's own index; past the last it is refused by 18 with the total.
module _ (f : List ℕ) (r : Reading) (p : ℕ) (e : dss_reading f ≡ answers r) where
  pub every_packet_is_found : p < total r
      → (c : Contents) × (contents_of f ≡ answers c) × (entry_found f (index_of c) p ≡ answers (last_in p c.entries))
      × ((one : Reading) × (packet_found f (index_of c) p ≡ answers one) × OnePacket one r p)
  every_packet_is_found h =
      let w = every_reading_has_one f r e in
      let c = w.0 in
      let below : p < c.total = omega (arith, w.2) in
      let found : entry_found f (index_of c) p ≡ answers (last_in p c.entries) =
      found_by_reading f (index_of c) p ∙ onward_answered (found_in p) (sym (its_index_is_read f c w.1)) ∙ simp (lt-ltb p c.total below) in
      let v = entry_has_the_packet f (index_of c) p (last_in p c.entries) found in
      let given = packet_by_entry f (index_of c) p (last_in p c.entries) v.0 v.1 found in
      let by = packet_by_index f (index_of c) p _ given in (
        c,
        w.1,
        found,
        (by_entry f v.0 p (last_in p c.entries), given, for_the_answer (λ (y : Reading). OnePacket (by_entry f v.0 p (last_in p c.entries)) y p) (sym by.1 ∙ e) by.2),
      )

  pub past_the_last : total r ≤ p → (c : Contents) × (contents_of f ≡ answers c) × (entry_found f (index_of c) p ≡ refuses 18 (total r))
  past_the_last h =
      let w = every_reading_has_one f r e in
      let c = w.0 in (
        c,
        w.1,
        found_by_reading f (index_of c) p
            ∙ onward_answered (found_in p) (sym (its_index_is_read f c w.1))
            ∙ simp (le-ltb p c.total (omega (arith, w.2))) (ap (refuses 18) w.2),
      )

-- Two outcomes of `find_entry` that its contract allows for the same arguments are equal, and so of `dss_packet`: answer, output and counts. The
-- contract is the one in the source, as the check reads it.
pub find_entry_settled : SettledResult 2 finds.ps finds.r finds-reads.Post
find_entry_settled κs a x y s t p q = only_result x y _ p q

pub dss_packet_settled : SettledAs 4 packet.ps packet.r (λ κs. Seen) (λ κs x s. (x, s.1.1.1.0.now, s.1.1.1.1.0.now)) packet-reads.Post
dss_packet_settled κs a x y s t p q = only_outcome p q
