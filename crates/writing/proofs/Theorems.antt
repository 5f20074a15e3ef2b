-- What holds of `write_ds2_sp` for every header, every list of packets and all lent memory, beyond its contract or drawn from it. Each
-- statement stands under a sentence that says it. Assumes nothing.
use Prim.Native.Nat.{ℕ, ◌+◌, ◌*◌, ◌/◌, ◌%◌, ◌≤◌, ◌<◌}
use mathlib.Core.Path.{◌≡◌, refl, sym, ap, ◌∙◌, subst}
use mathlib.Core.List.{List}
use mathlib.Core.Bool.{true, false}
use native.Mathlib.Omega.{arith}
use borrow.Author.Tests.{eqb-true, leb-true}
use lib.ListN.{length, get_or, take, drop, length-drop}
use lib.Seq.{length-take-le, get_or-take, get_or-drop, ext_get_or}
use lib.Dec.{leb, eqb}
use Rattle.tables.specs.Settled.{SettledAs}
use Rattle.tables.specs.Table.{table}
use Rattle.tables.specs.Lent.{over}
use Rattle.tables.proofs.Table.{same_table, is_table}
use Rattle.tables.proofs.Lent.{leaves_at, over_long, over_in, over_past}
use Rattle.blocks.specs.Places.{limit, whole_blocks}
use Rattle.magic.specs.declared.Magic.TheVariants.{Ds2}
use Rattle.magic.specs.Magics.{magic_of}
use Rattle.detect.specs.Kinds.{format_type}
use Rattle.refusals.specs.declared.Numbers.{Numbers}
use Rattle.refusals.specs.Said.{Said, answers, refusal, result_says}
use Rattle.refusals.proofs.Said.{for_the_answer, passed}
use Rattle.packets.specs.Packet.{read_size}
use Rattle.packets.specs.Walk.{parity}
use Rattle.sp.specs.Readings.{Reading, total, packet_at, joined_byte_at, ds2_reading}
use Rattle.sp.specs.Outcome.{room_in, in_room, answered, Demuxes}
use Rattle.sp.specs.Written as Packets
use Rattle.sp.proofs.Theorems.{accepted_writes, room_decides}
use Rattle.laying.specs.Header.{is_header}
use Rattle.laying.specs.Laid.{file_byte, laid_file}
use Rattle.laying.proofs.Files.{file_long, header_at}
use Rattle.laying.proofs.Admitted.{header_is, magic_is}
use Rattle.writing.specs.Laying.{many_in, byte_in, list_laid}
use Rattle.writing.specs.Outcome.{sound_in, size_of, written_size, out_after, Writes}
use Rattle.writing.specs.Writable.{file_size}
use Rattle.writing.specs.ReadBack.{ReadsBack}
use Rattle.writing.specs.Described.{Described}
use Rattle.writing.proofs.Outcome.{sound_each}
use Rattle.writing.proofs.Described.{laid_described}
use Rattle.writing.proofs.ReadBack.{reading_back, total_back, byte_back, swap_back, full_back, type_is, is_read_back}
use Rattle.writing.proofs.write_ds2_sp.Kinds as writes
use Rattle.writing.proofs.write_ds2_sp.Reads as writes_reads
use Rattle.std.specs.Prelude.{Result}
use Rattle.refusals.specs.declared.Refusal.{Refusal}
use Rattle.refusals.proofs.Results.{only_result}

-- what an answer rests on: the header, sound packets and no other bytes, the limit, and the room
pub record Accepted (header packets : List ℕ) (room size : ℕ) : Type 0 where
  pub supplied : is_header header ≡ true
  pub all : 42 * sound_in packets ≡ length packets
  pub small : size_of packets ≤ limit
  pub fits : size_of packets ≤ room
  pub size_is : size ≡ size_of packets

pub accepted : (header packets : List ℕ) (room size : ℕ) → written_size header packets room ≡ answers size → Accepted header packets room size
unfolding written_size
accepted header packets room size e =
    let one = passed (is_header header) 15 0 _ e in
    let two = passed (eqb (42 * sound_in packets) (length packets)) 16 (sound_in packets) _ one.1 in
    let three = passed (leb (size_of packets) limit) 17 limit _ two.1 in
    let four = passed (leb (size_of packets) room) 8 (size_of packets) _ three.1 in
    record {
      supplied = one.0;
      all = eqb-true (42 * sound_in packets) (length packets) two.0;
      small = leb-true (size_of packets) limit three.0;
      fits = leb-true (size_of packets) room four.0;
      size_is = let same : size_of packets ≡ size = cc four.1 in sym same;
    }

-- The longest list has 6,470,444 packets, and its file exactly as many bytes as the limit: no list that is as long or shorter has more, and
-- every list of a packet more has.
pub longest_list : (packets : List ℕ) → (length packets ≤ 42 * 6470444 → file_size packets ≤ limit)
    × (length packets ≡ 42 * 6470444 → file_size packets ≡ limit) × (42 * 6470445 ≤ length packets → limit < file_size packets)
longest_list packets = (λ few. omega arith, λ most. omega arith, λ over. omega arith)

module _ (header packets out out' : List ℕ) (answer : Result ℕ Refusal) (w : Writes header packets out out' answer) where
  -- A refused call changes nothing.
  pub refused_changes_nothing : (why : Numbers) → result_says answer ≡ refusal why → out' ≡ out
  refused_changes_nothing why e =
      w.out_is ∙ ap (λ (said : Said ℕ). out_after said header packets out) (sym w.answer_is ∙ e)

  module _ (size : ℕ) (e : result_says answer ≡ answers size) where
    said : Accepted header packets (length out) size
    said = accepted header packets (length out) size (sym w.answer_is ∙ e)

    left : out' ≡ over size (file_byte header (list_laid packets)) out
    left = w.out_is ∙ ap (λ (x : Said ℕ). out_after x header packets out) (sym w.answer_is ∙ e)

    -- The bytes that an answered call has written are the file laid out from header and packets, and no other byte is changed.
    pub written_is : (take size out' ≡ laid_file header (list_laid packets)) × (length out' ≡ length out)
        × ((i : ℕ) → size ≤ i → i < length out → get_or out' i 0 ≡ get_or out i 0)
    unfolding laid_file
    written_is = (
      ap (take size) left ∙ front,
      ap length left ∙ over_long size (file_byte header (list_laid packets)) out,
      λ i past h. ap (λ (l : List ℕ). get_or l i 0) left ∙ over_past size (file_byte header (list_laid packets)) out i past h,
    )
      where
        fits : size ≤ length (over size (file_byte header (list_laid packets)) out)
        fits = omega (arith, said.fits, said.size_is, over_long size (file_byte header (list_laid packets)) out)

        front : take size (over size (file_byte header (list_laid packets)) out) ≡ laid_file header (list_laid packets)
        front =
            is_table (size_of packets) (file_byte header (list_laid packets)) (take size (over size (file_byte header (list_laid packets)) out))
            (length-take-le size (over size (file_byte header (list_laid packets)) out) fits ∙ said.size_is)
            (λ i h.
            let inside : i < size = omega (arith, said.size_is) in
            get_or-take size (over size (file_byte header (list_laid packets)) out) i 0 inside
            ∙ over_in size (file_byte header (list_laid packets)) out i inside (omega (arith, said.fits, said.size_is)))

    -- It has DS2's magic and a first byte other than 7, it is of type 0, and no byte lies past its last whole block.
    pub written_is_sp : (magic_of (take size out') ≡ Ds2) × (get_or (take size out') 0 0 < 7) × (format_type (take size out') 1536 ≡ 0)
        × (length (take size out') ≡ 1536 + 512 * whole_blocks (length (take size out')) 1536)
    written_is_sp =
        let good = header_is header said.supplied in
        rw written_is.0 (
          magic_is header (list_laid packets) good said.small,
          omega (arith, header_at header (list_laid packets) 0 (omega arith), good.fixed),
          type_is header (many_in packets) (byte_in packets) good said.small,
          omega (arith, file_long header (list_laid packets)),
        )

    -- It begins with the header, as it was supplied.
    pub written_begins : take 1536 (take size out') ≡ header
    written_begins =
        let good = header_is header said.supplied in
        let long = length-take-le 1536 (laid_file header (list_laid packets)) (omega (arith, file_long header (list_laid packets))) in
        ap (take 1536) written_is.0
        ∙ ext_get_or 0 (take 1536 (laid_file header (list_laid packets))) header (long ∙ sym good.long)
        (λ i h.
        let inside : i < 1536 = omega (arith, long) in
        get_or-take 1536 (laid_file header (list_laid packets)) i 0 inside ∙ header_at header (list_laid packets) i inside)

    abbrev n : ℕ
    n = many_in packets

    zeros : (k : ℕ) → k < many_in packets → byte_in packets k 40 ≡ 0
    zeros k h = sound_each packets k (omega (arith, said.all))

    reads : ds2_reading (take size out') ≡ answers (reading_back header n (byte_in packets))
    reads = ap ds2_reading written_is.0 ∙ is_read_back header n (byte_in packets) (header_is header said.supplied) said.small

    -- The file is read whole as DS2 SP, and the reading has the packets of the list, in the same number and order, each with all the bytes of
    -- its read.
    pub written_reads_back : (r : Reading) × ReadsBack packets (take size out') r
    written_reads_back = (
      reading_back header n (byte_in packets),
      record {
        is_read = reads;
        many = total_back header n (byte_in packets);
        same = λ k h. same k (omega (arith, total_back header n (byte_in packets)));
        joined = joined;
        swapped = λ k h. swap_back header n (byte_in packets) zeros k (omega (arith, total_back header n (byte_in packets)));
        full = λ k h. full_back header n (byte_in packets) zeros k (omega (arith, total_back header n (byte_in packets)));
      },
    )
      where
        part : (k : ℕ) → k < n → table 42 (byte_in packets k) ≡ take 42 (drop (42 * k) packets)
        part k h =
            sym
            (is_table 42 (byte_in packets k) (take 42 (drop (42 * k) packets))
            (length-take-le 42 (drop (42 * k) packets) (omega (arith, length-drop (42 * k) packets)))
            (λ i l. get_or-take 42 (drop (42 * k) packets) i 0 l ∙ get_or-drop (42 * k) packets i 0))

        same : (k : ℕ) → k < n → packet_at (reading_back header n (byte_in packets)) k ≡ take 42 (drop (42 * k) packets)
        same k h = same_table 42 _ (byte_in packets k) (λ i l. byte_back header n (byte_in packets) zeros k h i l) ∙ part k h

        joined : table (42 * total (reading_back header n (byte_in packets))) (joined_byte_at (reading_back header n (byte_in packets))) ≡ packets
        joined =
            sym
            (is_table (42 * total (reading_back header n (byte_in packets))) (joined_byte_at (reading_back header n (byte_in packets))) packets
            (omega (arith, said.all, total_back header n (byte_in packets)))
            (λ j h.
            let here : 42 * (j / 42) + j % 42 ≡ j = omega arith in
            ap (λ (i : ℕ). get_or packets i 0) (sym here)
            ∙ sym (byte_back header n (byte_in packets) zeros (j / 42) (omega (arith, total_back header n (byte_in packets))) (j % 42) (omega arith))))

    -- And the file is as the rules describe it, in its reading's own words: packets are counted in the block that they begin in, a block's header
    -- tells where and how the first of them is read, and zeros lie behind the last.
    pub written_is_described : (r : Reading) → ds2_reading (take size out') ≡ answers r → Described (take size out') r
    written_is_described r is =
        for_the_answer (λ x. Described (take size out') x) (sym reads ∙ is)
        (subst (λ (file : List ℕ). Described file (reading_back header n (byte_in packets))) (sym written_is.0) (laid_described header n (byte_in packets) zeros))

    -- So the call that reads it whole, with room for the packets, answers with their number, puts the list over the front of its output, and
    -- their full counts into its table.
    pub written_demuxes : {o o' counts counts' : List ℕ} {read : Result ℕ Refusal} → Demuxes (ds2_reading (take size out')) o o' counts counts' read
        → n ≤ room_in o counts
        → (result_says read ≡ answers n) × (take (length packets) o' ≡ packets) × ((k : ℕ) → k < n → get_or counts' k 0 ≡ read_size (parity false k))
    written_demuxes {o} {o'} {counts} {counts'} {read} d room = (
      answered_all,
      front,
      λ k h. leaves_at stands.counts_are k (omega (arith, back.many)) ∙ back.full k (omega (arith, back.many)),
    )
      where
        r : Reading
        r = written_reads_back.0

        back : ReadsBack packets (take size out') written_reads_back.0
        back = written_reads_back.1

        answered_all : result_says read ≡ answers n
        answered_all =
            d.answer_is
            ∙ ap (λ (x : Said Reading). answered (in_room x (room_in o counts))) back.is_read
            ∙ (room_decides written_reads_back.0 (room_in o counts)).0 (omega (arith, back.many))
            ∙ ap answers back.many

        stands : Packets.Written written_reads_back.0 o o' counts counts'
        stands =
            let w = accepted_writes (ds2_reading (take size out')) o o' counts counts' read d n answered_all in
            for_the_answer (λ x. Packets.Written x o o' counts counts') (sym w.1 ∙ back.is_read) w.3

        front : take (length packets) o' ≡ packets
        front =
            let long : length packets ≡ 42 * total written_reads_back.0 = omega (arith, said.all, back.many) in
            is_table (42 * total written_reads_back.0) (joined_byte_at written_reads_back.0) (take (length packets) o')
            (length-take-le (length packets) o' (omega (arith, stands.packets_are.long, long, back.many, room)) ∙ long)
            (λ j h. get_or-take (length packets) o' j 0 (omega (arith, long)) ∙ leaves_at stands.packets_are j h)
            ∙ back.joined

pub only_outcome : {header packets out out₁ out₂ : List ℕ} {one other : Result ℕ Refusal} → Writes header packets out out₁ one
    → Writes header packets out out₂ other → ◌≡◌ {A = Result ℕ Refusal × List ℕ} (one, out₁) (other, out₂)
only_outcome {one = one} {other = other} p q =
    let answer : one ≡ other = only_result one other _ p.answer_is q.answer_is in
    let lent = p.out_is ∙ sym q.out_is in
    (λ i. (answer i, lent i))

-- The contract settles answer and output: of two outcomes that it allows for the same header, packets and output, both are the same. So
-- what is written is determined by header and packets.
pub write_ds2_sp_settled : SettledAs 3 writes.ps writes.r (λ κs. Result ℕ Refusal × List ℕ) (λ κs x s. (x, s.1.1.0.now)) writes_reads.Post
write_ds2_sp_settled κs a x y s t p q = only_outcome p q

-- And header and packets are determined by what is written: of two answered calls that write the same file, both are the same.
pub same_file_same_packets : (header header₁ packets packets₁ out out₁ out' out₁' : List ℕ) (answer answer₁ : Result ℕ Refusal) (size size₁ : ℕ)
    → Writes header packets out out' answer → Writes header₁ packets₁ out₁ out₁' answer₁ → result_says answer ≡ answers size
    → result_says answer₁ ≡ answers size₁ → take size out' ≡ take size₁ out₁' → (header ≡ header₁) × (packets ≡ packets₁)
same_file_same_packets header header₁ packets packets₁ out out₁ out' out₁' answer answer₁ size size₁ w w₁ e e₁ same =
    (headers, lists)
  where
    one : ReadsBack packets (take size out') (written_reads_back header packets out out' answer w size e).0
    one = (written_reads_back header packets out out' answer w size e).1

    other : ReadsBack packets₁ (take size₁ out₁') (written_reads_back header₁ packets₁ out₁ out₁' answer₁ w₁ size₁ e₁).0
    other = (written_reads_back header₁ packets₁ out₁ out₁' answer₁ w₁ size₁ e₁).1

    lists : packets ≡ packets₁
    lists =
        sym one.joined
        ∙ for_the_answer (λ (r : Reading). table (42 * total (written_reads_back header packets out out' answer w size e).0) (joined_byte_at (written_reads_back header packets out out' answer w size e).0) ≡ table (42 * total r) (joined_byte_at r))
        (sym one.is_read ∙ ap ds2_reading same ∙ other.is_read) refl
        ∙ other.joined

    headers : header ≡ header₁
    headers =
        sym (written_begins header packets out out' answer w size e)
        ∙ ap (take 1536) same
        ∙ written_begins header₁ packets₁ out₁ out₁' answer₁ w₁ size₁ e₁
