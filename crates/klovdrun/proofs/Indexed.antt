-- What a host has that keeps an index beside a recording: its bytes when it was built, which read back and are the only ones that do, the entry for a
-- packet, and the packet, which is the whole reading's. Assumes nothing.
use Prim.Native.Nat.{ℕ, ◌<◌}
use mathlib.Core.Path.{◌≡◌, sym, ap, ◌∙◌, subst}
use mathlib.Core.List.{List}
use mathlib.Core.Bool.{true, false}
use lib.ListN.{length, get_or, take}
use Rattle.tables.specs.Lent.{Leaves}
use Rattle.blocks.specs.Headers.{Bytes}
use Rattle.refusals.specs.Said.{Said, answers, result_says}
use Rattle.refusals.proofs.Said.{went_on}
use Rattle.whole.specs.declared.Recording.{Recording}
use Rattle.whole.specs.Admissions.{admission}
use Rattle.sp.specs.Readings.{Reading, total, packet_at, file_count_at, dss_reading}
use Rattle.sp.specs.Outcome.{room_in}
use Rattle.entries.specs.Entries.{entry_by, Contents}
use Rattle.entries.specs.Index.{index_of}
use Rattle.index.specs.Reading.{contents_of, index_read}
use Rattle.index.specs.Outcome.{totals_of, totalled}
use Rattle.index.proofs.Theorems.{built_is, its_index_is_read, read_is_built, every_reading_has_one}
use Rattle.finding.specs.Finding.{entry_found}
use Rattle.finding.specs.Packet.{packet_found}
use Rattle.finding.specs.Agreement.{HasPacket, said_by}
use Rattle.finding.proofs.Theorems.{entry_has_the_packet, packet_said, packet_handed}
use Rattle.numbers.specs.declared.Answer.{Answer}
use Rattle.numbers.specs.declared.Entry.{Entry as Shown}
use Rattle.numbers.specs.Numbers.{read_numbers, entry_numbers}
use Rattle.klovdrun.specs.Wrapped.{SpCarries, BuildCarries, Tells}
use Rattle.klovdrun.specs.Refusals.{indexed_refusals}
use Rattle.klovdrun.proofs.Theorems.{build_tells, klov_read_index_tells, klov_find_entry_tells, indexed_tells}

module _ (f : List ℕ) where
  -- a host's call of `klov_build_index` that answered
  module _ {out out' : List ℕ} {r : Answer} (c : BuildCarries (contents_of f) out out' r) (answered : r.refusal ≡ 0) where
    -- The first bytes of the output, as many as first says, are the file's index, and second is how many entries it has.
    pub told_built : (contents : Contents) × (contents_of f ≡ answers contents) × (take r.first out' ≡ index_of contents)
        × (r.second ≡ length contents.entries)
    told_built =
        let t = (build_tells f c).zero answered in
        let says : result_says c.answer ≡ answers t.0 = c.comes.answer_is ∙ t.1 in
        let w = built_is f out out' c.answer c.comes t.0 says in
        (w.0, w.1, ap (λ (n : ℕ). take n out') t.3 ∙ w.2, t.4 ∙ w.3)

    -- `klov_read_index` takes them for the file, and tells as many entries, and as many packets as the whole reading has.
    pub told_reads_back : {told : Answer} → told ≡ read_numbers (totalled (index_read f (take r.first out')))
        → (told.refusal ≡ 0) × (told.first ≡ r.second) × ((reading : Reading) → dss_reading f ≡ answers reading → told.second ≡ total reading)
    told_reads_back {told} e =
        let w = told_built in
        let read : index_read f (take r.first out') ≡ answers w.0 = ap (index_read f) w.2 ∙ its_index_is_read f w.0 w.1 in
        let is : told ≡ read_numbers (totalled (answers w.0)) = e ∙ ap (λ (said : Said Contents). read_numbers (totalled said)) read in (
          ap (λ (x : Answer). x.refusal) is,
          ap (λ (x : Answer). x.first) is ∙ sym w.3,
          λ reading all.
              let v = every_reading_has_one f reading all in
              ap (λ (x : Answer). x.second) is ∙ ap (λ (d : Contents). d.total) (same w.0 v.0 (sym w.1 ∙ v.1)) ∙ v.2,
        )
      where
        same : (x y : Contents) → answers x ≡ answers y → x ≡ y
        same x y e = cc

    -- And it takes no other bytes for the file.
    pub told_only_one : (x : List ℕ) → Bytes x → {told : Answer} → told ≡ read_numbers (totalled (index_read f x)) → told.refusal ≡ 0
        → x ≡ take r.first out'
    told_only_one x bytes {told} e none =
        let t = (build_tells f c).zero answered in
        let u = (klov_read_index_tells f x e).zero none in
        let w = went_on (index_read f x) (λ d. answers (totals_of d)) u.1 in
        read_is_built f out out' c.answer c.comes t.0 (c.comes.answer_is ∙ t.1) x w.0 bytes w.1
        ∙ ap (λ (n : ℕ). take n out') (sym t.3)

  module _ (x : List ℕ) (p : ℕ) where
    -- An entry that `klov_find_entry` shows is that of the block which has the packet.
    pub told_entry : {r : Shown} → r ≡ entry_numbers (entry_found f x p) → r.refusal ≡ 0
        → (rec : Recording) × (admission f true false ≡ answers rec) × HasPacket f rec p (entry_by r.number r.first r.place)
    told_entry {r} e none =
        let t = (klov_find_entry_tells f x p e).zero none in
        let w = entry_has_the_packet f x p t.0 t.1 in
        let is : r ≡ entry_numbers (answers t.0) = e ∙ ap entry_numbers t.1 in
        (w.0, w.1, subst (λ (y : Shown). HasPacket f w.0 p (entry_by y.number y.first y.place)) (sym is) w.2)

    -- a host's call of `klov_dss_packet`
    module _ {out out' counts counts' : List ℕ} {r : Answer} (c : SpCarries (packet_found f x p) out out' counts counts' r) where
      -- Its numbers tell what reading the index is refused by, 18 with the total, 8 with 1, or one packet.
      pub told_by_index : Tells indexed_refusals (λ n. n) (λ n. 0) 0 (said_by (index_read f x) p (room_in out counts)) r
      told_by_index =
          subst (λ (said : Said ℕ). Tells indexed_refusals (λ n. n) (λ n. 0) 0 said r)
          (sym c.comes.answer_is ∙ packet_said f x p out out' counts counts' c.answer c.comes) (indexed_tells f x p c)

      -- With refusal 0, first is 1, the packet of that number of the whole reading is in front of the output, and its count in front of the table.
      pub told_packet_by_index : r.refusal ≡ 0
          → (reading : Reading) × (dss_reading f ≡ answers reading) × (p < total reading) × (r.first ≡ 1)
          × Leaves out 0 42 (λ i. get_or (packet_at reading p) i 0) out' × Leaves counts 0 1 (λ i. file_count_at reading p) counts'
      told_packet_by_index none =
          let told = (indexed_tells f x p c).zero none in
          let says : result_says c.answer ≡ answers r.first = c.comes.answer_is ∙ told.1 ∙ ap answers (sym told.3) in
          packet_handed f x p out out' counts counts' c.answer c.comes r.first says
