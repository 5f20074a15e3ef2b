-- What is carried to a block, block by block, and to a packet in it; and the packet by its entry, which is the whole reading's.
-- Assumes nothing.
use Prim.Native.Nat.{ℕ, ◌+◌, ◌*◌, ◌-◌, ◌≤◌, ◌<◌, ◌^◌}
use mathlib.Core.Path.{◌≡◌, refl, sym, ap, ◌∙◌, subst}
use mathlib.Core.List.{List, [], ◌∷◌}
use mathlib.Core.Bool.{Bool, true}
use native.Mathlib.Omega.{arith}
use borrow.Author.Tests.{leb-true}
use lib.Dec.{leb}
use Rattle.tables.specs.Table.{table}
use Rattle.tables.proofs.Cases.{by_order}
use Rattle.blocks.specs.Places.{block_at}
use Rattle.blocks.specs.Headers.{Bytes, swap_of, first_of, count_of, announced_in}
use Rattle.blocks.proofs.Headers.{announced_more, announced_upto}
use Rattle.whole.specs.declared.Recording.{Recording}
use Rattle.whole.specs.Admissions.{stream_in}
use Rattle.packets.specs.Walk.{Walk, steps, byte_of, count_at, reach, parity}
use Rattle.packets.specs.Inner.{upto_unswapped}
use Rattle.packets.proofs.Walk.{steps_none, steps_place, steps_swap}
use Rattle.packets.proofs.Start.{start_most}
use Rattle.packets.proofs.Unswapped.{carries}
use Rattle.sp.specs.declared.Run.{Run}
use Rattle.sp.specs.Runs.{run_begin, run_end, carry_past}
use Rattle.sp.specs.ReadLists.{dss_run, dss_runs}
use Rattle.sp.specs.Readings.{total, walk_at, reading_of}
use Rattle.sp.specs.Written.{Written}
use Rattle.sp.specs.Outcome.{room_in}
use Rattle.sp.specs.Inner.{RunWritten, Readable}
use Rattle.sp.proofs.Runs.{carry_none, carry_joined, carry_one, packets_none, packets_of, stands_first}
use Rattle.sp.proofs.ReadLists.{runs_none, runs_more, runs_same, dss_packets, dss_stands}
use Rattle.sp.proofs.Written.{written_one}
use Rattle.at_once.specs.Agreement.{OnePacket}
use Rattle.entries.specs.declared.Entry.{Entry}
use Rattle.finding.specs.Packet.{carried_into, begins_by, stands_by, alone, by_entry}
use Rattle.finding.specs.Agreement.{HasPacket}
use Rattle.finding.specs.Inner.{Ready}

module _ (f : List ℕ) (rec : Recording) where
  abbrev s : ℕ → ℕ
  s = stream_in f rec

  abbrev a : ℕ
  a = rec.start.0

  -- nothing is carried into the first block, and into the next what the reads of a block leave
  pub into_none : carried_into f rec 0 ≡ 0
  into_none = ap (carry_past s 0) (runs_none f a) ∙ carry_none s 0

  into_next : (b : ℕ) → carried_into f rec (b + 1) ≡ (run_end s (carried_into f rec b) (dss_run f a b)).carry
  into_next b =
      by_order 0 (count_of f a b)
      (λ some.
      ap (carry_past s 0) (runs_more f a b some)
      ∙ carry_joined s 0 (dss_runs f a b) (dss_run f a b ∷ [])
      ∙ carry_one s (carried_into f rec b) (dss_run f a b))
      (λ silent.
      let none : count_of f a b ≡ 0 = omega arith in
      let w = run_begin (carried_into f rec b) (dss_run f a b) in
      ap (carry_past s 0) (runs_same f a b silent)
      ∙ sym (ap (λ (k : ℕ). (steps s w k).carry) none ∙ ap (λ (v : Walk). v.carry) (steps_none s w)))

  -- by the tests of the code: past so many reads of a block, up to the last unswapped one
  module _ (b k reads : ℕ) (run : Run) (is : run ≡ dss_run f a b) (upto : reads ≡ upto_unswapped run.swap k) where
    abbrev begin : Walk
    begin = run_begin (carried_into f rec b) (dss_run f a b)

    same_upto : reads ≡ upto_unswapped begin.swap k
    same_upto = upto ∙ ap (λ (r : Run). upto_unswapped r.swap k) is

    pub past_last : {x : ℕ} → 0 < reads → x ≡ s (run.start.0 + reach run.swap reads - 2) → x ≡ (steps s begin k).carry
    past_last some e =
        let w = subst (λ (u : ℕ). (u ≡ 0 → ⊥) → (steps s begin k).carry ≡ s (begin.place + reach begin.swap u - 2)) (sym same_upto) (carries s begin k).last in
        e ∙ ap (λ (r : Run). s (r.start.0 + reach r.swap reads - 2)) is ∙ sym (w (λ none. omega arith))

    pub past_none : reads ≤ 0 → carried_into f rec b ≡ (steps s begin k).carry
    past_none none =
        let zero : upto_unswapped begin.swap k ≡ 0 = sym same_upto ∙ omega arith in
        sym ((carries s begin k).kept zero)

  -- so what is carried to the block after it is told by all its reads
  module _ (b reads : ℕ) (run : Run) (is : run ≡ dss_run f a b) (upto : reads ≡ upto_unswapped run.swap run.count) where
    of_all : reads ≡ upto_unswapped run.swap (count_of f a b)
    of_all = upto ∙ ap (λ (r : Run). upto_unswapped run.swap r.count) is

    pub into_last : {x : ℕ} → 0 < reads → x ≡ s (run.start.0 + reach run.swap reads - 2) → x ≡ carried_into f rec (b + 1)
    into_last some e = past_last b (count_of f a b) reads run is of_all some e ∙ sym (into_next b)

    pub into_kept : reads ≤ 0 → carried_into f rec b ≡ carried_into f rec (b + 1)
    into_kept none = past_none b (count_of f a b) reads run is of_all none ∙ sym (into_next b)

  -- the start of a run is near
  pub near_run : (b : ℕ) (run : Run) → run ≡ dss_run f a b → b ≤ 2 ^ 32 → run.start.0 ≤ 2 ^ 48
  near_run b run is few = omega (arith, ap (λ (r : Run). r.start.0) is, start_most b (first_of f a b) (swap_of f a b))

  -- one read by itself
  module _ (w : Walk) where
    pub alone_total : total (alone f rec w) ≡ 1
    alone_total = packets_of _ [] ∙ omega (arith, packets_none)

    alone_stands : walk_at (alone f rec w) 0 ≡ w
    alone_stands = stands_first s w.carry _ [] 0 (omega arith) ∙ steps_none s w

    pub alone_written : (out out' counts counts' : List ℕ) {after : ℕ} (v : Walk) → v ≡ w
        → RunWritten s (506 * rec.blocks) v 0 1 out out' counts counts' after → Written (alone f rec w) out out' counts counts'
    alone_written out out' counts counts' {after} v is r =
        written_one s (506 * rec.blocks) _ out out' counts counts' (record { start = record { 0 = w.place }; swap = w.swap; count = 1 }) _ after refl
        (subst (λ (u : Walk). RunWritten s (506 * rec.blocks) u 0 1 out out' counts counts' after) is r)

  module _ (p : ℕ) (entry : Entry) (h : HasPacket f rec p entry) where
    -- the block's reads begin where the entry says
    begins : run_begin (carried_into f rec entry.number) (dss_run f a entry.number) ≡ begins_by f rec entry
    begins = cc (ap (λ (e : Entry). e.place) h.is)

    -- by its entry a packet is read where the whole reading reads it
    pub stands_there : walk_at (reading_of f rec dss_runs) p ≡ stands_by f rec entry p
    stands_there =
        let b = entry.number in
        let first : entry.first ≡ announced_in f a b = ap (λ (e : Entry). e.first) h.is in
        let number : p ≡ announced_in f a b + (p - entry.first) = omega (arith, first, h.from) in
        ap (walk_at (reading_of f rec dss_runs)) number
        ∙ dss_stands s f a rec.blocks b (p - entry.first) h.there (omega (arith, first, h.from, h.below))
        ∙ ap (λ (w : Walk). steps s w (p - entry.first)) begins

    -- and by what the code works out
    pub worked_out : {k place carry : ℕ} {flag swap : Bool} → k ≡ p - entry.first → flag ≡ swap_of f a entry.number → place ≡ entry.place.0 + reach flag k
        → swap ≡ parity flag k → carry ≡ (steps s (run_begin (carried_into f rec entry.number) (dss_run f a entry.number)) k).carry
        → ◌≡◌ {A = Walk} (record { place = place; carry = carry; swap = swap }) (stands_by f rec entry p)
    worked_out {k} {place} {carry} {flag} {swap} number is at by with =
        let w = begins_by f rec entry in
        let there : place ≡ (steps s w k).place = at ∙ ap (λ (x : Bool). entry.place.0 + reach x k) is ∙ sym (steps_place s w k) in
        let parity_is : swap ≡ (steps s w k).swap = by ∙ ap (λ (x : Bool). parity x k) is ∙ sym (steps_swap s w k) in
        let carried : carry ≡ (steps s w k).carry = with ∙ ap (λ (v : Walk). (steps s v k).carry) begins in
        let fields : ◌≡◌ {A = Walk} (record { place = place; carry = carry; swap = swap }) (steps s w k) = by_fields place carry swap (steps s w k) there carried parity_is in
        fields ∙ ap (steps s w) number
      where
        by_fields : (place carry : ℕ) (swap : Bool) (v : Walk) → place ≡ v.place → carry ≡ v.carry → swap ≡ v.swap
            → ◌≡◌ {A = Walk} (record { place = place; carry = carry; swap = swap }) v
        by_fields place carry swap v p q r =
            let same : ◌≡◌ {A = Walk} (record { place = place; carry = carry; swap = swap }) (record { place = v.place; carry = v.carry; swap = v.swap }) = cc (p, q, r) in
            same

-- so it is the whole reading's packet
pub is_one_packet : (f : List ℕ) (rec : Recording) (p : ℕ) (entry : Entry) → HasPacket f rec p entry
    → OnePacket (by_entry f rec p entry) (reading_of f rec dss_runs) p
is_one_packet f rec p entry h =
    let s = stream_in f rec in
    let a = rec.start.0 in
    let b = entry.number in
    let w = stands_by f rec entry p in
    let same : walk_at (by_entry f rec p entry) 0 ≡ walk_at (reading_of f rec dss_runs) p = alone_stands f rec w ∙ sym (stands_there f rec p entry h) in
    record {
      alone = alone_total f rec w;
      there =
          omega (
            arith,
            dss_packets f a rec.blocks,
            ap (λ (e : Entry). e.first) h.is,
            h.below,
            announced_more f a b,
            announced_upto f a (b + 1) rec.blocks (omega (arith, h.there)),
          );
      bytes = ap (λ (v : Walk). table 42 (byte_of s v)) same;
      count = ap (count_at (506 * rec.blocks)) same;
    }

-- what is asked before the packet is handed out
pub is_ready : (f : List ℕ) (rec : Recording) (entry : Entry) (p : ℕ) (out counts : List ℕ) → Readable f rec → HasPacket f rec p entry → Bytes f
    → leb 1 (room_in out counts) ≡ true → Ready f rec entry p out counts
is_ready f rec entry p out counts readable has bytes fits =
    let a = rec.start.0 in
    let b = entry.number in
    let room : 1 ≤ room_in out counts = leb-true 1 (room_in out counts) fits in
    record {
      readable = readable;
      has = has;
      near =
          omega (
            arith,
            ap (λ (e : Entry). e.place.0) has.is,
            start_most b (first_of f a b) (swap_of f a b),
            has.there,
            readable.blocks_few,
          );
      few = omega (arith, has.from, has.below, bytes (block_at a b + 2));
      out_room = omega arith;
      counts_room = omega arith;
    }
