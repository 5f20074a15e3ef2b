-- What stands in the lent buffers, packet by packet in a run and run by run in a reading.
-- Assumes nothing.
use Prim.Native.Nat.{ℕ, ◌+◌, ◌*◌, ◌/◌, ◌%◌, ◌≤◌, ◌<◌}
use mathlib.Core.Path.{◌≡◌, refl, sym, ap, ◌∙◌, subst}
use mathlib.Core.List.{List, [], ◌∷◌, ◌++◌}
use mathlib.Core.Bool.{Bool, not}
use native.Mathlib.Numerals.{add-one}
use native.Mathlib.Omega.{arith}
use lib.ListN.{get_or}
use Rattle.blocks.specs.declared.StreamPlace.{StreamPlace}
use Rattle.tables.specs.Lent.{Leaves}
use Rattle.tables.proofs.Table.{table_at}
use Rattle.tables.proofs.Lent.{leaves_none, leaves_join, leaves_as, leaves_to}
use Rattle.packets.specs.declared.Packet.{Packet}
use Rattle.packets.specs.Packet.{read_size, packet_byte, from, IsPacket}
use Rattle.packets.specs.Walk.{Walk, step, steps, byte_of, count_at, reach, parity}
use Rattle.packets.specs.Inner.{joined_at}
use Rattle.packets.proofs.Walk.{steps_none, steps_more, steps_place, steps_swap, joined_is, joined_in, parity_flips, reach_none, reach_more}
use Rattle.sp.specs.declared.Run.{Run}
use Rattle.sp.specs.Runs.{run_begin, packets_in, stands_at, carry_past}
use Rattle.sp.specs.Readings.{Reading, total, joined_byte_at, file_count_at}
use Rattle.sp.specs.Written.{Written}
use Rattle.sp.specs.Inner.{place_of, MayRead, EachRead, Goes, RunWritten}
use Rattle.sp.proofs.Runs.{packets_none, packets_of, packets_joined, carry_none, stands_before, stands_after, stands_first}

module _ (s : ℕ → ℕ) (long : ℕ) (w : Walk) (base : ℕ) (out counts : List ℕ) where
  run_none : RunWritten s long w base 0 out out counts counts w.carry
  run_none =
      record {
        packets_are = leaves_to (omega arith) (leaves_none out (42 * base) (joined_at s w));
        counts_are = leaves_none counts base (λ k. count_at long (steps s w k));
        carry_is = ap (λ (v : Walk). v.carry) (sym (steps_none s w));
      }

  -- one packet more, which was put under the next number
  run_more : (n : ℕ) (out₁ out₂ counts₁ counts₂ : List ℕ) (carry : ℕ) (v : Walk) (p : Packet) → v ≡ steps s w n
      → RunWritten s long w base n out out₁ counts counts₁ carry
      → IsPacket s long v.swap v.carry v.place p
      → Leaves out₁ (42 * (base + n)) 42 (λ i. get_or p.bytes i 0) out₂
      → Leaves counts₁ (base + n) 1 (λ i. p.count) counts₂
      → RunWritten s long w base (n + 1) out out₂ counts counts₂ p.carry
  run_more n out₁ out₂ counts₁ counts₂ carry v p stands r is bytes count =
      record {
        packets_are =
            leaves_to (omega arith)
            (leaves_join out (42 * base) (42 * n) 42 (joined_at s w) (λ i. get_or p.bytes i 0) out₁ out₂ r.packets_are
            (subst (λ (at : ℕ). Leaves out₁ at 42 (λ i. get_or p.bytes i 0) out₂) place bytes)
            due);
        counts_are =
            leaves_join counts base n 1 (λ k. count_at long (steps s w k)) (λ i. p.count) counts₁ counts₂ r.counts_are count counted;
        carry_is = is.carry_is ∙ ap (λ (u : Walk). (step s u).carry) stands ∙ ap (λ (u : Walk). u.carry) (sym (steps_more s w n));
      }
    where
      place : 42 * (base + n) ≡ 42 * base + 42 * n
      place = omega arith

      due : (i : ℕ) → i < 42 → get_or p.bytes i 0 ≡ joined_at s w (42 * n + i)
      due i h =
          ap (λ (l : List ℕ). get_or l i 0) is.bytes_are
          ∙ table_at 42 (packet_byte v.swap v.carry (from s v.place)) i h
          ∙ ap (λ (u : Walk). byte_of s u i) stands
          ∙ joined_in s w n i h

      counted : (i : ℕ) → i < 1 → p.count ≡ count_at long (steps s w (n + i))
      counted i h =
          let number : n ≡ n + i = omega arith in
          is.count_is ∙ ap (count_at long) stands ∙ ap (λ (k : ℕ). count_at long (steps s w k)) number

-- a run that is handed out packet by packet, of whose packets all is known by `Gives`
module _ (Gives : StreamPlace → Bool → ℕ → Packet → Type 0) (run : Run) (carry base : ℕ) (out counts : List ℕ) where
  -- after n of them: where the next read begins, and what is written for each stream that the packets are of
  pub record Handing (n : ℕ) (place : StreamPlace) (swap : Bool) (carried : ℕ) (out' counts' : List ℕ) : Type 0 where
    pub place_is : place ≡ place_of run n
    pub swap_is : swap ≡ parity run.swap n
    pub small : carried < 256
    pub written : (s : ℕ → ℕ) (long : ℕ) → EachRead Gives run (IsPacket s long)
        → RunWritten s long (run_begin carry run) base n out out' counts counts' carried

  pub handing_begins : carry < 256 → Handing 0 run.start run.swap carry out counts
  handing_begins small =
      record {
        place_is =
            let start : run.start.0 ≡ run.start.0 + reach run.swap 0 = omega (arith, reach_none run.swap) in
            ap (λ (q : ℕ). record { 0 = q }) start;
        swap_is = refl;
        small = small;
        written = λ s long is. run_none s long (run_begin carry run) base out counts;
      }

  module _ {n : ℕ} {place : StreamPlace} {swap : Bool} {carried : ℕ} {out₁ counts₁ : List ℕ} (h : n < run.count)
      (so : Handing n place swap carried out₁ counts₁) where
    -- what is true of each read of the run is true of the next one
    pub may_read : (pre : StreamPlace → Bool → ℕ → Type 0) → MayRead pre run → pre place swap carried
    may_read pre may = rw (so.place_is, so.swap_is) (may n carried h so.small)

    next_read : (Is : Bool → ℕ → ℕ → Packet → Type 0) → EachRead Gives run Is → (p : Packet) → Gives place swap carried p
        → Is swap carried place.0 p
    next_read Is each p given =
        rw (so.place_is, so.swap_is) (each n carried p h so.small (rw (so.place_is, so.swap_is) at given))

    pub handing_goes_on : (p : Packet) (out₂ counts₂ : List ℕ) → EachRead Gives run Goes → Gives place swap carried p → p.carry < 256
        → Leaves out₁ (42 * (base + n)) 42 (λ i. get_or p.bytes i 0) out₂
        → Leaves counts₁ (base + n) 1 (λ i. p.count) counts₂
        → Handing (n + 1) p.next (not swap) p.carry out₂ counts₂
    handing_goes_on p out₂ counts₂ goes given fits bytes one =
        record {
          place_is = ap (λ (q : ℕ). record { 0 = q }) next;
          swap_is = ap not so.swap_is ∙ sym (parity_flips run.swap n) ∙ ap (parity run.swap) (sym (add-one n));
          small = fits;
          written =
              λ s long is.
              let w = run_begin carry run in
              let r = so.written s long is in
              let stands : record { place = place.0; carry = carried; swap = swap } ≡ steps s w n =
              let place_is : place.0 ≡ (steps s w n).place = ap (λ (q : StreamPlace). q.0) so.place_is ∙ sym (steps_place s w n) in
              rw (place_is, so.swap_is ∙ sym (steps_swap s w n), r.carry_is) in
              run_more s long w base out counts n out₁ out₂ counts₁ counts₂ carried _ p stands r (next_read (IsPacket s long) is p given)
              bytes one;
        }
      where
        next : p.next.0 ≡ run.start.0 + reach run.swap (n + 1)
        next =
            omega (
              arith,
              next_read Goes goes p given,
              ap (λ (q : StreamPlace). q.0) so.place_is,
              ap read_size so.swap_is,
              reach_more run.swap n,
              ap (reach run.swap) (add-one n),
            )

  pub handing_ends : {n : ℕ} {place : StreamPlace} {swap : Bool} {carried : ℕ} {out' counts' : List ℕ} → n ≡ run.count
      → Handing n place swap carried out' counts' → (s : ℕ → ℕ) (long : ℕ) → EachRead Gives run (IsPacket s long)
      → RunWritten s long (run_begin carry run) base run.count out out' counts counts' carried
  handing_ends {n} {place} {swap} {carried} {out'} {counts'} all so s long is =
      subst (λ (m : ℕ). RunWritten s long (run_begin carry run) base m out out' counts counts' carried) all (so.written s long is)

module _ (s : ℕ → ℕ) (long at_first : ℕ) (out counts : List ℕ) where
  abbrev pub by : List Run → Reading
  by runs = record { stream = s; long = long; carry = at_first; runs = runs }

  pub written_none : Written (by []) out out counts counts
  written_none =
      record {
        packets_are = leaves_to (omega (arith, packets_none)) (leaves_none out 0 (joined_byte_at (by [])));
        counts_are = leaves_to (sym packets_none) (leaves_none counts 0 (file_count_at (by [])));
      }

  -- one run more, which goes on with what the others carried
  pub written_more : (runs : List Run) (run : Run) (out₁ out₂ counts₁ counts₂ : List ℕ) (base carry : ℕ) → base ≡ packets_in runs
      → Written (by runs) out out₁ counts counts₁
      → RunWritten s long (run_begin (carry_past s at_first runs) run) base run.count out₁ out₂ counts₁ counts₂ carry
      → Written (by (runs ++ (run ∷ []))) out out₂ counts counts₂
  written_more runs run out₁ out₂ counts₁ counts₂ base carry at so_far r =
      record {
        packets_are =
            leaves_to (omega (arith, all))
            (leaves_join out 0 (42 * base) (42 * run.count) (joined_byte_at (by more)) (joined_at s begin) out₁ out₂
            (leaves_as (joined_byte_at (by more)) earlier (leaves_to (omega (arith, at)) so_far.packets_are))
            (subst (λ (at : ℕ). Leaves out₁ at (42 * run.count) (joined_at s begin) out₂) (omega arith) r.packets_are)
            due);
        counts_are =
            leaves_to (omega (arith, all))
            (leaves_join counts 0 base run.count (file_count_at (by more)) (λ k. count_at long (steps s begin k)) counts₁ counts₂
            (leaves_as (file_count_at (by more)) (λ k h. ap (count_at long) (sym (before k h))) (leaves_to (sym at) so_far.counts_are))
            (subst (λ (at : ℕ). Leaves counts₁ at run.count (λ k. count_at long (steps s begin k)) counts₂) (omega arith) r.counts_are)
            (λ k h. ap (count_at long) (here k h)));
      }
    where
      more : List Run
      more = runs ++ (run ∷ [])

      begin : Walk
      begin = run_begin (carry_past s at_first runs) run

      all : packets_in more ≡ base + run.count
      all = omega (arith, packets_joined runs (run ∷ []), packets_of run [], packets_none)

      before : (k : ℕ) → k < base → stands_at s at_first more k ≡ stands_at s at_first runs k
      before k h = stands_before s at_first runs (run ∷ []) k (omega arith)

      here : (k : ℕ) → k < run.count → steps s begin k ≡ stands_at s at_first more (base + k)
      here k h =
          sym (stands_first s (carry_past s at_first runs) run [] k h)
          ∙ sym (stands_after s at_first runs (run ∷ []) k)
          ∙ ap (λ (m : ℕ). stands_at s at_first more (m + k)) (sym at)

      earlier : (j : ℕ) → j < 42 * base → joined_byte_at (by runs) j ≡ joined_byte_at (by more) j
      earlier j h = ap (λ (u : Walk). byte_of s u (j % 42)) (sym (before (j / 42) (omega arith)))

      due : (j : ℕ) → j < 42 * run.count → joined_at s begin j ≡ joined_byte_at (by more) (42 * base + j)
      due j h =
          let number : base + j / 42 ≡ (42 * base + j) / 42 = omega arith in
          let byte : j % 42 ≡ (42 * base + j) % 42 = omega arith in
          joined_is s begin j
          ∙ ap (λ (u : Walk). byte_of s u (j % 42)) (here (j / 42) (omega arith) ∙ ap (stands_at s at_first more) number)
          ∙ ap (byte_of s (stands_at s at_first more ((42 * base + j) / 42))) byte

-- a last run of no packets may as well not be there
pub written_without : (s : ℕ → ℕ) (long at_first : ℕ) (out out' counts counts' : List ℕ) (runs : List Run) (run : Run) → run.count ≤ 0
    → Written (by s long at_first out counts (runs ++ (run ∷ []))) out out' counts counts' → Written (by s long at_first out counts runs) out out' counts counts'
written_without s long at_first out out' counts counts' runs run none w =
    record {
      packets_are =
          leaves_as (joined_byte_at (by s long at_first out counts runs))
          (λ j h. ap (λ (u : Walk). byte_of s u (j % 42)) (stands_before s at_first runs (run ∷ []) (j / 42) (omega arith)))
          (leaves_to (omega (arith, all)) w.packets_are);
      counts_are =
          leaves_as (file_count_at (by s long at_first out counts runs)) (λ k h. ap (count_at long) (stands_before s at_first runs (run ∷ []) k h))
          (leaves_to all w.counts_are);
    }
  where
    all : packets_in (runs ++ (run ∷ [])) ≡ packets_in runs
    all = omega (arith, packets_joined runs (run ∷ []), packets_of run [], packets_none)

-- a reading of no packets
pub written_nothing : (reading : Reading) (out counts : List ℕ) → total reading ≡ 0 → Written reading out out counts counts
written_nothing reading out counts none =
    record {
      packets_are = leaves_to (omega (arith, none)) (leaves_none out 0 (joined_byte_at reading));
      counts_are = leaves_to (sym none) (leaves_none counts 0 (file_count_at reading));
    }

-- a reading of one run
pub written_one : (s : ℕ → ℕ) (long at_first : ℕ) (out out' counts counts' : List ℕ) (run given : Run) (carry : ℕ) → given ≡ run
    → RunWritten s long (run_begin at_first given) 0 given.count out out' counts counts' carry
    → Written (by s long at_first out counts (run ∷ [])) out out' counts counts'
written_one s long at_first out out' counts counts' run given carry is r =
    written_more s long at_first out counts [] run out out' counts counts' 0 carry (sym packets_none) (written_none s long at_first out counts)
    (rw (carry_none s at_first) (subst (λ (u : Run). RunWritten s long (run_begin at_first u) 0 u.count out out' counts counts' carry) is r))
