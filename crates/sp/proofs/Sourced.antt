-- What is carried, packet by packet: whether it came from the file, and from where. So which packets are whole: where all reads are complete, and
-- within a run, of which only the first can be short though its read is complete.
-- Assumes nothing.
use Prim.Native.Nat.{ℕ, zero, suc, ◌+◌, ◌≤◌, ◌<◌}
use mathlib.Core.Path.{◌≡◌, refl, sym, ap, ◌∙◌}
use mathlib.Core.Bool.{true, false, not, ◌||◌}
use native.Mathlib.Nat.{not-suc-le-zero}
use native.Mathlib.Numerals.{add-one}
use native.Mathlib.Omega.{arith}
use borrow.Author.Tests.{lt-ltb, ltb-true, ltb-false, not-true}
use lib.Dec.{ltb}
use Rattle.tables.proofs.Cases.{by_equal, by_test, never}
use Rattle.tables.proofs.Tests.{both, both_hold}
use Rattle.packets.specs.Packet.{read_size, carry_after, is_full}
use Rattle.packets.specs.Walk.{Walk, step}
use Rattle.packets.proofs.Packets.{full_says, full_if}
use Rattle.sp.specs.Readings.{Reading, total, walk_at, carry_at, CompleteAt}
use Rattle.sp.specs.Whole.{sourced_at, whole_at, CarriedFrom, SwappedUpto}
use Rattle.sp.proofs.Runs.{carry_at_first, carry_goes_on}

module _ (r : Reading) where
  -- what is carried came from the file: before the first packet, after an unswapped one, and after a swapped one
  pub sourced_none : sourced_at r 0 ≡ false
  unfolding sourced_at
  sourced_none = refl

  pub sourced_anew : (k : ℕ) → (walk_at r k).swap ≡ false → sourced_at r (suc k) ≡ ltb ((walk_at r k).place + 40) r.long
  unfolding sourced_at
  sourced_anew k plain = rw plain

  pub sourced_kept : (k : ℕ) → (walk_at r k).swap ≡ true → sourced_at r (suc k) ≡ sourced_at r k
  unfolding sourced_at
  sourced_kept k swapped = rw swapped

  -- a whole packet's read is complete, and what is carried to a swapped one came from the file; and a packet of which that is so is whole
  pub whole_says : (k : ℕ) → whole_at r k ≡ true → CompleteAt r k × ((walk_at r k).swap ≡ true → sourced_at r k ≡ true)
  unfolding whole_at
  whole_says k whole =
      let parts =
      both_hold (is_full r.long (walk_at r k).swap (walk_at r k).place) (not (walk_at r k).swap || sourced_at r k) whole in
      (full_says r.long (walk_at r k).swap (walk_at r k).place parts.0, (λ swapped. rw swapped at parts.1))

  pub whole_if : (k : ℕ) → CompleteAt r k → ((walk_at r k).swap ≡ true → sourced_at r k ≡ true) → whole_at r k ≡ true
  unfolding whole_at
  whole_if k complete carried =
      both (full_if r.long (walk_at r k).swap (walk_at r k).place complete)
      (by_test (walk_at r k).swap (λ swapped. rw (swapped, carried swapped)) (λ plain. rw plain))

  -- so a packet is short if its read is cut, or if it is swapped and what is carried did not come from the file
  pub short_if_cut : (k : ℕ) → (CompleteAt r k → ⊥) → whole_at r k ≡ false
  short_if_cut k cut = by_test (whole_at r k) (λ whole. absurd (cut (whole_says k whole).0)) (λ short. short)

  pub short_if_ours : (k : ℕ) → (walk_at r k).swap ≡ true → sourced_at r k ≡ false → whole_at r k ≡ false
  short_if_ours k swapped ours =
      by_test (whole_at r k) (λ whole. absurd (never ((whole_says k whole).1 swapped) ours)) (λ short. short)

  -- what came from the file is byte 40 of the last unswapped read, which lies in the stream; and the other way round
  pub carried_from : (k : ℕ) → sourced_at r k ≡ true → (j : ℕ) × CarriedFrom r j k
  carried_from zero e = absurd (never e sourced_none)
  carried_from (suc k) e =
      by_test (walk_at r k).swap
      (λ swapped.
      let earlier = carried_from k (sym (sourced_kept k swapped) ∙ e) in
      let c = earlier.1 in (
        earlier.0,
        record {
          before = omega (arith, c.before);
          unswapped = c.unswapped;
          last = λ i after upto. by_equal i k (λ same. rw same swapped) (λ other. c.last i after (omega arith));
          from_file = c.from_file;
        },
      ))
      (λ plain. (
        k,
        record {
          before = omega arith;
          unswapped = plain;
          last = λ i after upto. absurd (omega arith);
          from_file = ltb-true ((walk_at r k).place + 40) r.long (sym (sourced_anew k plain) ∙ e);
        },
      ))

  pub from_carried : (j k : ℕ) → CarriedFrom r j k → sourced_at r k ≡ true
  from_carried j zero c = absurd (not-suc-le-zero c.before)
  from_carried j (suc k) c =
      by_equal j k
      (λ same.
      let plain : (walk_at r k).swap ≡ false = rw same at c.unswapped in
      let inside : (walk_at r k).place + 40 < r.long = rw same at c.from_file in
      sourced_anew k plain ∙ lt-ltb ((walk_at r k).place + 40) r.long inside)
      (λ other.
      let less : j < k = omega (arith, c.before) in
      sourced_kept k (c.last k less (omega arith))
      ∙ from_carried j k
      (record {
        before = less;
        unswapped = c.unswapped;
        last = λ i after upto. c.last i after (omega arith);
        from_file = c.from_file;
      }))

  -- and that byte is what is carried
  pub carried_is : (j k : ℕ) → k < total r → CarriedFrom r j k → carry_at r k ≡ r.stream ((walk_at r j).place + 40)
  unfolding carry_after
  carried_is j zero h c = absurd (not-suc-le-zero c.before)
  carried_is j (suc k) h c =
      let here : carry_at r (suc k) ≡ (step r.stream (walk_at r k)).carry =
      ap (carry_at r) (sym (add-one k)) ∙ carry_goes_on r.stream r.carry r.runs k (omega arith) in
      by_equal j k
      (λ same.
      let plain : (walk_at r k).swap ≡ false = rw same at c.unswapped in
      here ∙ rw (plain, same))
      (λ other.
      let less : j < k = omega (arith, c.before) in
      let swapped : (walk_at r k).swap ≡ true = c.last k less (omega arith) in
      here
      ∙ rw swapped
      (carried_is j k (omega arith)
      (record {
        before = less;
        unswapped = c.unswapped;
        last = λ i after upto. c.last i after (omega arith);
        from_file = c.from_file;
      })))

  -- what did not come from the file is 0, if nothing but 0 is carried to begin with and stands past the stream's end
  pub ours_is_zero : r.carry ≡ 0 → ((q : ℕ) → r.long ≤ q → r.stream q ≡ 0) → (k : ℕ) → k < total r → sourced_at r k ≡ false
      → carry_at r k ≡ 0
  unfolding carry_after
  ours_is_zero none past zero h ours = carry_at_first r.stream r.carry r.runs ∙ none
  ours_is_zero none past (suc k) h ours =
      let here : carry_at r (suc k) ≡ (step r.stream (walk_at r k)).carry =
      ap (carry_at r) (sym (add-one k)) ∙ carry_goes_on r.stream r.carry r.runs k (omega arith) in
      by_test (walk_at r k).swap
      (λ swapped. here ∙ rw swapped (ours_is_zero none past k (omega arith) (sym (sourced_kept k swapped) ∙ ours)))
      (λ plain. here ∙ rw plain (past ((walk_at r k).place + 40) (ltb-false _ _ (sym (sourced_anew k plain) ∙ ours))))

  -- where the reads before are complete, what is carried came from the file once one of them is unswapped, and never before
  pub sourced_since : (j k : ℕ) → j < k → (walk_at r j).swap ≡ false → ((i : ℕ) → i < k → CompleteAt r i) → sourced_at r k ≡ true
  sourced_since j zero before plain complete = absurd (not-suc-le-zero before)
  sourced_since j (suc k) before plain complete =
      by_test (walk_at r k).swap
      (λ swapped.
      let less : j < k = by_equal j k (λ same. absurd (never (rw (← same) at swapped) plain)) (λ other. omega arith) in
      sourced_kept k swapped ∙ sourced_since j k less plain (λ i h. complete i (omega arith)))
      (λ last.
      let all : (walk_at r k).place + 42 ≤ r.long = rw last at (complete k (omega arith)) in
      sourced_anew k last ∙ lt-ltb ((walk_at r k).place + 40) r.long (omega arith))

  pub ours_while_swapped : (k : ℕ) → ((j : ℕ) → j < k → (walk_at r j).swap ≡ true) → sourced_at r k ≡ false
  ours_while_swapped zero swapped = sourced_none
  ours_while_swapped (suc k) swapped =
      sourced_kept k (swapped k (omega arith)) ∙ ours_while_swapped k (λ j h. swapped j (omega arith))

  -- a swapped packet before any unswapped read is short; and where the reads up to it are complete no other is
  pub short_while_swapped : (k : ℕ) → SwappedUpto r k → whole_at r k ≡ false
  short_while_swapped k swapped =
      short_if_ours k (swapped k (omega arith)) (ours_while_swapped k (λ j h. swapped j (omega arith)))

  pub short_only_there : (k : ℕ) → ((j : ℕ) → j ≤ k → CompleteAt r j) → whole_at r k ≡ false → SwappedUpto r k
  short_only_there k complete short j upto =
      by_test (walk_at r j).swap (λ swapped. swapped)
      (λ plain.
      absurd
      (never
      (whole_if k (complete k (omega arith))
      (λ swapped.
      let less : j < k = by_equal j k (λ same. absurd (never swapped (rw same at plain))) (λ other. omega arith) in
      sourced_since j k less plain (λ i h. complete i (omega arith))))
      short))

  -- a packet that follows another in its run is whole if its read is complete: if it is swapped, the read before it carries to it
  pub follower_whole : (k : ℕ) → walk_at r (suc k) ≡ step r.stream (walk_at r k) → CompleteAt r (suc k) → whole_at r (suc k) ≡ true
  follower_whole k follows complete =
      whole_if (suc k) complete
      (λ swapped.
      let flips : (walk_at r (suc k)).swap ≡ not (walk_at r k).swap = ap (λ (w : Walk). w.swap) follows in
      let there : (walk_at r (suc k)).place ≡ (walk_at r k).place + read_size (walk_at r k).swap = ap (λ (w : Walk). w.place) follows in
      let plain : (walk_at r k).swap ≡ false = not-true (walk_at r k).swap (sym flips ∙ swapped) in
      let after : (walk_at r (suc k)).place ≡ (walk_at r k).place + 42 = rw plain at there in
      sourced_anew k plain ∙ lt-ltb ((walk_at r k).place + 40) r.long (omega (arith, complete)))

-- two readings of which the first n reads are the same, in streams that are as long
module _ (one other : Reading) (n : ℕ) (long : one.long ≡ other.long)
    (reads : (k : ℕ) → k < n → ((walk_at one k).place ≡ (walk_at other k).place) × ((walk_at one k).swap ≡ (walk_at other k).swap)) where
  pub sourced_same : (k : ℕ) → k ≤ n → sourced_at one k ≡ sourced_at other k
  sourced_same zero h = sourced_none one ∙ sym (sourced_none other)
  sourced_same (suc k) h =
      let same = reads k (omega arith) in
      by_test (walk_at one k).swap
      (λ swapped. sourced_kept one k swapped ∙ sourced_same k (omega arith) ∙ sym (sourced_kept other k (sym same.1 ∙ swapped)))
      (λ plain.
      sourced_anew one k plain ∙ cc (same.0, long) ∙ sym (sourced_anew other k (sym same.1 ∙ plain)))

  pub whole_same : (k : ℕ) → k < n → whole_at one k ≡ whole_at other k
  unfolding whole_at
  whole_same k h = let same = reads k h in cc (same.0, same.1, long, sourced_same k (omega arith))
