-- What a strict end that succeeds says of a recording: every read is complete, and so which packets are whole. And of such a recording it
-- succeeds.
-- Assumes nothing.
use Prim.Native.Nat.{ℕ, ◌+◌, ◌*◌, ◌-◌, ◌≤◌, ◌<◌}
use mathlib.Core.Path.{◌≡◌, refl, sym, ap, ◌∙◌}
use mathlib.Core.List.{List, [], ◌∷◌}
use mathlib.Core.Logic.{inl, inr}
use mathlib.Core.Bool.{true, false}
use native.Mathlib.Nat.{not-suc-le-zero}
use native.Mathlib.Omega.{arith}
use borrow.Author.Tests.{eqb-true, leb-true, le-leb}
use lib.ListN.{length, get_or, get_or-eq_default}
use lib.Dec.{eqb}
use Rattle.tables.proofs.Cases.{by_test, by_order, never}
use Rattle.tables.proofs.Table.{length_table, table_at}
use Rattle.blocks.specs.Headers.{announced_in}
use Rattle.refusals.specs.Said.{answers, result_says}
use Rattle.packets.specs.Packet.{read_size}
use Rattle.sp.specs.Readings.{Reading, walk_at, file_count_at, CompleteAt}
use Rattle.sp.specs.Whole.{whole_at, SwappedUpto}
use Rattle.sp.proofs.Theorems.{complete_exactly}
use Rattle.sp.proofs.Whole.{short_before_unswapped, begun_swapped}
use Rattle.hold.proofs.Ready.{total_is, ready_within, ready_complete, all_ready}
use Rattle.reader.specs.declared.Reader.{Reader}
use Rattle.reader.specs.declared.Step.{Step}
use Rattle.reader.specs.State.{is_kind, is_dss, start_of, blocks_in, reading_by, opened, owed, header_full}
use Rattle.reader.specs.Calls.{strict, Opens}
use Rattle.reader.specs.History.{counts_from, EndCall, joined, Fed}
use Rattle.reader.specs.Complete.{CompleteRecording, BeginsUnswapped}
use Rattle.reader.proofs.Ends.{strict_passed, strict_ends}
use Rattle.reader.proofs.Folding.{holding, opened_fed}
use Rattle.reader.proofs.Agreeing.{agrees_is}

no_bytes : (f : List ℕ) → length f ≡ 0 → f ≡ []
no_bytes [] e = refl
no_bytes (x ∷ rest) e = absurd (omega arith)

-- the first of some
first_of : (l : List ℕ) → 0 < length l → get_or l 0 42 ≡ get_or l 0 0
first_of [] some = absurd (not-suc-le-zero some)
first_of (x ∷ rest) some = refl

-- what a complete recording has
module _ {kind : ℕ} {f : List ℕ} {n : ℕ} {packets entries : List ℕ} (c : CompleteRecording kind f n packets entries) where
  -- Every packet is whole but the swapped ones before the first unswapped read, and these are short: what is carried to them is ours.
  pub whole_but_first : (k : ℕ) → k < n
      → (whole_at (reading_by kind f) k ≡ false → SwappedUpto (reading_by kind f) k)
      × (SwappedUpto (reading_by kind f) k → whole_at (reading_by kind f) k ≡ false)
  whole_but_first k h = short_before_unswapped (reading_by kind f) k (λ j upto. c.all_complete j (omega arith))

  -- Every count is its read size.
  pub counts_full : (k : ℕ) → k < n → get_or entries k 0 ≡ read_size (walk_at (reading_by kind f) k).swap
  unfolding counts_from
  counts_full k h =
      let r = reading_by kind f in
      let number : 0 + k ≡ k = omega arith in
      ap (λ (l : List ℕ). get_or l k 0) c.counts_are
      ∙ table_at n (λ i. file_count_at r (0 + i)) k h
      ∙ ap (file_count_at r) number
      ∙ (complete_exactly r k).0 (c.all_complete k h)

  entries_long : length entries ≡ n
  unfolding counts_from
  entries_long = ap length c.counts_are ∙ length_table n (λ i. file_count_at (reading_by kind f) (0 + i))

  -- So all are whole exactly if the first count is 42, or there is none.
  pub all_whole : (BeginsUnswapped entries → (k : ℕ) → k < n → whole_at (reading_by kind f) k ≡ true)
      × (((k : ℕ) → k < n → whole_at (reading_by kind f) k ≡ true) → BeginsUnswapped entries)
  all_whole = (
    (λ begins k h.
        by_test (whole_at r k) (λ whole. whole)
        (λ short. absurd (swapped_is_40 ((whole_but_first k h).0 short 0 (omega arith)) (omega arith) begins))),
    (λ whole.
        by_order 0 n
        (λ some.
        by_test (walk_at r 0).swap (λ swapped. absurd (never (whole 0 some) (begun_swapped r swapped)))
        (λ plain. first_count some ∙ counts_full 0 some ∙ ap read_size plain))
        (λ none. get_or-eq_default entries 42 (omega (arith, entries_long)))),
  )
    where
      r : Reading
      r = reading_by kind f

      first_count : 0 < n → get_or entries 0 42 ≡ get_or entries 0 0
      first_count some = first_of entries (omega (arith, entries_long))

      swapped_is_40 : (walk_at r 0).swap ≡ true → 0 < n → BeginsUnswapped entries → ⊥
      swapped_is_40 swapped some begins = omega (arith, first_count some, counts_full 0 some, ap read_size swapped)

module _ (kind : ℕ) (opening : Step) (opens : Opens kind opening) (known : is_kind kind ≡ true) {pieces : List (List ℕ)} {n : ℕ}
    {packets entries : List ℕ} {last : Reader} (fed : Fed opening.reader pieces n packets entries last) where
  -- A strict end that succeeds says that all that the recording announces has come. However a fresh reader was given its pieces, and whatever
  -- it has refused in between: if a strict end is then answered, all that was taken and came out is a complete recording, every read of it.
  pub strict_end_is_complete : {out out' counts counts' : List ℕ} {step : Step} {m : ℕ} → EndCall last strict out out' counts counts' step
      → result_says step.answer ≡ answers m → CompleteRecording kind (joined pieces) n packets entries
  strict_end_is_complete {m = m} call said =
      let f = joined pieces in
      let v = opened_fed kind opening opens known fed in
      let s = holding (opened kind) f in
      strict_passed 0 (start_of kind) (length f) (owed s) m (sym (call s v.reader_is v.sound).steps.answer_is ∙ said)
      (λ none ended. absurd (omega (arith, ended)))
      (λ none full whole nothing.
      let all : n ≡ announced_in f (start_of kind) (blocks_in kind f) =
      omega (arith, v.many, nothing, ready_within (is_dss kind) f (start_of kind) (blocks_in kind f)) in
      record {
        header =
            by_test (eqb (length f) 0) (λ e. inr (no_bytes f (eqb-true (length f) 0 e)))
            (λ e. inl (leb-true (start_of kind) (length f) (rw e at full)));
        none_owed = all;
        none_cut = omega (arith, whole);
        packets_are = v.part.packets_are;
        counts_are = v.part.entries_are;
        all_complete = λ k h. ready_complete f (start_of kind) (blocks_in kind f) (is_dss kind) k (omega (arith, v.many));
        all_read = λ agrees. (
          agrees_is kind f v.sound.small agrees,
          all ∙ sym (total_is (is_dss kind) f (start_of kind) (blocks_in kind f)),
        );
      })

  -- And a recording that is complete is not refused: of bytes that end with a whole block, and whose reads are all complete, a strict end is answered.
  pub complete_is_ended : start_of kind ≤ length (joined pieces)
      → length (joined pieces) ≡ start_of kind + 512 * blocks_in kind (joined pieces)
      → ((k : ℕ) → k < announced_in (joined pieces) (start_of kind) (blocks_in kind (joined pieces)) → CompleteAt (reading_by kind (joined pieces)) k)
      → {out out' counts counts' : List ℕ} {step : Step} → EndCall last strict out out' counts counts' step → result_says step.answer ≡ answers 0
  complete_is_ended full whole all call =
      let f = joined pieces in
      let a = start_of kind in
      let v = opened_fed kind opening opens known fed in
      let s = holding (opened kind) f in
      let header : header_full a (length f) ≡ true =
      by_test (eqb (length f) 0) (λ none. simp none) (λ some. simp (some, le-leb a (length f) full)) in
      (call s v.reader_is v.sound).steps.answer_is
      ∙ strict_ends 0 a (length f) (owed s) (λ e. omega (arith, e)) (λ e. omega (arith, e)) header (length f - a) refl
      (omega (arith, whole)) (omega (arith, all_ready f a (blocks_in kind f) (is_dss kind) all))
