-- The segments that are closed share the records among them: each begins where the one before it ends, and has at least one.
-- Assumes nothing.
use Prim.Native.Nat.{ℕ, ◌+◌, ◌≤◌, ◌<◌, min}
use mathlib.Core.Path.{◌≡◌, sym, ap, ◌∙◌, subst}
use mathlib.Core.List.{List, [], ◌∷◌, ◌++◌}
use native.Mathlib.Nat.{not-suc-le-zero}
use native.Mathlib.Omega.{arith}
use lib.ListN.{length, length-append, get_or-append}
use lib.Seq.{get_or-append_seam}
use Rattle.tables.specs.Table.{sum}
use Rattle.tables.proofs.Cases.{by_order}
use Rattle.tables.proofs.Table.{same_table, table_sum_more, table_sum_none}
use Rattle.refusals.specs.Said.{answers}
use Rattle.qp7.specs.declared.Segment.{Segment}
use Rattle.qp7.specs.Walk.{Gathered, open_segment, raised, closing, qp7_reading, no_segment, segment_at, records_before}
use Rattle.qp7.proofs.Closing.{closed_at, closing_none, closing_one}
use Rattle.qp7.proofs.Keeping.{Kept, walk_keeps_it, before_the_end, admitted_first}

-- what holds of segment i
pub record Shares (closed : List Segment) (i : ℕ) : Type 0 where
  pub begins : (segment_at closed i).first ≡ records_before closed i
  pub some : 1 ≤ (segment_at closed i).records
  pub resets : (segment_at closed i).reset ≡ min 1 i

-- the closed segments have as many records as come before the open one's first
pub record Shared (g : Gathered) : Type 0 where
  pub so_many : g.first ≤ length g.records
  pub all : records_before g.closed (length g.closed) ≡ g.first
  pub each : (i : ℕ) → i < length g.closed → Shares g.closed i

-- a segment more leaves those before it as they were
module _ (closed : List Segment) (x : Segment) where
  before : (i : ℕ) → i < length closed → segment_at (closed ++ (x ∷ [])) i ≡ segment_at closed i
  before i h = get_or-append closed (x ∷ []) no_segment i h

  last : segment_at (closed ++ (x ∷ [])) (length closed) ≡ x
  last = get_or-append_seam closed x [] no_segment

  sums : (i : ℕ) → i ≤ length closed → records_before (closed ++ (x ∷ [])) i ≡ records_before closed i
  sums i h =
      ap sum
      (same_table i (λ j. (segment_at (closed ++ (x ∷ [])) j).records) (λ j. (segment_at closed j).records)
      (λ j l. ap (λ (y : Segment). y.records) (before j (omega arith))))

-- the open segment is closed, if it is not empty
shared_closed : (g : Gathered) → g.first < length g.records → Shared g → Shared (closed_at g)
shared_closed g h sh =
    record {
      so_many = omega arith;
      all = ap (records_before longer) many ∙ whole;
      each = λ i l. by_order i n (old i) (λ k. let at : i ≡ n = omega (arith, many) in subst (Shares longer) (sym at) new);
    }
  where
    n : ℕ
    n = length g.closed

    x : Segment
    x = open_segment g

    longer : List Segment
    longer = g.closed ++ (x ∷ [])

    many : length longer ≡ n + 1
    many = length-append g.closed (x ∷ [])

    so_far : records_before longer n ≡ g.first
    so_far = sums g.closed x n (omega arith) ∙ sh.all

    here : segment_at longer n ≡ x
    here = last g.closed x

    whole : records_before longer (n + 1) ≡ length g.records
    whole =
        table_sum_more n (λ j. (segment_at longer j).records)
        ∙ omega (arith, so_far, ap (λ (y : Segment). y.records) here, h)

    old : (i : ℕ) → i < n → Shares longer i
    old i l =
        let same = before g.closed x i l in
        let was = sh.each i l in
        record {
          begins = ap (λ (y : Segment). y.first) same ∙ was.begins ∙ sym (sums g.closed x i (omega arith));
          some = omega (arith, ap (λ (y : Segment). y.records) same, was.some);
          resets = ap (λ (y : Segment). y.reset) same ∙ was.resets;
        }

    new : Shares longer n
    new =
        record {
          begins = ap (λ (y : Segment). y.first) here ∙ sym so_far;
          some = omega (arith, ap (λ (y : Segment). y.records) here, h);
          resets = ap (λ (y : Segment). y.reset) here;
        }

-- a read place that is raised
as_before : (q : ℕ) (g : Gathered) → Shared g → Shared (raised q g)
as_before q g sh = record { so_many = sh.so_many; all = sh.all; each = sh.each }

-- no step breaks that
shared_kept : (f : List ℕ) (a n : ℕ) → Kept f a n Shared
shared_kept f a n =
    record {
      at_first = record { so_many = omega arith; all = table_sum_none _; each = λ i h. absurd (not-suc-le-zero h) };
      by_a_record = λ g size e sh.
          record { so_many = omega (arith, sh.so_many, length-append g.records (g.place ∷ [])); all = sh.all; each = sh.each };
      by_an_end = λ b h g sh. as_before _ g sh;
      by_a_start = λ b h g sh. as_before _ g sh;
      by_closing = λ g sh.
          by_order g.first (length g.records) (λ h. subst Shared (sym (closing_one g h)) (shared_closed g h sh))
          (λ h. subst Shared (sym (closing_none g h)) sh);
    }

-- once the last segment is closed, no record is left over
none_left : (g : Gathered) → Shared g → (closing g).first ≡ length (closing g).records
none_left g sh =
    by_order g.first (length g.records)
    (λ h. let e = closing_one g h in rw e)
    (λ h. let e = closing_none g h in rw e (omega (arith, sh.so_many)))

-- so of what a whole file gathers
pub gathered_shared : (f : List ℕ) (g : Gathered) → qp7_reading f ≡ answers g → Shared g × (g.first ≡ length g.records)
gathered_shared f g e =
    let r = admitted_first f g e in
    let a = r.0.start.0 in
    let n = r.0.blocks in
    let h = before_the_end f r.0 g r.2 in
    let kept = shared_kept f a n in
    let all = walk_keeps_it {P = Shared} f a n kept n (omega arith) h.0 h.1 in
    subst (λ (x : Gathered). Shared x × (x.first ≡ length x.records)) h.2 (kept.by_closing h.0 all, none_left h.0 all)
