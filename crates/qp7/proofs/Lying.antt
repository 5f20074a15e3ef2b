-- Records lie in the payload stream one after another.
-- Assumes nothing.
use Prim.Native.Nat.{ℕ, ◌+◌, ◌*◌, ◌≤◌, ◌<◌}
use mathlib.Core.Path.{◌≡◌, refl, sym, ap, ◌∙◌, subst}
use mathlib.Core.List.{List, [], ◌∷◌, ◌++◌}
use native.Mathlib.Nat.{not-suc-le-zero}
use native.Mathlib.Omega.{arith}
use lib.ListN.{length, get_or, length-append, get_or-append}
use lib.Seq.{get_or-append_seam}
use Rattle.tables.proofs.Cases.{by_order}
use Rattle.blocks.specs.Places.{stream_at}
use Rattle.refusals.specs.Said.{answers}
use Rattle.whole.specs.declared.Recording.{Recording}
use Rattle.detect.specs.declared.Kind.TheVariants.{Qp7}
use Rattle.whole.specs.Admissions.{ds2_admission}
use Rattle.qp7.specs.Records.{record_size, record_at}
use Rattle.qp7.specs.Walk.{Gathered, noted, raised, closing, qp7_reading, place_at, size_at}
use Rattle.qp7.proofs.Records.{record_found}
use Rattle.qp7.proofs.Closing.{closing_records, closing_place}
use Rattle.qp7.proofs.Keeping.{Kept, walk_keeps_it, before_the_end, gathered_by}

-- where record i ends
abbrev end_at : (ℕ → ℕ) → Gathered → ℕ → ℕ
end_at s g i = place_at g i + size_at s g i

-- the records gathered end in the stream and before the read place, and each before the next begins
pub record Lie (s : ℕ → ℕ) (long : ℕ) (g : Gathered) : Type 0 where
  pub inside : (i : ℕ) → i < length g.records → end_at s g i ≤ long
  pub behind : (i : ℕ) → i < length g.records → end_at s g i ≤ g.place
  pub apart : (i j : ℕ) → i < j → j < length g.records → end_at s g i ≤ place_at g j

-- the same records with no lesser read place
lie_as : {s : ℕ → ℕ} {long : ℕ} (g h : Gathered) → h.records ≡ g.records → g.place ≤ h.place → Lie s long g → Lie s long h
lie_as {s} {long} g h same on lie =
    subst (λ (l : List ℕ). Lie s long (record { place = h.place; records = l; closed = h.closed; first = h.first })) (sym same)
    (record {
      inside = lie.inside;
      behind = λ i l. omega (arith, lie.behind i l);
      apart = lie.apart;
    })

module _ (s : ℕ → ℕ) (long : ℕ) where
  -- one record more
  lie_more : (g : Gathered) (size : ℕ) → record_at s long g.place ≡ answers size → Lie s long g → Lie s long (noted size g)
  lie_more g size e lie =
      record {
        inside = λ i h.
            by_order i (length g.records) (λ l. rw (old i l) (lie.inside i l))
            (λ l. omega (arith, ap end (there i h l), found.0, found.1));
        behind = λ i h.
            by_order i (length g.records) (λ l. omega (arith, ap end (old i l), lie.behind i l))
            (λ l. omega (arith, ap end (there i h l), found.0));
        apart = λ i j h l.
            by_order j (length g.records) (λ k. rw (old i (omega arith), old j k) (lie.apart i j h k))
            (λ k. omega (arith, ap end (old i (omega (arith, many))), there j l k, lie.behind i (omega (arith, many))));
      }
    where
      found : (size ≡ record_size (s (g.place + 1))) × (g.place + size ≤ long)
      found = record_found s long g.place size e

      many : length (g.records ++ (g.place ∷ [])) ≡ length g.records + 1
      many = length-append g.records (g.place ∷ [])

      end : ℕ → ℕ
      end q = q + record_size (s (q + 1))

      old : (i : ℕ) → i < length g.records → place_at (noted size g) i ≡ place_at g i
      old i h = get_or-append g.records (g.place ∷ []) 0 i h

      there : (i : ℕ) → i < length (g.records ++ (g.place ∷ [])) → length g.records ≤ i → place_at (noted size g) i ≡ g.place
      there i h l =
          let last : i ≡ length g.records = omega (arith, many) in
          ap (λ (k : ℕ). get_or (g.records ++ (g.place ∷ [])) k 0) last ∙ get_or-append_seam g.records g.place [] 0

  -- a read place that is raised
  lie_raised : (q : ℕ) (g : Gathered) → Lie s long g → Lie s long (raised q g)
  lie_raised q g lie = lie_as g (raised q g) refl (omega arith) lie

-- no step breaks that
lying_kept : (f : List ℕ) (a n : ℕ) → Kept f a n (Lie (stream_at f a n) (506 * n))
lying_kept f a n =
    let s = stream_at f a n in
    let long = 506 * n in
    record {
      at_first =
          record {
            inside = λ i h. absurd (not-suc-le-zero h);
            behind = λ i h. absurd (not-suc-le-zero h);
            apart = λ i j h l. absurd (not-suc-le-zero l);
          };
      by_a_record = lie_more s long;
      by_an_end = λ b h g lie. lie_raised s long _ g lie;
      by_a_start = λ b h g lie. lie_raised s long _ g lie;
      by_closing = λ g lie. lie_as g (closing g) (closing_records g) (omega (arith, closing_place g)) lie;
    }

-- so of what a whole file gathers
pub gathered_lie : (f : List ℕ) (g : Gathered) → qp7_reading f ≡ answers g → (rec : Recording) → ds2_admission f Qp7 ≡ answers rec
    → Lie (stream_at f rec.start.0 rec.blocks) (506 * rec.blocks) g
gathered_lie f g e rec taken =
    let a = rec.start.0 in
    let n = rec.blocks in
    let h = before_the_end f rec g (gathered_by f rec g taken e) in
    let kept = lying_kept f a n in
    subst (Lie (stream_at f a n) (506 * n)) h.2
    (kept.by_closing h.0 (walk_keeps_it {P = Lie (stream_at f a n) (506 * n)} f a n kept n (omega arith) h.0 h.1))
