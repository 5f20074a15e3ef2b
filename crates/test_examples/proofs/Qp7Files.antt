-- The example that speaks of every QP7 file of one block.
-- Assumes nothing.
use Prim.Native.Nat.{ℕ, zero, suc, ◌+◌, ◌*◌, ◌≤◌, ◌<◌}
use mathlib.Core.Path.{◌≡◌, refl, sym, ap, ◌∙◌}
use mathlib.Core.List.{List}
use native.Mathlib.Nat.{zero-add}
use native.Mathlib.Omega.{arith}
use borrow.Author.Tests.{ne_eqb}
use Rattle.blocks.specs.Places.{stream_at}
use Rattle.blocks.specs.Headers.{first_of, count_of}
use Rattle.refusals.specs.declared.Numbers.{Numbers}
use Rattle.refusals.specs.Numbers.{lacking}
use Rattle.refusals.specs.Said.{refusal}
use Rattle.detect.specs.declared.Kind.TheVariants.{Qp7}
use Rattle.frames.specs.Start.{frames_start}
use Rattle.qp7.specs.Records.{record_size, record_at}
use Rattle.qp7.specs.Walk.{Gathered, nothing, noted, raised, reads, with_block, gathered_to, gathered_from, qp7_reading}
use Rattle.qp7.proofs.Records.{no_selector, runs_past, record_there}
use Rattle.qp7.proofs.Reading.{reads_more}
use Rattle.test_examples.specs.Bench.{Ds2File, Example5}
use Rattle.test_examples.proofs.Files.{taken_as}

-- one record is read, and so many are left; or none can be
module _ (s : ℕ → ℕ) (long n : ℕ) (g : Gathered) where
  reads_on : g.place + 56 ≤ long → record_size (s (g.place + 1)) ≡ 56 → reads s long (suc n) g ≡ reads s long n (noted 56 g)
  reads_on fits size = reads_more s long (suc n) n g refl ∙ rw (← record_there s long g.place 56 (omega arith) (sym size) fits)

  reads_stop : (why : Numbers) → refusal why ≡ record_at s long g.place → reads s long (suc n) g ≡ refusal why
  reads_stop why is = reads_more s long (suc n) n g refl ∙ rw (← is)

-- after m long records that fit, the rest is read 56 m bytes on
after_long : (s : ℕ → ℕ) (long m n : ℕ) (g : Gathered)
    → ((k : ℕ) → k < m → (g.place + 56 * k + 56 ≤ long) × (record_size (s (g.place + 56 * k + 1)) ≡ 56))
    → (h : Gathered) × (reads s long (m + n) g ≡ reads s long n h) × (h.place ≡ g.place + 56 * m)
after_long s long zero n g each = (g, ap (λ (x : ℕ). reads s long x g) (zero-add n), omega arith)
after_long s long (suc m) n g each =
    let first = each 0 (omega arith) in
    let rest = after_long s long m n (noted 56 g) (λ k h. later k h) in
    let count : suc m + n ≡ suc (m + n) = omega arith in (
      rest.0,
      ap (λ (x : ℕ). reads s long x g) count ∙ reads_on s long (m + n) g (omega (arith, first.0)) (size first) ∙ rest.1,
      omega (arith, rest.2),
    )
  where
    size : (g.place + 56 * 0 + 56 ≤ long) × (record_size (s (g.place + 56 * 0 + 1)) ≡ 56) → record_size (s (g.place + 1)) ≡ 56
    size first = let at : g.place + 56 * 0 + 1 ≡ g.place + 1 = omega arith in ap (λ (x : ℕ). record_size (s x)) (sym at) ∙ first.1

    later : (k : ℕ) → k < m → (g.place + 56 + 56 * k + 56 ≤ long) × (record_size (s (g.place + 56 + 56 * k + 1)) ≡ 56)
    later k h =
        let next = each (suc k) (omega arith) in
        let at : g.place + 56 * suc k + 1 ≡ g.place + 56 + 56 * k + 1 = omega arith in
        (omega (arith, next.0), ap (λ (x : ℕ). record_size (s x)) (sym at) ∙ next.1)

-- a file of one block whose records cannot be read is refused as they are
refused_block : (f : List ℕ) (why : Numbers) → Ds2File Qp7 1 f
    → reads (stream_at f 1536 1) 506 (count_of f 1536 0) (raised (frames_start 0 (first_of f 1536 0)) nothing) ≡ refusal why
    → qp7_reading f ≡ refusal why
unfolding qp7_reading gathered_from gathered_to with_block
refused_block f why file is =
    let some : count_of f 1536 0 ≡ 0 → ⊥ = λ none. omega (arith, file.announces, none) in
    rw (taken_as Qp7 1 f (omega arith) (omega arith) file) (simp (ne_eqb (count_of f 1536 0) 0 some, is))

-- 9 long records from a start on, and then a tenth that is refused
tenth : (s : ℕ → ℕ) (start : ℕ) (why : Numbers) (g : Gathered) → g.place ≡ start → start ≤ 2
    → ((k : ℕ) → start + 56 * k + 2 ≤ 506 → record_size (s (start + 56 * k + 1)) ≡ 56) → refusal why ≡ record_at s 506 (start + 504)
    → reads s 506 10 g ≡ refusal why
tenth s start why g at few each last =
    let rest = after_long s 506 9 1 g (λ k h. (omega (arith, at), rw at (each k (omega arith)))) in
    let there : rest.0.place ≡ start + 504 = omega (arith, rest.2, at) in
    rest.1 ∙ reads_stop s 506 0 rest.0 why (last ∙ ap (record_at s 506) (sym there))

pub five_holds : Example5
unfolding frames_start
five_holds f file ten = (
  (λ three long.
      refused_block f (lacking 5 504 56 54) file
      (rw (ten, three)
      (tenth (stream_at f 1536 1) 0 (lacking 5 504 56 54) (raised 0 nothing) refl (omega arith) long (runs_past (stream_at f 1536 1) 506 504 56 (omega arith) (sym (long 9 (omega arith))) (omega arith))))),
  (λ four long.
      refused_block f (lacking 4 506 0 2) file
      (rw (ten, four) (tenth (stream_at f 1536 1) 2 (lacking 4 506 0 2) (raised 2 nothing) refl (omega arith) long (no_selector (stream_at f 1536 1) 506 506 (omega arith))))),
)
