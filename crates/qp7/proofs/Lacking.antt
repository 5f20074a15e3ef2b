-- What a refusal of a record says of the stream. The walk stands at an even place in it, since starts, sizes and the stream's own length are
-- even; and there the record lacks an even number of bytes. Assumes nothing.
use Prim.Native.Nat.{ℕ, ◌+◌, ◌*◌, ◌%◌, ◌≤◌}
use mathlib.Core.Path.{◌≡◌, refl, sym, subst}
use mathlib.Core.List.{List}
use native.Mathlib.Omega.{arith}
use borrow.Author.Tests.{leb-true, leb-false}
use lib.Dec.{leb}
use Rattle.tables.proofs.Cases.{by_order}
use Rattle.blocks.specs.Places.{block_at, stream_at}
use Rattle.blocks.specs.Headers.{Bytes, first_of}
use Rattle.refusals.specs.declared.Numbers.{Numbers}
use Rattle.refusals.specs.Said.{refusal}
use Rattle.refusals.proofs.Said.{not_both, by_refusal}
use Rattle.whole.specs.declared.Recording.{Recording}
use Rattle.whole.specs.Admissions.{stream_in}
use Rattle.frames.specs.Start.{frames_start}
use Rattle.frames.proofs.Start.{starts_inside}
use Rattle.qp7.specs.Records.{record_size, record_at}
use Rattle.qp7.specs.Lacking.{Stops, Lacks}
use Rattle.qp7.specs.Walk.{Gathered}
use Rattle.qp7.proofs.Records.{long_size, short_size, record_found}
use Rattle.qp7.proofs.Closing.{closing_place}
use Rattle.qp7.proofs.Keeping.{Kept}

size_even : (second : ℕ) → record_size second % 2 ≡ 0
size_even second = by_order second 128 (λ h. omega (arith, short_size second h)) (λ h. omega (arith, long_size second h))

start_even : (b byte1 : ℕ) → frames_start b byte1 % 2 ≡ 0
unfolding frames_start
start_even b byte1 = omega arith

-- the walk stands at an even place, at most at the stream's end
abbrev pub Stands : ℕ → Gathered → Type 0
Stands n g = (g.place % 2 ≡ 0) × (g.place ≤ 506 * n)

-- no step breaks that
pub standing_kept : (f : List ℕ) (a n : ℕ) → Bytes f → Kept f a n (Stands n)
standing_kept f a n bytes =
    record {
      at_first = (omega arith, omega arith);
      by_a_record = λ g size e stands.
          let s = stream_at f a n in
          let found = record_found s (506 * n) g.place size e in
          (omega (arith, stands.0, found.0, size_even (s (g.place + 1))), found.1);
      by_an_end = λ b h g stands. (omega (arith, stands.0), omega (arith, stands.1, h));
      by_a_start = λ b h g stands. (
        omega (arith, stands.0, start_even b (first_of f a b)),
        omega (arith, stands.1, h, starts_inside b (first_of f a b) (bytes (block_at a b + 1))),
      );
      by_closing = λ g stands. (omega (arith, stands.0, closing_place g), omega (arith, stands.1, closing_place g));
    }

-- what is said of a record at an even place, where the walk stops
pub lacks_there : (f : List ℕ) (rec : Recording) (q : ℕ) {why : Numbers} → Stops f rec.start.0 rec.blocks q → q % 2 ≡ 0 → q ≤ 506 * rec.blocks
    → record_at (stream_in f rec) (506 * rec.blocks) q ≡ refusal why → Lacks f rec why
unfolding record_at
lacks_there f rec q stops even inside e =
    let s = stream_in f rec in
    let long = 506 * rec.blocks in
    let size = record_size (s (q + 1)) in
    by_refusal (leb (q + 2) long) e
    (λ told rest.
    by_refusal (leb (q + size) long) rest (λ fits r. absurd (not_both (sym r)))
    (λ past is.
    let there = leb-true (q + 2) long told in
    let over = leb-false (q + size) long past in
    subst (Lacks f rec) is
    (record {
      stops = stops;
      cut = λ five.
          (refl, omega (arith, there, over), omega (arith, there, over), omega (arith, there, over, even, size_even (s (q + 1))), omega (arith, there));
      untold = λ four. absurd (omega (arith, four));
    })))
    (λ few is.
    let none = leb-false (q + 2) long few in
    subst (Lacks f rec) is
    (record {
      stops = stops;
      cut = λ five. absurd (omega (arith, five));
      untold = λ four. (refl, omega (arith, none, even, inside), omega (arith, none, even, inside));
    }))
