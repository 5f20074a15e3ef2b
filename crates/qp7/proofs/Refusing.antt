-- Which numbers the walk over QP7 records refuses by: 4 and 5, which alone tell of absent bytes.
-- Assumes nothing.
use Prim.Native.Nat.{ℕ, zero, suc, ◌+◌, ◌*◌}
use mathlib.Core.Path.{refl, sym, subst}
use mathlib.Core.List.{List}
use mathlib.Core.Logic.{inl, inr}
use lib.Dec.{leb}
use Rattle.tables.proofs.Cases.{by_equal}
use Rattle.blocks.specs.Places.{stream_at}
use Rattle.blocks.specs.Headers.{first_of, count_of}
use Rattle.refusals.specs.Numbers.{record_refusals}
use Rattle.refusals.specs.Said.{Said, answers, is_among, Numbered}
use Rattle.refusals.proofs.Numbered.{answered, asked_by, goes_on}
use Rattle.whole.specs.declared.Recording.{Recording}
use Rattle.frames.specs.Start.{frames_start}
use Rattle.qp7.specs.Records.{record_size, record_at}
use Rattle.qp7.specs.Walk.{Gathered, noted, raised, closing, reads, with_block, gathered_to, gathered_from}
use Rattle.qp7.proofs.Blockwise.{silent_is, announcing_is}

-- one record, some, those of a block, and all
finding : (s : ℕ → ℕ) (long q : ℕ) → Numbered record_refusals (record_at s long q)
unfolding record_at is_among
finding s long q =
    let size = record_size (s (q + 1)) in
    asked_by (leb (q + 2) long) _ refl (λ other. absurd (other (inl refl)))
    (asked_by (leb (q + size) long) _ refl (λ other. absurd (other (inr refl))) (answered size))

reading : (s : ℕ → ℕ) (long n : ℕ) (g : Gathered) → Numbered record_refusals (reads s long n g)
unfolding reads
reading s long zero g = answered g
reading s long (suc n) g = goes_on (record_at s long g.place) _ (finding s long g.place) (λ size. reading s long n (noted size g))

with_block_lem : (f : List ℕ) (a n b : ℕ) (g : Gathered) → Numbered record_refusals (with_block f a n b g)
with_block_lem f a n b g =
    by_equal (count_of f a b) 0 (λ none. subst (λ (said : Said Gathered). Numbered record_refusals said) (sym (silent_is f a n b g none)) (answered _))
    (λ some.
    subst (λ (said : Said Gathered). Numbered record_refusals said) (sym (announcing_is f a n b g some))
    (reading (stream_at f a n) (506 * n) (count_of f a b) (raised (frames_start b (first_of f a b)) g)))

gathering : (f : List ℕ) (a n b : ℕ) → Numbered record_refusals (gathered_to f a n b)
unfolding gathered_to
gathering f a n zero = answered _
gathering f a n (suc b) = goes_on (gathered_to f a n b) (with_block f a n b) (gathering f a n b) (with_block_lem f a n b)

pub gathering_all : (f : List ℕ) (rec : Recording) → Numbered record_refusals (gathered_from f rec)
unfolding gathered_from
gathering_all f rec = goes_on _ (λ g. answers (closing g)) (gathering f rec.start.0 rec.blocks rec.blocks) (λ g. answered _)
