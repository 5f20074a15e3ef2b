-- How many bytes QP7 records have: as many as the read place moves while they are read, and block by block all so far.
-- Assumes nothing.
use Prim.Native.Nat.{ℕ, ◌+◌, ◌*◌, ◌-◌, ◌≤◌, max}
use mathlib.Core.Path.{◌≡◌, refl, sym, ap, ◌∙◌}
use mathlib.Core.List.{List}
use mathlib.Core.Bool.{cond}
use native.Mathlib.Omega.{arith}
use borrow.Author.Tests.{eq-eqb, ne_eqb}
use lib.ListN.{length}
use lib.Dec.{eqb}
use Rattle.tables.proofs.Cases.{by_equal}
use Rattle.tables.proofs.Table.{sum_more, sum_none}
use Rattle.blocks.specs.Places.{stream_at}
use Rattle.blocks.specs.Headers.{first_of, count_of}
use Rattle.refusals.specs.Said.{Said, answers, onward, result_says}
use Rattle.refusals.proofs.Said.{for_the_answer}
use Rattle.whole.specs.declared.Recording.{Recording}
use Rattle.whole.specs.Admissions.{stream_in}
use Rattle.frames.specs.Start.{frames_start}
use Rattle.qp7.specs.declared.Totals.{Totals}
use Rattle.qp7.specs.declared.Walk.{Walk}
use Rattle.qp7.specs.Records.{record_size}
use Rattle.qp7.specs.Walk.{Gathered, nothing, raised, closing, reads, with_block, gathered_to, gathered_from}
use Rattle.qp7.specs.Inner.{numbers_of, numbers_at}
use Rattle.qp7.proofs.Records.{record_found}
use Rattle.qp7.proofs.Closing.{closing_records, closing_place}
use Rattle.qp7.proofs.Reading.{reads_keep}
use Rattle.qp7.proofs.Blockwise.{silent_is, announcing_is}
use Rattle.qp7.proofs.Gathering.{up_to, gone_on, Gathers, gathered_more, gathered_from_lem, gathering_begins, stands_refused}
use Rattle.tally.specs.declared.FileKind.TheVariants.{Ds2Qp7}
use Rattle.tally.specs.declared.HandedOut.{HandedOut}
use Rattle.tally.specs.HandedOut.{sizes_of, records_out}
use Rattle.tally.specs.Tallies.{handed_by}
use Rattle.std.specs.Prelude.{Err}
use Rattle.refusals.specs.declared.Refusal.{Refusal}

-- records that are read follow one another: they have as many bytes as the read place moves
reads_sizes : (s : ℕ → ℕ) (long n : ℕ) (g g' : Gathered) → reads s long n g ≡ answers g'
    → (sizes_of s g'.records + g.place ≡ sizes_of s g.records + g'.place) × (g.place ≤ g'.place)
reads_sizes s long n g g' e =
    reads_keep {P = λ x. (sizes_of s x.records + g.place ≡ sizes_of s g.records + x.place) × (g.place ≤ x.place)} s long
    (λ x size found so.
    let more = sum_more (λ (q : ℕ). record_size (s (q + 1))) x.records x.place in
    let is = (record_found s long x.place size found).0 in
    (omega arith, omega arith)) n g g' e (refl, omega arith)

-- a block's records begin at the read place or at the block's start; a silent block has none
block_sizes : (f : List ℕ) (a n b before after bytes : ℕ) (g g' : Gathered) → with_block f a n b g ≡ answers g' → before ≡ g.place
    → after ≡ g'.place → bytes ≡ cond (eqb (count_of f a b) 0) 0 (after - max before (frames_start b (first_of f a b)))
    → (sizes_of (stream_at f a n) g'.records ≡ sizes_of (stream_at f a n) g.records + bytes) × (before + bytes ≤ after)
block_sizes f a n b before after bytes g g' e from to is =
    by_equal (count_of f a b) 0
    (λ none.
    let zero : bytes ≡ 0 = is ∙ simp (eq-eqb (count_of f a b) 0 none) in
    let same = ap (sizes_of (stream_at f a n)) (closing_records g) in
    let s =
    for_the_answer
    (λ (x : Gathered). (sizes_of (stream_at f a n) x.records ≡ sizes_of (stream_at f a n) g.records) × (g.place ≤ x.place))
    (sym (silent_is f a n b g none) ∙ e) (same, omega (arith, closing_place g)) in
    (omega arith, omega arith))
    (λ some.
    let moved : bytes ≡ after - max before (frames_start b (first_of f a b)) = is ∙ simp (ne_eqb (count_of f a b) 0 some) in
    let s =
    reads_sizes (stream_at f a n) (506 * n) (count_of f a b) (raised (frames_start b (first_of f a b)) g) g'
    (sym (announcing_is f a n b g some) ∙ e) in
    (omega arith, omega arith))

-- the walk over the first b blocks: the records so far have so many bytes, none of them past the read place
pub record Tallying (f : List ℕ) (rec : Recording) (most : Totals) (records records' segments segments' : List ℕ) (walk : Walk) (b bytes : ℕ) : Type 0 where
  pub so : Gathers f rec most records records' segments segments' walk b
  pub bytes_are : bytes ≡ sizes_of (stream_in f rec) so.here.records
  pub behind : bytes ≤ walk.place.0

-- before the first block
pub tallying_begins : (f : List ℕ) (rec : Recording) (most : Totals) (records segments : List ℕ)
    → Tallying f rec most records records segments segments (numbers_of nothing) 0 0
unfolding gathered_to
tallying_begins f rec most records segments =
    let so = gathering_begins f rec most records segments in
    record {
      so = so;
      bytes_are = for_the_answer (λ (g : Gathered). 0 ≡ sizes_of (stream_in f rec) g.records) so.so_far (sym (sum_none _));
      behind = omega arith;
    }

-- one block more
pub tallying_goes_on : {f : List ℕ} {rec : Recording} {most : Totals} {records records' records'' segments segments' segments'' : List ℕ}
    {walk walk' : Walk} {b bytes : ℕ}
    → Tallying f rec most records records' segments segments' walk b bytes
    → Gathers f rec most records records'' segments segments'' walk' (b + 1)
    → (read : ℕ) → read ≡ cond (eqb (count_of f rec.start.0 b) 0) 0
    (walk'.place.0 - max walk.place.0 (frames_start b (first_of f rec.start.0 b)))
    → Tallying f rec most records records'' segments segments'' walk' (b + 1) (bytes + read)
tallying_goes_on {f} {rec} {walk = walk} {walk'} {b} {bytes} t next read is =
    record { so = next; bytes_are = omega (arith, t.bytes_are, sizes.0); behind = omega (arith, t.behind, sizes.1) }
  where
    gone : gone_on f rec b t.so.here ≡ answers next.here
    gone =
        sym
        (gathered_more f rec.start.0 rec.blocks b
        ∙ ap (λ (said : Said Gathered). onward said (gone_on f rec b)) t.so.so_far)
        ∙ next.so_far

    sizes : (sizes_of (stream_in f rec) next.here.records ≡ sizes_of (stream_in f rec) t.so.here.records + read)
        × (walk.place.0 + read ≤ walk'.place.0)
    sizes =
        block_sizes f rec.start.0 rec.blocks b _ _ read t.so.here next.here gone
        (ap (λ (w : Walk). w.place.0) t.so.stands) (ap (λ (w : Walk). w.place.0) next.stands) is

-- a block that is refused
pub told_why : (f : List ℕ) (rec : Recording) (why : Refusal) → result_says {A = Walk} (Err why) ≡ numbers_at (gathered_from f rec)
    → result_says {A = HandedOut} (Err why) ≡ handed_by Ds2Qp7 f rec
told_why f rec why says =
    sym
    (ap (λ (said : Said Gathered). onward said (λ g. answers (records_out (stream_in f rec) g.records)))
    (stands_refused (gathered_from f rec) says))

-- all blocks: closing the last segment changes no record
pub tallying_ends : {f : List ℕ} {rec : Recording} {most : Totals} {records records' segments segments' : List ℕ} {walk : Walk} {b bytes : ℕ}
    → Tallying f rec most records records' segments segments' walk b bytes → rec.blocks ≡ b
    → answers (record { many = walk.records; short = 0; bytes = bytes }) ≡ handed_by Ds2Qp7 f rec
tallying_ends {f} {rec} {walk = walk} {b} {bytes} t done =
    let many : walk.records ≡ length t.so.here.records = ap (λ (w : Walk). w.records) t.so.stands in
    let sizes = t.bytes_are in
    let same = closing_records t.so.here in
    let out : record { many = walk.records; short = 0; bytes = bytes } ≡ records_out (stream_in f rec) (closing t.so.here).records =
    cc in
    let all : gathered_from f rec ≡ answers (closing t.so.here) =
    gathered_from_lem f rec
    ∙ ap (λ (said : Said Gathered). onward said (λ g. answers (closing g))) (ap (up_to f rec) done ∙ t.so.so_far) in
    ap answers out ∙ sym (ap (λ (said : Said Gathered). onward said (λ g. answers (records_out (stream_in f rec) g.records))) all)
