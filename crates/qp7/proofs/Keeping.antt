-- What the walk keeps: a fact of what was gathered that no step breaks holds at the end, and where a record is refused. And how many records
-- it has gathered.
-- Assumes nothing.
use Prim.Native.Nat.{ℕ, zero, suc, ◌+◌, ◌*◌, ◌≤◌, ◌<◌}
use mathlib.Core.Path.{◌≡◌, refl, sym, ap, ◌∙◌}
use mathlib.Core.List.{List, [], ◌∷◌}
use native.Mathlib.Omega.{arith}
use lib.ListN.{length, length-append}
use Rattle.tables.proofs.Cases.{by_equal}
use Rattle.blocks.specs.Places.{stream_at}
use Rattle.blocks.specs.Headers.{first_of, count_of, announced_in}
use Rattle.refusals.specs.declared.Numbers.{Numbers}
use Rattle.refusals.specs.Said.{answers, onward, refusal}
use Rattle.refusals.proofs.Said.{not_both, by_onward, went_on, for_the_answer}
use Rattle.whole.specs.declared.Recording.{Recording}
use Rattle.detect.specs.declared.Kind.TheVariants.{Qp7}
use Rattle.whole.specs.Admissions.{announced_by, ds2_admission}
use Rattle.frames.specs.Start.{frames_start}
use Rattle.qp7.specs.Records.{record_at}
use Rattle.qp7.specs.Lacking.{Stops}
use Rattle.qp7.specs.Walk.{Gathered, nothing, noted, raised, closing, reads, with_block, gathered_to, gathered_from, qp7_reading}
use Rattle.qp7.proofs.Closing.{closing_records}
use Rattle.qp7.proofs.Reading.{reads_keep}
use Rattle.qp7.proofs.Blockwise.{silent_is, announcing_is}
use Rattle.qp7.proofs.Gathering.{gathered_from_lem}

-- P holds at first, and every step over n blocks keeps it: a record, a silent block's end, a block's start, a segment that is closed
pub record Kept (f : List ℕ) (a n : ℕ) (P : Gathered → Type 0) : Type 0 where
  pub at_first : P nothing
  pub by_a_record : (g : Gathered) (size : ℕ) → record_at (stream_at f a n) (506 * n) g.place ≡ answers size → P g → P (noted size g)
  pub by_an_end : (b : ℕ) → b < n → (g : Gathered) → P g → P (raised (506 * (b + 1)) g)
  pub by_a_start : (b : ℕ) → b < n → (g : Gathered) → P g → P (raised (frames_start b (first_of f a b)) g)
  pub by_closing : (g : Gathered) → P g → P (closing g)

module _ {P : Gathered → Type 0} (f : List ℕ) (a n : ℕ) (kept : Kept f a n P) where
  -- a block keeps it
  block_keeps_it : (b : ℕ) → b < n → (g g' : Gathered) → with_block f a n b g ≡ answers g' → P g → P g'
  block_keeps_it b h g g' e p =
      by_equal (count_of f a b) 0
      (λ none. for_the_answer P (sym (silent_is f a n b g none) ∙ e) (kept.by_an_end b h (closing g) (kept.by_closing g p)))
      (λ some.
      reads_keep {P = P} (stream_at f a n) (506 * n) kept.by_a_record (count_of f a b) (raised (frames_start b (first_of f a b)) g) g'
      (sym (announcing_is f a n b g some) ∙ e) (kept.by_a_start b h g p))

  -- and so does the walk
  pub walk_keeps_it : (b : ℕ) → b ≤ n → (g : Gathered) → gathered_to f a n b ≡ answers g → P g
  unfolding gathered_to
  walk_keeps_it zero h g e = for_the_answer P e kept.at_first
  walk_keeps_it (suc b) h g e =
      let w = went_on (gathered_to f a n b) (with_block f a n b) e in
      block_keeps_it b (omega arith) w.0 g w.2 (walk_keeps_it b (omega arith) w.0 w.1)

  -- of m records from g on so many are read, and the next one is refused, where P holds
  record StopsIn (m : ℕ) (g : Gathered) (why : Numbers) : Type 0 where
    pub read : ℕ
    pub few : read < m
    pub here : Gathered
    pub reads_to : reads (stream_at f a n) (506 * n) read g ≡ answers here
    pub holds : P here
    pub refused : record_at (stream_at f a n) (506 * n) here.place ≡ refusal why

  stop_in : (m : ℕ) (g : Gathered) {why : Numbers} → reads (stream_at f a n) (506 * n) m g ≡ refusal why → P g → StopsIn m g why
  unfolding reads
  stop_in zero g e p = absurd (not_both (sym e))
  stop_in (suc m) g {why} e p =
      by_onward {X = StopsIn (suc m) g why} (record_at (stream_at f a n) (506 * n) g.place) _ e
      (λ here. record { read = 0; few = omega arith; here = g; reads_to = refl; holds = p; refused = here })
      (λ size found rest.
      let later = stop_in m (noted size g) rest (kept.by_a_record g size found p) in
      record {
        read = suc later.read;
        few = omega (arith, later.few);
        here = later.here;
        reads_to = ap (λ said. onward said (λ one. reads (stream_at f a n) (506 * n) later.read (noted one g))) found ∙ later.reads_to;
        holds = later.holds;
        refused = later.refused;
      })

  -- where the walk stops a record is refused, and P holds
  pub record Stopped (why : Numbers) : Type 0 where
    pub here : Gathered
    pub holds : P here
    pub stops : Stops f a n here.place
    pub refused : record_at (stream_at f a n) (506 * n) here.place ≡ refusal why

  pub walk_stops : (b : ℕ) → b ≤ n → {why : Numbers} → gathered_to f a n b ≡ refusal why → Stopped why
  unfolding gathered_to
  walk_stops zero h e = absurd (not_both (sym e))
  walk_stops (suc b) h {why} e =
      by_onward {X = Stopped why} (gathered_to f a n b) (with_block f a n b) e (λ earlier. walk_stops b (omega arith) earlier)
      (λ g came here.
      by_equal (count_of f a b) 0 (λ none. absurd (not_both (sym here ∙ silent_is f a n b g none)))
      (λ some.
      let start = raised (frames_start b (first_of f a b)) g in
      let p = kept.by_a_start b (omega arith) g (walk_keeps_it b (omega arith) g came) in
      let s = stop_in (count_of f a b) start (sym (announcing_is f a n b g some) ∙ here) p in
      record {
        here = s.here;
        holds = s.holds;
        stops =
            record {
              block = b;
              block_there = omega arith;
              before = g;
              came_to = came;
              read = s.read;
              more_announced = s.few;
              here = s.here;
              reads_to = s.reads_to;
              place_is = refl;
            };
        refused = s.refused;
      }))

-- n records more
reads_many : (s : ℕ → ℕ) (long n : ℕ) (g g' : Gathered) → reads s long n g ≡ answers g' → length g'.records ≡ length g.records + n
unfolding reads
reads_many s long zero g g' e = for_the_answer (λ (x : Gathered). length x.records ≡ length g.records + 0) e (omega arith)
reads_many s long (suc n) g g' e =
    let w = went_on (record_at s long g.place) (λ size. reads s long n (noted size g)) e in
    omega (arith, reads_many s long n (noted w.0 g) g' w.2, length-append g.records (g.place ∷ []))

-- a block has as many as it announces
block_many : (f : List ℕ) (a n b : ℕ) (g g' : Gathered) → with_block f a n b g ≡ answers g'
    → length g'.records ≡ length g.records + count_of f a b
block_many f a n b g g' e =
    by_equal (count_of f a b) 0
    (λ none.
    for_the_answer (λ (x : Gathered). length x.records ≡ length g.records + count_of f a b) (sym (silent_is f a n b g none) ∙ e)
    (omega (arith, ap (λ (l : List ℕ). length l) (closing_records g), none)))
    (λ some.
    reads_many (stream_at f a n) (506 * n) (count_of f a b) (raised (frames_start b (first_of f a b)) g) g'
    (sym (announcing_is f a n b g some) ∙ e))

-- the first b blocks have as many as they announce
pub walk_many : (f : List ℕ) (a n b : ℕ) (g : Gathered) → gathered_to f a n b ≡ answers g → length g.records ≡ announced_in f a b
unfolding gathered_to announced_in
walk_many f a n zero g e = for_the_answer (λ (x : Gathered). length x.records ≡ 0) e refl
walk_many f a n (suc b) g e =
    let w = went_on (gathered_to f a n b) (with_block f a n b) e in
    omega (arith, block_many f a n b w.0 g w.2, walk_many f a n b w.0 w.1)

-- what was gathered before the last segment was closed
pub before_the_end : (f : List ℕ) (rec : Recording) (g : Gathered) → gathered_from f rec ≡ answers g
    → (h : Gathered) × (gathered_to f rec.start.0 rec.blocks rec.blocks ≡ answers h) × (closing h ≡ g)
before_the_end f rec g e =
    let w = went_on (gathered_to f rec.start.0 rec.blocks rec.blocks) (λ h. answers (closing h)) (sym (gathered_from_lem f rec) ∙ e) in
    (w.0, w.1, for_the_answer (λ (x : Gathered). closing w.0 ≡ x) w.2 refl)

-- all blocks have as many as they announce
pub records_many : (f : List ℕ) (rec : Recording) (g : Gathered) → gathered_from f rec ≡ answers g → length g.records ≡ announced_by f rec
records_many f rec g e =
    let h = before_the_end f rec g e in
    ap (λ (x : Gathered). length x.records) (sym h.2)
    ∙ ap length (closing_records h.0)
    ∙ walk_many f rec.start.0 rec.blocks rec.blocks h.0 h.1

-- a file that is read was admitted, and what was gathered is what its recording gathers
pub admitted_first : (f : List ℕ) (g : Gathered) → qp7_reading f ≡ answers g
    → (rec : Recording) × (ds2_admission f Qp7 ≡ answers rec) × (gathered_from f rec ≡ answers g)
unfolding qp7_reading
admitted_first f g e = went_on (ds2_admission f Qp7) (gathered_from f) e

-- and by whatever recording it was admitted
pub gathered_by : (f : List ℕ) (rec : Recording) (g : Gathered) → ds2_admission f Qp7 ≡ answers rec → qp7_reading f ≡ answers g
    → gathered_from f rec ≡ answers g
unfolding qp7_reading
gathered_by f rec g taken e = sym (ap (λ said. onward said (gathered_from f)) taken) ∙ e
