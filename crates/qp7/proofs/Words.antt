-- What both tables hold once the words are over their fronts.
-- Assumes nothing.
use Prim.Native.Nat.{ℕ, ◌+◌, ◌*◌, ◌≤◌}
use mathlib.Core.Path.{◌≡◌, refl, ap, ◌∙◌}
use mathlib.Core.List.{List}
use native.Mathlib.Omega.{arith}
use lib.ListN.{length, get_or}
use Rattle.tables.specs.Lent.{Leaves}
use Rattle.tables.specs.Entries.{fronted}
use Rattle.tables.proofs.Entries.{entries_stand}
use Rattle.tables.proofs.Lent.{leaves_at, over_leaves}
use Rattle.qp7.specs.Walk.{Gathered, place_at, no_segment}
use Rattle.qp7.specs.Outcome.{width, entry_of, record_words, segment_words, TablesHold}

-- both tables, with all words over their fronts
pub tables_by : (g : Gathered) (records records' segments segments' : List ℕ) → length g.records ≤ length records
    → width * length g.closed ≤ length segments → records' ≡ fronted (record_words g) records → segments' ≡ fronted (segment_words g) segments
    → TablesHold g records records' segments segments'
tables_by g records records' segments segments' room fits is are = rw (is, are) held
  where
    places : Leaves records 0 (length g.records) (place_at g) (fronted (record_words g) records)
    places = over_leaves (length g.records) (place_at g) records room

    front : (i : ℕ) → width * i ≡ width * i + 0
    front i = omega arith

    held : TablesHold g records (fronted (record_words g) records) segments (fronted (segment_words g) segments)
    held =
        let entries = entries_stand entry_of width (λ x. refl) g.closed no_segment segments fits in
        record {
          places = λ k h. leaves_at places k h;
          firsts = λ i h. ap (λ (k : ℕ). get_or (fronted (segment_words g) segments) k 0) (front i) ∙ entries.0 i 0 h (omega arith);
          counts = λ i h. entries.0 i 1 h (omega arith);
          resets = λ i h. entries.0 i 2 h (omega arith);
          records_past = λ k h. places.high k (omega arith);
          segments_past = λ k h. entries.1 k h;
          records_long = places.long;
          segments_long = entries.2;
        }
