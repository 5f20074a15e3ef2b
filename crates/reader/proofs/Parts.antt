-- So many packets of a reading from a number on, and their counts: two parts that follow one another, the first of a part, what a call
-- wrote in front, and what a longer input keeps. Assumes nothing.
use Prim.Native.Nat.{ℕ, ◌+◌, ◌*◌, ◌-◌, ◌/◌, ◌%◌, ◌≤◌, ◌<◌}
use mathlib.Core.Path.{◌≡◌, refl, sym, ap, ap₂, ◌∙◌}
use mathlib.Core.List.{List, [], ◌++◌}
use native.Mathlib.Omega.{arith}
use lib.ListN.{length, get_or, take, length-append, get_or-append}
use lib.Seq.{length-take-le, get_or-take, get_or-append-add}
use Rattle.tables.specs.Table.{table}
use Rattle.tables.specs.Lent.{over}
use Rattle.tables.proofs.Cases.{by_order}
use Rattle.tables.proofs.Table.{length_table, table_at, is_table, same_table}
use Rattle.tables.proofs.Lent.{over_long, over_in}
use Rattle.sp.specs.Readings.{Reading, total, joined_byte_at, file_count_at}
use Rattle.sp.specs.Outcome.{room_in}
use Rattle.sp.specs.Longer.{SameAt}
use Rattle.hold.specs.Ready.{ready}
use Rattle.hold.proofs.Ready.{ready_none}
use Rattle.hold.proofs.Longer.{ready_same, ready_grows}
use Rattle.reader.specs.State.{is_dss, start_of, blocks_in, reading_by, ready_by}
use Rattle.reader.specs.History.{packets_from, counts_from}

-- a table that goes on after another is one table
table_joined : (n m : ℕ) (f g : ℕ → ℕ) → ((k : ℕ) → k < m → g k ≡ f (n + k)) → table n f ++ table m g ≡ table (n + m) f
table_joined n m f g goes_on =
    is_table (n + m) f (table n f ++ table m g)
    (length-append (table n f) (table m g) ∙ omega (arith, length_table n f, length_table m g))
    (λ k h.
    by_order k n
    (λ l. get_or-append (table n f) (table m g) 0 k (omega (arith, length_table n f)) ∙ table_at n f k l)
    (λ l.
    let at : k ≡ length (table n f) + (k - n) = omega (arith, length_table n f) in
    let back : n + (k - n) ≡ k = omega arith in
    ap (λ (j : ℕ). get_or (table n f ++ table m g) j 0) at
    ∙ get_or-append-add (table n f) (table m g) (k - n) 0
    ∙ table_at m g (k - n) (omega arith)
    ∙ goes_on (k - n) (omega arith)
    ∙ ap f back))

-- the first of a list that has a function's values is their table
take_is : (n : ℕ) (f : ℕ → ℕ) (l : List ℕ) → n ≤ length l → ((k : ℕ) → k < n → get_or l k 0 ≡ f k) → take n l ≡ table n f
take_is n f l long values = is_table n f (take n l) (length-take-le n l long) (λ k h. get_or-take n l k 0 h ∙ values k h)

take_table : (m n : ℕ) (f : ℕ → ℕ) → m ≤ n → take m (table n f) ≡ table m f
take_table m n f less = take_is m f (table n f) (omega (arith, length_table n f)) (λ k h. table_at n f k (omega arith))

take_over : (n : ℕ) (f : ℕ → ℕ) (d : List ℕ) → n ≤ length d → take n (over n f d) ≡ table n f
take_over n f d room = take_is n f (over n f d) (omega (arith, over_long n f d)) (λ k h. over_in n f d k h (omega arith))

-- these are n packets of a reading from its packet k on, and their counts
pub record Part (reading : Reading) (k n : ℕ) (packets entries : List ℕ) : Type 0 where
  pub packets_are : packets ≡ packets_from reading k n
  pub entries_are : entries ≡ counts_from reading k n

pub part_none : (reading : Reading) (k : ℕ) → Part reading k 0 [] []
unfolding packets_from counts_from table
part_none reading k = record { packets_are = refl; entries_are = refl }

-- n packets, and m after them
pub part_joined : {reading : Reading} {k n m : ℕ} {packets entries packets' entries' : List ℕ} → Part reading k n packets entries
    → Part reading (k + n) m packets' entries' → Part reading k (n + m) (packets ++ packets') (entries ++ entries')
unfolding packets_from counts_from
part_joined {reading} {k} {n} {m} v w =
    let bytes : 42 * n + 42 * m ≡ 42 * (n + m) = omega arith in
    record {
      packets_are =
          ap₂ ◌++◌ v.packets_are w.packets_are
          ∙ table_joined (42 * n) (42 * m) _ _
          (λ i h. let at : 42 * (k + n) + i ≡ 42 * k + (42 * n + i) = omega arith in ap (joined_byte_at reading) at)
          ∙ ap (λ (size : ℕ). table size (λ i. joined_byte_at reading (42 * k + i))) bytes;
      entries_are =
          ap₂ ◌++◌ v.entries_are w.entries_are
          ∙ table_joined n m _ _ (λ i h. let at : k + n + i ≡ k + (n + i) = omega arith in ap (file_count_at reading) at);
    }

-- the first m of n
pub part_first : (reading : Reading) (k m n : ℕ) → m ≤ n
    → Part reading k m (take (42 * m) (packets_from reading k n)) (take m (counts_from reading k n))
unfolding packets_from counts_from
part_first reading k m n less =
    record { packets_are = take_table (42 * m) (42 * n) _ (omega arith); entries_are = take_table m n _ less }

-- what a call leaves in front of the lent buffers
pub part_over : (reading : Reading) (k n : ℕ) (out counts : List ℕ) → n ≤ room_in out counts
    → Part reading k n (take (42 * n) (over (42 * n) (λ i. joined_byte_at reading (42 * k + i)) out))
    (take n (over n (λ i. file_count_at reading (k + i)) counts))
unfolding packets_from counts_from
part_over reading k n out counts room =
    record { packets_are = take_over (42 * n) _ out (omega arith); entries_are = take_over n _ counts (omega arith) }

-- and what a whole call leaves there
pub part_whole : (reading : Reading) (out counts : List ℕ) → total reading ≤ room_in out counts
    → Part reading 0 (total reading) (take (42 * total reading) (over (42 * total reading) (joined_byte_at reading) out))
    (take (total reading) (over (total reading) (file_count_at reading) counts))
unfolding packets_from counts_from
part_whole reading out counts room =
    record {
      packets_are =
          take_over (42 * total reading) _ out (omega arith)
          ∙ same_table (42 * total reading) _ _ (λ i h. let at : i ≡ 42 * 0 + i = omega arith in ap (joined_byte_at reading) at);
      entries_are =
          take_over (total reading) _ counts (omega arith)
          ∙ same_table (total reading) _ _ (λ i h. let at : i ≡ 0 + i = omega arith in ap (file_count_at reading) at);
    }

-- two readings whose packets are the same under these numbers
part_alike : {one other : Reading} {k n : ℕ} {packets entries : List ℕ} → ((j : ℕ) → j < k + n → SameAt one other j)
    → Part one k n packets entries → Part other k n packets entries
unfolding packets_from counts_from
part_alike {one} {other} {k} {n} same v =
    record {
      packets_are =
          v.packets_are
          ∙ same_table (42 * n) _ _
          (λ i h.
          let j = 42 * k + i in
          let inside : j % 42 < 42 = omega arith in
          sym (table_at 42 _ (j % 42) inside)
          ∙ ap (λ (packet : List ℕ). get_or packet (j % 42) 0) (same (j / 42) (omega arith)).bytes
          ∙ table_at 42 _ (j % 42) inside);
      entries_are = v.entries_are ∙ same_table n _ _ (λ i h. (same (k + i) (omega arith)).count);
    }

-- before its header is full an input has no packet ready
pub ready_in_header : (kind : ℕ) (f : List ℕ) → length f ≤ start_of kind → ready_by kind f ≡ 0
ready_in_header kind f short =
    let none : blocks_in kind f ≡ 0 = omega arith in
    ap (λ (n : ℕ). ready (is_dss kind) f (start_of kind) n) none ∙ ready_none (is_dss kind) f (start_of kind)

-- an input that goes on keeps the packets that are ready, and has no fewer
module _ (kind : ℕ) (f rest : List ℕ) where
  more_blocks : blocks_in kind f ≤ blocks_in kind (f ++ rest)
  more_blocks = omega (arith, length-append f rest)

  pub ready_more : ready_by kind f ≤ ready_by kind (f ++ rest)
  ready_more =
      by_order (length f) (start_of kind)
      (λ short. omega (arith, ready_in_header kind f (omega arith)))
      (λ full. ready_grows f rest (start_of kind) (blocks_in kind f) (blocks_in kind (f ++ rest)) (omega arith) more_blocks (is_dss kind))

  ready_stays : (k : ℕ) → k < ready_by kind f → SameAt (reading_by kind f) (reading_by kind (f ++ rest)) k
  ready_stays k h =
      by_order (length f) (start_of kind)
      (λ short. absurd (omega (arith, ready_in_header kind f (omega arith))))
      (λ full. ready_same (is_dss kind) f rest (start_of kind) (blocks_in kind f) (blocks_in kind (f ++ rest)) (omega arith) more_blocks k h)

  pub part_stays : {k n : ℕ} {packets entries : List ℕ} → k + n ≤ ready_by kind f → Part (reading_by kind f) k n packets entries
      → Part (reading_by kind (f ++ rest)) k n packets entries
  part_stays h v = part_alike (λ j l. ready_stays j (omega arith)) v
