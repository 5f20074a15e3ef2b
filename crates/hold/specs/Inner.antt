-- What only contracts of inner functions speak of: parts of a run and of a reading, what a hold has, a block more, and packets that are
-- handed out of a hold. Assumes nothing.
use Rattle.std.specs.Prelude.{ℕ, ◌+◌, ◌*◌, ◌≤◌, ◌<◌, ◌-◌, ◌≡◌, List, Bool, false, true, length, get_or}
use Rattle.tables.specs.Lent.{Leaves}
use Rattle.tables.specs.Table.{table}
use Rattle.blocks.specs.Headers.{swap_of, header_byte, Bytes, announced_in}
use Rattle.blocks.specs.Places.{Whole, stream_at, block_at}
use Rattle.packets.specs.Walk.{reach, parity}
use Rattle.sp.specs.declared.Run.{Run}
use Rattle.sp.specs.Readings.{Reading, total, carry_at, joined_byte_at, file_count_at}
use Rattle.hold.specs.Ready.{ready, reading_in}
use Rattle.hold.specs.Held.{held_from, base_at, block_fits, headers_from, waiting_at, first_byte, hold_at}
use Rattle.hold.specs.declared.Standing.{Standing}

-- m packets of a run from its packet k on
abbrev pub part_of : Run → ℕ → ℕ → Run
part_of run k m = record { start = record { 0 = run.start.0 + reach run.swap k }; swap = parity run.swap k; count = m }

-- m packets of a reading from its packet k on, with their counts, stand in the two lent buffers from number `base` on; and what is
-- carried after them
pub record PartWritten (reading : Reading) (k m base : ℕ) (out out' counts counts' : List ℕ) (carry : ℕ) : Type 0 where
  pub packets_are : Leaves out (42 * base) (42 * m) (λ i. joined_byte_at reading (42 * k + i)) out'
  pub counts_are : Leaves counts base m (λ i. file_count_at reading (k + i)) counts'
  pub carry_is : carry ≡ carry_at reading (k + m)

-- a hold has the bytes of s from a base on; s has `long` bytes, zeros past them, and none of them lies past the hold's end
pub record Holds (s : ℕ → ℕ) (long base : ℕ) (hold : List ℕ) : Type 0 where
  pub hold_is : hold ≡ held_from s base
  pub past : (q : ℕ) → long ≤ q → s q ≡ 0
  pub within : long ≤ base + 12288

-- a source has, from a place on, the payload that a stream s has from a base on
unfoldable pub Bears : List ℕ → ℕ → ℕ → (ℕ → ℕ) → Type 0
Bears source at base s = (i : ℕ) → i < 506 → s (base + i) ≡ get_or source (at + i) 0

-- the first `by` of the bytes that are held were dropped: if there are zeros past those held, every byte moves up by so many
pub record Dropped (list : List ℕ) (by held : ℕ) (list' : List ℕ) : Type 0 where
  pub long : length list' ≡ length list
  pub is : ((i : ℕ) → held ≤ i → get_or list i 0 ≡ 0) → list' ≡ table (length list) (λ i. get_or list (by + i) 0)

-- the numbers after b blocks, k packets having been handed out; n blocks of f are there in all
abbrev pub numbers_at : Bool → List ℕ → ℕ → ℕ → ℕ → ℕ → Standing
numbers_at dss f a n b k =
    record {
      announced = announced_in f a b;
      ready = ready dss f a b;
      base = record { 0 = base_at dss f a b };
      first = first_byte f a b;
      carry = carry_at (reading_in dss f a n) k;
    }

-- after b of the n blocks of f, when all packets that are ready have been handed out and no other
pub record Stands (dss : Bool) (f : List ℕ) (a n b : ℕ) (hold waiting : List ℕ) (now : Standing) : Type 0 where
  pub hold_is : hold ≡ hold_at dss f a b
  pub waiting_is : waiting ≡ waiting_at dss f a b
  pub numbers_are : now ≡ numbers_at dss f a n b (ready dss f a b)

-- how many packets become ready by block b
abbrev pub brought : Bool → List ℕ → ℕ → ℕ → ℕ
brought dss f a b = ready dss f a (b + 1) - ready dss f a b

-- some recording of which block b comes next: its bytes are those of a source from a place on, it fits, and there is room for what it
-- brings, behind `base` other packets, in an output of o bytes and a count table of c
pub record Next (dss : Bool) (b base : ℕ) (hold waiting : List ℕ) (now : Standing) (source : List ℕ) (at o c : ℕ) : Type 0 where
  pub f : List ℕ
  pub a : ℕ
  pub n : ℕ
  pub bytes : Bytes f
  pub whole : Whole f a n
  pub few : n ≤ 524288
  pub there : b < n
  pub stands : Stands dss f a n b hold waiting now
  pub in_source : at + 512 ≤ length source
  pub block_is : (i : ℕ) → i < 512 → get_or source (at + i) 0 ≡ get_or f (block_at a b + i) 0
  pub fits : block_fits dss f a b ≡ true
  pub out_room : 42 * (base + brought dss f a b) ≤ o
  pub counts_room : base + brought dss f a b ≤ c

-- it has been added, and what it brings stands in the lent buffers
pub record Added (dss : Bool) (f : List ℕ) (a n b base : ℕ) (hold waiting : List ℕ) (now : Standing) (out out' counts counts' : List ℕ) : Type 0 where
  pub stands : Stands dss f a n (b + 1) hold waiting now
  pub written : PartWritten (reading_in dss f a n) (ready dss f a b) (brought dss f a b) base out out' counts counts' now.carry

-- m packets from packet k on: the reading has them, the carry is theirs, and there is room behind `base` others in an output of o bytes
-- and a count table of c
pub record Due (reading : Reading) (k m carry base o c : ℕ) : Type 0 where
  pub owed : k + m ≤ total reading
  pub carry_is : carry ≡ carry_at reading k
  pub out_room : 42 * (base + m) ≤ o
  pub counts_room : base + m ≤ c

-- DS2: some recording of n blocks whose hold begins at or before packet k's read
pub record Walking (n k m base : ℕ) (hold : List ℕ) (place first carry o c : ℕ) : Type 0 where
  pub f : List ℕ
  pub a : ℕ
  pub few : n ≤ 524288
  pub bytes : Bytes f
  pub holds : Holds (stream_at f a n) (506 * n) place hold
  pub first_is : 0 < n → first ≡ header_byte f a 0 0
  pub begun : place ≤ reach (swap_of f a 0) k
  pub due : Due (reading_in false f a n) k m carry base o c

-- DSS: some recording of n blocks whose hold begins with block j; of that block and those after it d packets are out
pub record Queued (n j d m base : ℕ) (hold waiting : List ℕ) (carry o c : ℕ) : Type 0 where
  pub f : List ℕ
  pub a : ℕ
  pub few : n ≤ 524288
  pub bytes : Bytes f
  pub holds : Holds (stream_at f a n) (506 * n) (506 * j) hold
  pub waiting_is : waiting ≡ headers_from f a n j
  pub begun : j ≤ n
  pub near : n ≤ j + 22
  pub due : Due (reading_in true f a n) (announced_in f a j + d) m carry base o c

-- either: some recording whose n blocks are all added, d packets having been handed out beyond those that are ready
pub record Owing (dss : Bool) (n d m : ℕ) (hold waiting : List ℕ) (now : Standing) (o c : ℕ) : Type 0 where
  pub f : List ℕ
  pub a : ℕ
  pub few : n ≤ 524288
  pub bytes : Bytes f
  pub hold_is : hold ≡ hold_at dss f a n
  pub within : 506 * n ≤ base_at dss f a n + 12288
  pub waiting_is : waiting ≡ waiting_at dss f a n
  pub numbers_are : now ≡ numbers_at dss f a n n (ready dss f a n + d)
  pub owed : ready dss f a n + d + m ≤ announced_in f a n
  pub out_room : 42 * m ≤ o
  pub counts_room : m ≤ c
