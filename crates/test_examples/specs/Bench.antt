-- The examples from the bench that are proved: one definition for each, and the table of them all.
-- Assumes nothing.
use Rattle.std.specs.Prelude.{ℕ, ◌+◌, ◌*◌, ◌≤◌, ◌<◌, ◌≡◌, List, [], ◌∷◌, true, false, length, get_or, take, drop}
use Rattle.tables.specs.Table.{table, sum}
use Rattle.blocks.specs.Places.{whole_blocks, stream_at}
use Rattle.blocks.specs.Headers.{swap_of, first_of, count_of, type_of}
use Rattle.refusals.specs.Numbers.{lacking}
use Rattle.refusals.specs.Said.{Said, answers, refuses, refusal}
use Rattle.detect.specs.declared.Kind.{Kind}
use Rattle.detect.specs.declared.Kind.TheVariants.{Sp, Qp, Qp7}
use Rattle.detect.specs.Header.{good_header}
use Rattle.detect.specs.Kinds.{read_as}
use Rattle.packets.specs.Packet.{packet_byte}
use Rattle.packets.specs.Start.{dss_start}
use Rattle.sp.specs.Readings.{Reading, total, file_count_at, ds2_reading}
use Rattle.sp.specs.Outcome.{in_room, answered}
use Rattle.qp.specs.declared.Segment.{Segment}
use Rattle.qp.specs.Segments as qp
use Rattle.qp.specs.Segments.{qp_reading}
use Rattle.qp.specs.Outcome.{entry_of}
use Rattle.qp7.specs.Records.{record_size}
use Rattle.qp7.specs.Walk.{qp7_reading}

-- a file that begins with this byte and `ds2`
pub record BeginsDs2 (byte : ℕ) (f : List ℕ) : Type 0 where
  pub first : get_or f 0 0 ≡ byte
  pub d : get_or f 1 0 ≡ 100
  pub s : get_or f 2 0 ≡ 115
  pub two : get_or f 3 0 ≡ 50

-- what the DS2 SP reading of a file answers, given room for so many packets
abbrev pub ds2_answer : List ℕ → ℕ → Said ℕ
ds2_answer f room = answered (in_room (ds2_reading f) room)

-- 1: every `\x01ds2` file of 1536 bytes reads as SP with no packets, and every one of 1535 is refused by 3 with 1536
abbrev pub Example1 : Type 0
Example1 =
    (f : List ℕ) (room : ℕ) → BeginsDs2 1 f
    → (length f ≡ 1536 → ds2_answer f room ≡ answers 0) × (length f ≡ 1535 → ds2_answer f room ≡ refuses 3 1536)

-- a `\x01ds2` file of so many whole blocks, of which the first announces something and has a type that is read as this kind
pub record Ds2File (kind : Kind) (blocks : ℕ) (f : List ℕ) : Type 0 where
  pub begins : BeginsDs2 1 f
  pub whole : whole_blocks (length f) 1536 ≡ blocks
  pub announces : 0 < count_of f 1536 0
  pub type_is : read_as (type_of f 1536 0) kind ≡ true

-- 2: every QP file of two blocks, the first with byte 1 = 3: if that announces 10 and the second has byte 1 = 30, there is one segment,
-- whatever the second announces. If it announces 9 and the second has byte 1 = 3, there are two if the second announces anything and
-- one if not, and (0, 504, 9, 0) is the first
abbrev pub Example2 : Type 0
Example2 =
    (f : List ℕ) → Ds2File Qp 2 f → first_of f 1536 0 ≡ 3
    → (r : qp.Reading) × (qp_reading f ≡ answers r)
    × (count_of f 1536 0 ≡ 10 → first_of f 1536 1 ≡ 30 → length r.segments ≡ 1)
    × (count_of f 1536 0 ≡ 9 → first_of f 1536 1 ≡ 3
    → (0 < count_of f 1536 1 → length r.segments ≡ 2) × (count_of f 1536 1 ≡ 0 → length r.segments ≡ 1)
    × ((none : Segment) → entry_of (get_or r.segments 0 none) ≡ 0 ∷ 504 ∷ 9 ∷ 0 ∷ []))

-- 3: every `\x07ds2` file with no good header at a multiple of 512 is refused by 3 with 4096 if it has 4095 bytes, and is empty if it
-- has 4096
abbrev pub Example3 : Type 0
Example3 =
    (f : List ℕ) (room : ℕ) → BeginsDs2 7 f → ((i : ℕ) → good_header (drop (512 * i) f) ≡ false)
    → (length f ≡ 4095 → ds2_answer f room ≡ refuses 3 4096) × (length f ≡ 4096 → ds2_answer f room ≡ answers 0)

-- 4: a swapped read of 0 to 39 with carry 99 begins 1, 99, 3, 0, 5, 2 and ends 39, 36, 0, 38
abbrev pub swapped_read : List ℕ
swapped_read = table 42 (packet_byte true 99 (λ j. j))

abbrev pub Example4 : Type 0
Example4 = (take 6 swapped_read ≡ 1 ∷ 99 ∷ 3 ∷ 0 ∷ 5 ∷ 2 ∷ []) × (drop 38 swapped_read ≡ 39 ∷ 36 ∷ 0 ∷ 38 ∷ [])

-- 5: every QP7 file of one block that announces 10 records, where each of those that follow one another by 56 bytes is a long one as far
-- as the block has its second byte: with byte 1 = 3 it is refused by 5 at 504, where 54 of 56 bytes are absent, and with byte 1 = 4 by 4 at
-- 506, where both bytes are absent that would tell the size
abbrev pub AllLong : List ℕ → ℕ → Type 0
AllLong f start = (k : ℕ) → start + 56 * k + 2 ≤ 506 → record_size (stream_at f 1536 1 (start + 56 * k + 1)) ≡ 56

abbrev pub Example5 : Type 0
Example5 =
    (f : List ℕ) → Ds2File Qp7 1 f → count_of f 1536 0 ≡ 10
    → (first_of f 1536 0 ≡ 3 → AllLong f 0 → qp7_reading f ≡ refusal (lacking 5 504 56 54))
    × (first_of f 1536 0 ≡ 4 → AllLong f 2 → qp7_reading f ≡ refusal (lacking 4 506 0 2))

-- 6: every SP file of one block, with flag 0 and count 13, reads as 13 packets, of which the last has count 14, and the counts add up to
-- 506
abbrev pub Example6 : Type 0
Example6 =
    (f : List ℕ) → Ds2File Sp 1 f → swap_of f 1536 0 ≡ false → count_of f 1536 0 ≡ 13
    → (r : Reading) × (ds2_reading f ≡ answers r) × (total r ≡ 13) × (file_count_at r 12 ≡ 14) × (sum (table 13 (file_count_at r)) ≡ 506)

-- 7: the DSS start in block 0 with flag 1 is 506 for byte 1 = 255, 0 for 2, and 2 for 3
abbrev pub Example7 : Type 0
Example7 = (dss_start 0 255 true ≡ 506) × (dss_start 0 2 true ≡ 0) × (dss_start 0 3 true ≡ 2)

-- the table: an example's number on the bench, and what it says
pub record Example : Type 1 where
  pub number : ℕ
  pub says : Type 0

abbrev pub bench : List Example
bench =
    record { number = 1; says = Example1 } ∷ record { number = 2; says = Example2 } ∷ record { number = 3; says = Example3 } ∷ record { number = 4; says = Example4 }
    ∷ record { number = 5; says = Example5 } ∷ record { number = 6; says = Example6 } ∷ record { number = 7; says = Example7 } ∷ []

-- every example of a table holds
abbrev pub AllHold : List Example → Type 0
AllHold [] = Unit
AllHold (example ∷ rest) = example.says × AllHold rest
