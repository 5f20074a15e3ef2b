-- An SP reading of a file: its payload stream, how long that is, what is carried before its first packet, and the runs of its reads. What it
-- hands out follows. A whole reading begins with nothing carried.
-- Assumes nothing.
use Rattle.std.specs.Prelude.{ℕ, ◌*◌, ◌/◌, ◌%◌, List, true, false}
use Rattle.tables.specs.Table.{table}
use Rattle.blocks.specs.Places.{stream_at}
use Rattle.refusals.specs.Said.{Said, answers, onward}
use Rattle.whole.specs.declared.Recording.{Recording}
use Rattle.detect.specs.declared.Kind.TheVariants.{Sp}
use Rattle.whole.specs.Admissions.{admission, ds2_admission}
use Rattle.packets.specs.Walk.{Walk, byte_of, count_at, Complete}
use Rattle.sp.specs.declared.Run.{Run}
use Rattle.sp.specs.Runs.{packets_in, stands_at}
use Rattle.sp.specs.ReadLists.{dss_runs, ds2_runs}

-- a reading
pub record Reading : Type 0 where
  pub stream : ℕ → ℕ
  pub long : ℕ
  pub carry : ℕ
  pub runs : List Run

-- how many packets it has
abbrev pub total : Reading → ℕ
total reading = packets_in reading.runs

-- where it stands before packet k
abbrev pub walk_at : Reading → ℕ → Walk
walk_at reading k = stands_at reading.stream reading.carry reading.runs k

-- what is carried before packet k
abbrev pub carry_at : Reading → ℕ → ℕ
carry_at reading k = (walk_at reading k).carry

-- packet k, and its file-byte count
abbrev pub packet_at : Reading → ℕ → List ℕ
packet_at reading k = table 42 (byte_of reading.stream (walk_at reading k))

abbrev pub file_count_at : Reading → ℕ → ℕ
file_count_at reading k = count_at reading.long (walk_at reading k)

-- all the bytes of its read came from the file: that is so exactly when its count is its read size (`complete_exactly`)
abbrev pub CompleteAt : Reading → ℕ → Type 0
CompleteAt reading k = Complete reading.long (walk_at reading k)

-- byte j of the packets joined
abbrev pub joined_byte_at : Reading → ℕ → ℕ
joined_byte_at reading j = byte_of reading.stream (walk_at reading (j / 42)) (j % 42)

-- a recording read whole, by a list of runs
abbrev pub reading_of : List ℕ → Recording → (List ℕ → ℕ → ℕ → List Run) → Reading
reading_of f rec runs =
    record {
      stream = stream_at f rec.start.0 rec.blocks;
      long = 506 * rec.blocks;
      carry = 0;
      runs = runs f rec.start.0 rec.blocks;
    }

-- what was admitted, read so; a refusal is passed on
abbrev pub read_by : List ℕ → Said Recording → (List ℕ → ℕ → ℕ → List Run) → Said Reading
read_by f said runs = onward said (λ rec. answers (reading_of f rec runs))

-- of any file: refusals 1, 2 and 3 for DSS, and 11 after them for DS2
unfoldable pub dss_reading : List ℕ → Said Reading
dss_reading f = read_by f (admission f true false) dss_runs

unfoldable pub ds2_reading : List ℕ → Said Reading
ds2_reading f = read_by f (ds2_admission f Sp) ds2_runs
