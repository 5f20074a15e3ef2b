-- What a whole reading hands out, in three numbers: how many packets, frames or records there are, how many of them are short, and how
-- many bytes they have from the file. Each number is of the reading's own definition. Assumes nothing.
use Rattle.std.specs.Prelude.{ℕ, ◌+◌, List, not, length}
use Rattle.tables.specs.Table.{table, sum, sum_of}
use Rattle.tables.specs.Counting.{how_many}
use Rattle.sp.specs.Readings.{Reading, total, file_count_at}
use Rattle.sp.specs.Whole.{whole_at}
use Rattle.qp.specs.declared.Segment.{Segment}
use Rattle.qp.specs.Handed.{handed_out_of, short_of, bytes_in}
use Rattle.qp7.specs.Records.{record_size}
use Rattle.tally.specs.declared.HandedOut.{HandedOut}

-- SP: all packets, those of them that are not whole, and their file-byte counts added up
abbrev pub packets_out : Reading → HandedOut
packets_out reading =
    record {
      many = total reading;
      short = how_many (total reading) (λ k. not (whole_at reading k));
      bytes = sum (table (total reading) (file_count_at reading));
    }

-- QP: the frames that are handed out, the short ones, and their sizes added up
abbrev pub frames_out : List Segment → HandedOut
frames_out segments = record { many = handed_out_of segments; short = short_of segments; bytes = bytes_in segments }

-- QP7: all records, at these places of the stream s, and their sizes added up. None is short: a record that is cut is refused
abbrev pub sizes_of : (ℕ → ℕ) → List ℕ → ℕ
sizes_of s places = sum_of (λ q. record_size (s (q + 1))) places

abbrev pub records_out : (ℕ → ℕ) → List ℕ → HandedOut
records_out s places = record { many = length places; short = 0; bytes = sizes_of s places }
