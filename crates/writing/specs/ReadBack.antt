-- What a whole reading gives of a file that was written from a list of packets: the same packets, in the same number and order, each with
-- all the bytes of its read. Assumes nothing.
use Rattle.std.specs.Prelude.{ℕ, ◌*◌, ◌<◌, ◌≡◌, List, false, take, drop}
use Rattle.tables.specs.Table.{table}
use Rattle.refusals.specs.Said.{answers}
use Rattle.packets.specs.Packet.{read_size}
use Rattle.packets.specs.Walk.{parity}
use Rattle.sp.specs.Readings.{Reading, total, walk_at, packet_at, file_count_at, joined_byte_at, ds2_reading}
use Rattle.writing.specs.Laying.{many_in}

-- the file is read whole as DS2 SP, and so are its packets
pub record ReadsBack (packets file : List ℕ) (reading : Reading) : Type 0 where
  pub is_read : ds2_reading file ≡ answers reading
  pub many : total reading ≡ many_in packets
  pub same : (k : ℕ) → k < total reading → packet_at reading k ≡ take 42 (drop (42 * k) packets)
  pub joined : table (42 * total reading) (joined_byte_at reading) ≡ packets
  pub swapped : (k : ℕ) → k < total reading → (walk_at reading k).swap ≡ parity false k
  pub full : (k : ℕ) → k < total reading → file_count_at reading k ≡ read_size (parity false k)
