-- Which packets are ready when the first n whole blocks of f from a on are there. DS2: every packet whose read is complete in them, as far
-- as announced. DSS: the packets of a block come together, in block order. Assumes nothing.
use Rattle.std.specs.Prelude.{ℕ, ◌+◌, ◌*◌, List, Bool, false, cond, leb}
use Rattle.tables.specs.Leading.{leading}
use Rattle.blocks.specs.Headers.{announced_in}
use Rattle.packets.specs.Packet.{read_size}
use Rattle.packets.specs.Walk.{reach}
use Rattle.sp.specs.declared.Run.{Run}
use Rattle.sp.specs.ReadLists.{dss_run, dss_runs, ds2_runs}
use Rattle.sp.specs.Readings.{Reading, walk_at, reading_of}

-- the reading of those blocks, whatever the file's magic and type are
abbrev pub reading_in : Bool → List ℕ → ℕ → ℕ → Reading
reading_in dss f a n = reading_of f (record { start = record { 0 = a }; blocks = n }) (cond dss dss_runs ds2_runs)

-- where a run's reads end; for a run of no packets that is where they would begin
abbrev pub ends_at : Run → ℕ
ends_at run = run.start.0 + reach run.swap run.count

-- DS2: the read of packet k of a reading is complete
abbrev pub is_complete : Reading → ℕ → Bool
is_complete reading k = leb ((walk_at reading k).place + read_size (walk_at reading k).swap) reading.long

-- DSS: block b's reads are all complete in n blocks
abbrev pub read_in : List ℕ → ℕ → ℕ → ℕ → Bool
read_in f a n b = leb (ends_at (dss_run f a b)) (506 * n)

-- DSS: how many blocks have left, and so the number of the first that waits
unfoldable pub front : List ℕ → ℕ → ℕ → ℕ
front f a n = leading (read_in f a n) n

-- how many packets are ready
unfoldable pub ready : Bool → List ℕ → ℕ → ℕ → ℕ
ready dss f a n =
    cond dss (announced_in f a (front f a n)) (leading (is_complete (reading_in false f a n)) (announced_in f a n))
