-- The packet found through an index: from its entry's place on, by its block's flag, with what the blocks before it carry on, recomputed from the
-- file. Assumes nothing.
use Rattle.std.specs.Prelude.{ℕ, ◌*◌, ◌-◌, List, [], ◌∷◌, true, false}
use Rattle.blocks.specs.Headers.{swap_of}
use Rattle.refusals.specs.Said.{Said, answers, onward}
use Rattle.whole.specs.declared.Recording.{Recording}
use Rattle.whole.specs.Admissions.{admission, stream_in}
use Rattle.packets.specs.Walk.{Walk, steps}
use Rattle.sp.specs.Runs.{carry_past}
use Rattle.sp.specs.ReadLists.{dss_runs}
use Rattle.sp.specs.Readings.{Reading}
use Rattle.entries.specs.declared.Entry.{Entry}
use Rattle.finding.specs.Finding.{found_beside}

-- what the reads of the blocks before block b carry on to it
abbrev pub carried_into : List ℕ → Recording → ℕ → ℕ
carried_into f rec b = carry_past (stream_in f rec) 0 (dss_runs f rec.start.0 b)

-- where the reads of an entry's block begin, and where packet p of the recording is read: so many packets on
abbrev pub begins_by : List ℕ → Recording → Entry → Walk
begins_by f rec entry =
    record {
      place = entry.place.0;
      carry = carried_into f rec entry.number;
      swap = swap_of f rec.start.0 entry.number;
    }

abbrev pub stands_by : List ℕ → Recording → Entry → ℕ → Walk
stands_by f rec entry p = steps (stream_in f rec) (begins_by f rec entry) (p - entry.first)

-- a reading of one read, that at which a walk stands
abbrev pub alone : List ℕ → Recording → Walk → Reading
alone f rec w =
    record {
      stream = stream_in f rec;
      long = 506 * rec.blocks;
      carry = w.carry;
      runs = record { start = record { 0 = w.place }; swap = w.swap; count = 1 } ∷ [];
    }

-- packet p by an entry
abbrev pub by_entry : List ℕ → Recording → ℕ → Entry → Reading
by_entry f rec p entry = alone f rec (stands_by f rec entry p)

-- by an index beside a recording, and beside any file: refusals as in finding
abbrev pub packet_beside : List ℕ → Recording → List ℕ → ℕ → Said Reading
packet_beside f rec x p = onward (found_beside f rec x p) (λ entry. answers (by_entry f rec p entry))

unfoldable pub packet_found : List ℕ → List ℕ → ℕ → Said Reading
packet_found f x p = onward (admission f true false) (λ rec. packet_beside f rec x p)
