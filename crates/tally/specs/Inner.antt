-- What only contracts of inner functions speak of: what is handed out, added up, and the runs of a recording so far.
-- Assumes nothing.
use Rattle.std.specs.Prelude.{ℕ, ◌+◌, ◌-◌, min, ◌≡◌, List, [], ◌∷◌, ◌++◌, Bool, not, cond, ◌&&◌, eqb, ltb}
use Rattle.packets.specs.Walk.{reach}
use Rattle.packets.specs.Inner.{upto_unswapped}
use Rattle.sp.specs.declared.Run.{Run}
use Rattle.sp.specs.Readings.{Reading, total}
use Rattle.sp.specs.Whole.{sourced_at}
use Rattle.tally.specs.declared.HandedOut.{HandedOut}
use Rattle.tally.specs.declared.in_packets.Added.{Added}
use Rattle.tally.specs.HandedOut.{packets_out}

-- nothing, and two such added up
abbrev pub none_out : HandedOut
none_out = record { many = 0; short = 0; bytes = 0 }

abbrev pub together : HandedOut → HandedOut → HandedOut
together x y = record { many = x.many + y.many; short = x.short + y.short; bytes = x.bytes + y.bytes }

-- how many packets of a run are short though their reads are complete, of which there are so many: the first, if it is swapped and what is
-- carried to it did not come from the file
abbrev pub ours_in : Bool → Bool → ℕ → ℕ
ours_in swap sourced complete = cond (ltb 0 complete) (cond (swap && not sourced) 1 0) 0

-- whether what is carried past so many reads came from the file, if so many bytes are left for them: byte 40 of the last unswapped one, which is its
-- last but one
abbrev pub past_by : Bool → ℕ → ℕ → Bool → Bool
past_by swap count left sourced =
    cond (eqb (upto_unswapped swap count) 0) sourced (ltb (reach swap (upto_unswapped swap count)) (left + 2))

-- what a run adds of which so many reads are complete, and for which so many bytes are left
abbrev pub adds_by : Bool → ℕ → ℕ → ℕ → Bool → Added
adds_by swap count complete left sourced =
    record {
      out = record { many = count; short = count - complete + ours_in swap sourced complete; bytes = min (reach swap count) left };
      sourced = past_by swap count left sourced;
    }

-- a reading by these runs
abbrev pub by : (ℕ → ℕ) → ℕ → List Run → Reading
by s long runs = record { stream = s; long = long; carry = 0; runs = runs }

-- what is carried on past all of them came from the file
abbrev pub sourced_past : (ℕ → ℕ) → ℕ → List Run → Bool
sourced_past s long runs = sourced_at (by s long runs) (total (by s long runs))

-- what one run more adds
pub record Adds (s : ℕ → ℕ) (long : ℕ) (runs : List Run) (run : Run) (added : Added) : Type 0 where
  pub out_is : together (packets_out (by s long runs)) added.out ≡ packets_out (by s long (runs ++ (run ∷ [])))
  pub sourced_is : added.sourced ≡ sourced_past s long (runs ++ (run ∷ []))
