-- A packet of a DS2 SP recording straight from its number. Reads of 42 and 40 bytes take turns, so that a pair takes 82 bytes, whichever comes
-- first: place and parity follow from the number. What a swapped packet is given is byte 40 of the read before it, which stands two places before
-- its own. Assumes nothing.
use Rattle.std.specs.Prelude.{ℕ, ◌*◌, ◌-◌, List, [], ◌∷◌, Bool, cond, eqb, ltb}
use Rattle.blocks.specs.Headers.{swap_of}
use Rattle.refusals.specs.Said.{Said, answers, demand, onward}
use Rattle.detect.specs.declared.Kind.TheVariants.{Sp}
use Rattle.whole.specs.declared.Recording.{Recording}
use Rattle.whole.specs.Admissions.{announced_by, ds2_admission, stream_in}
use Rattle.packets.specs.Walk.{reach, parity}
use Rattle.sp.specs.declared.Run.{Run}
use Rattle.sp.specs.Readings.{Reading}

-- where the byte stands that is carried to a packet k past the first: two places before its read
abbrev pub carried_from : Bool → ℕ → ℕ
carried_from swap k = reach swap k - 2

-- what is carried to packet k: nothing to packet 0, and else that byte
unfoldable pub carried_to : (ℕ → ℕ) → Bool → ℕ → ℕ
carried_to s swap k = cond (eqb k 0) 0 (s (carried_from swap k))

-- the one read of packet k, by the parity of packet 0
abbrev pub read_of : Bool → ℕ → Run
read_of swap k = record { start = record { 0 = reach swap k }; swap = parity swap k; count = 1 }

-- packet k of a recording: a reading of that read alone. The first block's flag is the parity of packet 0
abbrev pub straight : List ℕ → Recording → ℕ → Reading
straight f rec k =
    record {
      stream = stream_in f rec;
      long = 506 * rec.blocks;
      carry = carried_to (stream_in f rec) (swap_of f rec.start.0 0) k;
      runs = read_of (swap_of f rec.start.0 0) k ∷ [];
    }

-- the number is to be below the packets announced: refusal 18 with how many these are
abbrev pub of_number : List ℕ → Recording → ℕ → Said Reading
of_number f rec k = demand (ltb k (announced_by f rec)) 18 (announced_by f rec) (answers (straight f rec k))

-- of any file: refusals 1, 2, 3 and 11 as of a whole reading, and then the number
unfoldable pub packet_reading : List ℕ → ℕ → Said Reading
packet_reading f k = onward (ds2_admission f Sp) (λ rec. of_number f rec k)
