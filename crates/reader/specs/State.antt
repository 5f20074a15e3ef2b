-- A reader's state is its kind, the bytes joined so far, how many packets a lenient end has handed out, and its phase. Everything that a
-- Reader holds is a function of these. It looks at no magic and no type. Assumes nothing.
use Rattle.std.specs.Prelude.{ℕ, ◌+◌, ◌*◌, ◌-◌, ◌≤◌, ◌<◌, ◌≡◌, List, [], Bool, true, not, cond, length, eqb, leb}
use Rattle.blocks.specs.Places.{limit, whole_blocks, block_at}
use Rattle.blocks.specs.Headers.{Bytes, announced_in}
use Rattle.sp.specs.Readings.{Reading, carry_at}
use Rattle.hold.specs.Ready.{reading_in, ready}
use Rattle.hold.specs.Held.{base_at, fits, waiting_at, first_byte, hold_at}
use Rattle.pieces.specs.Joined.{bytes_from}
use Rattle.reader.specs.declared.Reader.{Reader}

-- a kind is 0, which is DS2, or 2 or 3, which are DSS
unfoldable pub is_kind : ℕ → Bool
is_kind kind = cond (eqb kind 0) true (cond (eqb kind 2) true (eqb kind 3))

abbrev pub is_dss : ℕ → Bool
is_dss kind = not (eqb kind 0)

-- where its audio starts
unfoldable pub start_of : ℕ → ℕ
start_of kind = cond (eqb kind 0) 1536 (512 * kind)

-- whole blocks among the bytes joined, the frames that they announce, their reading, and how many of its packets are ready
abbrev pub blocks_in : ℕ → List ℕ → ℕ
blocks_in kind f = whole_blocks (length f) (start_of kind)

abbrev pub announced_by : ℕ → List ℕ → ℕ
announced_by kind f = announced_in f (start_of kind) (blocks_in kind f)

abbrev pub reading_by : ℕ → List ℕ → Reading
reading_by kind f = reading_in (is_dss kind) f (start_of kind) (blocks_in kind f)

abbrev pub ready_by : ℕ → List ℕ → ℕ
ready_by kind f = ready (is_dss kind) f (start_of kind) (blocks_in kind f)

-- and whether each of those blocks could be added to the hold
abbrev pub fits_by : ℕ → List ℕ → Bool
fits_by kind f = fits (is_dss kind) f (start_of kind) (blocks_in kind f)

-- the phases are 0 while pieces are taken, 1 while the reader drains, 2 when it has ended
pub record State : Type 0 where
  pub kind : ℕ
  pub bytes : List ℕ
  pub drained : ℕ
  pub phase : ℕ

-- a fresh reader; and the ended one that a refused open gives back
abbrev pub opened : ℕ → State
opened kind = record { kind = kind; bytes = []; drained = 0; phase = 0 }

abbrev pub unopened : State
unopened = record { kind = 0; bytes = []; drained = 0; phase = 2 }

-- packets handed out so far, and frames owed: those announced that are not
abbrev pub handed : State → ℕ
handed s = ready_by s.kind s.bytes + s.drained

abbrev pub owed : State → ℕ
owed s = announced_by s.kind s.bytes - handed s

-- the Reader that stands for a state
abbrev pub reader_of : State → Reader
reader_of s =
    record {
      kind = s.kind;
      phase = s.phase;
      taken = length s.bytes;
      announced = announced_by s.kind s.bytes;
      ready = ready_by s.kind s.bytes;
      drained = s.drained;
      base = base_at (is_dss s.kind) s.bytes (start_of s.kind) (blocks_in s.kind s.bytes);
      first = first_byte s.bytes (start_of s.kind) (blocks_in s.kind s.bytes);
      carry = carry_at (reading_by s.kind s.bytes) (handed s);
      hold = hold_at (is_dss s.kind) s.bytes (start_of s.kind) (blocks_in s.kind s.bytes);
      partial = bytes_from s.bytes (block_at (start_of s.kind) (blocks_in s.kind s.bytes));
      waiting = waiting_at (is_dss s.kind) s.bytes (start_of s.kind) (blocks_in s.kind s.bytes);
    }

-- of so many bytes: there is no input yet, or a header that reaches to a is full
abbrev pub header_full : ℕ → ℕ → Bool
header_full a long = cond (eqb long 0) true (leb a long)

abbrev pub header_done : State → Bool
header_done s = header_full (start_of s.kind) (length s.bytes)

-- a sound state: what every state has that open or a call gave back, and no other
pub record Sound (s : State) : Type 0 where
  pub kind_is : is_kind s.kind ≡ true
  pub bytes_are : Bytes s.bytes
  pub small : length s.bytes ≤ limit
  pub fit : fits_by s.kind s.bytes ≡ true
  pub among : handed s ≤ announced_by s.kind s.bytes
  pub taking : s.phase ≡ 0 → s.drained ≡ 0
  pub draining : s.phase ≡ 1 → 0 < owed s
  pub ended : s.phase ≡ 2 → owed s ≡ 0
  pub header : (s.phase ≡ 0 → ⊥) → header_done s ≡ true
  pub phases : s.phase ≤ 2

-- a Reader that stands for a sound state, as every one does that open or a call gave back
pub record Reached (reader : Reader) : Type 0 where
  pub state : State
  pub is : reader ≡ reader_of state
  pub sound : Sound state
