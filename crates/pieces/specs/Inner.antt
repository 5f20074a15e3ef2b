-- What only contracts of inner functions speak of: inside a piece the bytes joined are those before, of which a reader has the last
-- block's beginning, and the piece. Assumes nothing.
use Rattle.std.specs.Prelude.{ℕ, ◌+◌, ◌*◌, ◌-◌, ◌≤◌, ◌<◌, ◌≡◌, List, Bool, true, false, length, get_or, leb, Result, Ok, Err}
use Rattle.blocks.specs.Places.{limit, whole_blocks, block_at}
use Rattle.blocks.specs.Headers.{Bytes, header_byte, announced_in}
use Rattle.refusals.specs.declared.Refusal.{Refusal}
use Rattle.refusals.specs.Numbers.{in_numbers, numbered}
use Rattle.refusals.specs.Said.{Said, answers, demand}
use Rattle.hold.specs.declared.Standing.{Standing}
use Rattle.hold.specs.Ready.{reading_in, ready}
use Rattle.hold.specs.Held.{block_fits, fits, waiting_at, hold_at}
use Rattle.hold.specs.Inner.{PartWritten, numbers_at, Stands, brought}
use Rattle.pieces.specs.declared.survey.Surveyed.{Surveyed}
use Rattle.pieces.specs.Joined.{bytes_from}

-- f is what was taken before, of which `partial` has the bytes from `tail` on, and the piece
pub record Joins (f partial piece : List ℕ) (taken tail : ℕ) : Type 0 where
  pub long : length f ≡ taken + length piece
  pub old : (i : ℕ) → tail + i < taken → get_or partial i 0 ≡ get_or f (tail + i) 0
  pub new : (i : ℕ) → i < length piece → get_or piece i 0 ≡ get_or f (taken + i) 0

-- what a reader that takes pieces knows of the bytes joined f, whose audio starts at a, before the piece is added
pub record Known (dss : Bool) (f : List ℕ) (a taken : ℕ) (was : Standing) (partial waiting piece : List ℕ) : Type 0 where
  pub joins : Joins f partial piece taken (block_at a (whole_blocks taken a))
  pub bytes : Bytes f
  pub small : length f ≤ limit
  pub numbers_are : was ≡ numbers_at dss f a (whole_blocks (length f) a) (whole_blocks taken a) (ready dss f a (whole_blocks taken a))
  pub waiting_is : waiting ≡ waiting_at dss f a (whole_blocks taken a)
  pub fit : fits dss f a (whole_blocks taken a) ≡ true

-- how many packets become ready by the bytes of f after the first so many
abbrev pub gained : Bool → List ℕ → ℕ → ℕ → ℕ
gained dss f a taken = ready dss f a (whole_blocks (length f) a) - ready dss f a (whole_blocks taken a)

-- what is said of a piece that a reader may take: every block fits, and there is room for all that becomes ready
unfoldable pub judged : Bool → List ℕ → ℕ → ℕ → ℕ → Said ℕ
judged dss f a taken room =
    demand (fits dss f a (whole_blocks (length f) a)) 7 12288
    (demand (leb (gained dss f a taken) room) 8 (gained dss f a taken) (answers (gained dss f a taken)))

-- going over a DS2 piece's blocks finds that all fit, what all blocks announce and the first block's byte 0; or that one does not, which is
-- refusal 7
abbrev pub Surveys : List ℕ → ℕ → Result Surveyed Refusal → Type 0
Surveys f a (Ok found) =
    (fits false f a (whole_blocks (length f) a) ≡ true) × (found.announced ≡ announced_in f a (whole_blocks (length f) a))
    × (0 < whole_blocks (length f) a → found.first ≡ header_byte f a 0 0)
Surveys f a (Err why) = (fits false f a (whole_blocks (length f) a) ≡ false) × (in_numbers why ≡ numbered 7 12288)

-- the hold is known too, every block fits, and there is room
pub record Able (dss : Bool) (f : List ℕ) (a taken : ℕ) (was : Standing) (hold partial waiting piece : List ℕ) (o c : ℕ) : Type 0 where
  pub known : Known dss f a taken was partial waiting piece
  pub hold_is : hold ≡ hold_at dss f a (whole_blocks taken a)
  pub all_fit : fits dss f a (whole_blocks (length f) a) ≡ true
  pub out_room : 42 * gained dss f a taken ≤ o
  pub counts_room : gained dss f a taken ≤ c

-- block b comes next among the bytes joined: it fits, and there is room for what it brings behind `number` other packets
pub record Coming (dss : Bool) (f : List ℕ) (a taken : ℕ) (was : Standing) (b number : ℕ) (hold partial waiting piece : List ℕ) (o c : ℕ) : Type 0 where
  pub joins : Joins f partial piece taken (block_at a b)
  pub bytes : Bytes f
  pub small : length f ≤ limit
  pub there : b < whole_blocks (length f) a
  pub near : taken ≤ block_at a b + 512
  pub stands : Stands dss f a (whole_blocks (length f) a) b hold waiting was
  pub fit : block_fits dss f a b ≡ true
  pub out_room : 42 * (number + brought dss f a b) ≤ o
  pub counts_room : number + brought dss f a b ≤ c

-- b blocks have been added, and what became ready by them since the piece began stands in front in the lent buffers
pub record Adding (dss : Bool) (f : List ℕ) (a taken b : ℕ) (hold waiting : List ℕ) (now : Standing) (out out' counts counts' : List ℕ) : Type 0 where
  pub stands : Stands dss f a (whole_blocks (length f) a) b hold waiting now
  pub written : PartWritten (reading_in dss f a (whole_blocks (length f) a)) (ready dss f a (whole_blocks taken a))
      (ready dss f a b - ready dss f a (whole_blocks taken a)) 0 out out' counts counts' now.carry

-- all of them have, and the bytes of a block that is not whole are kept
pub record Absorbed (dss : Bool) (f : List ℕ) (a taken : ℕ) (hold partial waiting : List ℕ) (now : Standing) (out out' counts counts' : List ℕ) : Type 0 where
  pub added : Adding dss f a taken (whole_blocks (length f) a) hold waiting now out out' counts counts'
  pub partial_is : partial ≡ bytes_from f (block_at a (whole_blocks (length f) a))
