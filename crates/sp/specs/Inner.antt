-- What only contracts of inner functions speak of: the reads of a run, what it leaves in the two lent buffers, after so many packets that
-- stand there already, and what is asked before a recording is read and written. Assumes nothing.
use Rattle.std.specs.Prelude.{ℕ, ◌+◌, ◌*◌, ◌^◌, ◌≤◌, ◌<◌, ◌≡◌, List, Bool, length}
use Rattle.tables.specs.Lent.{Leaves}
use Rattle.blocks.specs.Places.{Whole}
use Rattle.blocks.specs.declared.StreamPlace.{StreamPlace}
use Rattle.packets.specs.declared.Packet.{Packet}
use Rattle.packets.specs.Packet.{read_size}
use Rattle.packets.specs.Walk.{Walk, steps, count_at, reach, parity}
use Rattle.packets.specs.Inner.{joined_at}
use Rattle.whole.specs.declared.Recording.{Recording}
use Rattle.whole.specs.Admissions.{announced_by}
use Rattle.sp.specs.declared.Run.{Run}

-- where read n of a run begins
abbrev pub place_of : Run → ℕ → StreamPlace
place_of run n = record { 0 = run.start.0 + reach run.swap n }

-- a packet may be asked at each read of a run, whatever byte is carried to it
abbrev pub MayRead : (StreamPlace → Bool → ℕ → Type 0) → Run → Type 0
MayRead pre run = (n carry : ℕ) → n < run.count → carry < 256 → pre (place_of run n) (parity run.swap n) carry

-- and this is true of every packet that may be given there, by its read's parity, the carried byte and the read's place
abbrev pub EachRead : (StreamPlace → Bool → ℕ → Packet → Type 0) → Run → (Bool → ℕ → ℕ → Packet → Type 0) → Type 0
EachRead post run Is =
    (n carry : ℕ) (p : Packet) → n < run.count → carry < 256 → post (place_of run n) (parity run.swap n) carry p
    → Is (parity run.swap n) carry (place_of run n).0 p

-- the next read begins where this one ends
abbrev pub Goes : Bool → ℕ → ℕ → Packet → Type 0
Goes swap carry q p = p.next.0 ≡ q + read_size swap

-- the first `count` packets of the walk w over the stream s, with their counts, stand from number `base` on
pub record RunWritten (s : ℕ → ℕ) (long : ℕ) (w : Walk) (base count : ℕ) (out out' counts counts' : List ℕ) (carry : ℕ) : Type 0 where
  pub packets_are : Leaves out (42 * base) (42 * count) (joined_at s w) out'
  pub counts_are : Leaves counts base count (λ k. count_at long (steps s w k)) counts'
  pub carry_is : carry ≡ (steps s w count).carry

-- what is asked before a recording is read: its blocks are whole and few. The bounds here and below are far above what a file within
-- the limit has, and small enough that no place of a walk comes near 2^62
pub record Readable (f : List ℕ) (rec : Recording) : Type 0 where
  pub whole : Whole f rec.start.0 rec.blocks
  pub blocks_few : rec.blocks ≤ 2 ^ 32

-- and before it is written: its packets are few, and there is room for all of them
pub record Ready (f : List ℕ) (rec : Recording) (out counts : List ℕ) : Type 0 where
  pub readable : Readable f rec
  pub packets_few : announced_by f rec ≤ 2 ^ 48
  pub out_room : 42 * announced_by f rec ≤ length out
  pub counts_room : announced_by f rec ≤ length counts
