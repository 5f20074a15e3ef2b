-- A refusal in numbers: its number and the number beside it; and of a record that cannot be read also its size, and how many bytes are absent.
-- Of every other refusal these two are 0. Assumes nothing.
use Rattle.std.specs.Prelude.{ℕ, ◌≡◌, List, [], ◌∷◌, ◌⊎◌}
use Rattle.refusals.specs.declared.Refusal.{Refusal}
use Rattle.refusals.specs.declared.Refusal.TheVariants.{Magic, Limit, Header, Selector, Record, Ended, Overflow, Room, Segments, Kind, OtherKind, Absent, Inside, Owed, Supplied, Packet, TooLong, Beyond, Index, IndexVersion, IndexEntry, Choice}
use Rattle.refusals.specs.declared.Numbers.{Numbers}

abbrev pub lacking : ℕ → ℕ → ℕ → ℕ → Numbers
lacking number beside size absent = record { number = number; beside = beside; size = size; absent = absent }

abbrev pub numbered : ℕ → ℕ → Numbers
numbered number beside = lacking number beside 0 0

-- the numbers of each refusal
abbrev pub in_numbers : Refusal → Numbers
in_numbers Magic = numbered 1 0
in_numbers (Limit limit) = numbered 2 limit
in_numbers (Header start) = numbered 3 start.0
in_numbers (Selector at absent) = lacking 4 at.0 0 absent
in_numbers (Record at size absent) = lacking 5 at.0 size absent
in_numbers Ended = numbered 6 0
in_numbers (Overflow hold) = numbered 7 hold
in_numbers (Room needed) = numbered 8 needed
in_numbers (Segments needed) = numbered 9 needed
in_numbers (Kind kind) = numbered 10 kind
in_numbers (OtherKind byte) = numbered 11 byte
in_numbers Absent = numbered 12 0
in_numbers (Inside bytes) = numbered 13 bytes
in_numbers (Owed frames) = numbered 14 frames
in_numbers Supplied = numbered 15 0
in_numbers (Packet number) = numbered 16 number
in_numbers (TooLong limit) = numbered 17 limit
in_numbers (Beyond total) = numbered 18 total
in_numbers Index = numbered 19 0
in_numbers (IndexVersion byte) = numbered 20 byte
in_numbers (IndexEntry number) = numbered 21 number
in_numbers Choice = numbered 22 0

-- by these a record is refused that cannot be read
abbrev pub record_refusals : List ℕ
record_refusals = 4 ∷ 5 ∷ []

abbrev pub OfRecord : ℕ → Type 0
OfRecord number = (number ≡ 4) ⊎ (number ≡ 5)

-- only of a record a size is told, and bytes that are absent
abbrev pub OnlyRecordsLack : Numbers → Type 0
OnlyRecordsLack why = (OfRecord why.number → ⊥) → (why.size ≡ 0) × (why.absent ≡ 0)
