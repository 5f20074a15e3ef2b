-- Calls one after another, as their contracts have them: pieces that a reader accepted, ends, and between them whatever was refused. What
-- came out is the bytes and the counts that the calls wrote, joined. Assumes nothing.
use Rattle.std.specs.Prelude.{ℕ, ◌+◌, ◌*◌, ◌≤◌, ◌<◌, ◌≡◌, List, [], ◌∷◌, ◌++◌, take}
use Rattle.tables.specs.Table.{table}
use Rattle.blocks.specs.Headers.{count_of, announced_in}
use Rattle.refusals.specs.declared.Numbers.{Numbers}
use Rattle.refusals.specs.Said.{answers, refusal, result_says}
use Rattle.sp.specs.Readings.{Reading, joined_byte_at, file_count_at, CompleteAt}
use Rattle.sp.specs.Outcome.{room_in}
use Rattle.reader.specs.declared.Reader.{Reader}
use Rattle.reader.specs.declared.Step.{Step}
use Rattle.reader.specs.State.{State, owed, reader_of, Sound}
use Rattle.reader.specs.Calls.{Takes, strict, lenient, Ends}

-- what the contracts say of a call on a reader
abbrev pub PieceCall : Reader → List ℕ → List ℕ → List ℕ → List ℕ → List ℕ → Step → Type 0
PieceCall reader piece out out' counts counts' step =
    (s : State) → reader ≡ reader_of s → Sound s → Takes s piece out out' counts counts' step

abbrev pub EndCall : Reader → ℕ → List ℕ → List ℕ → List ℕ → List ℕ → Step → Type 0
EndCall reader choice out out' counts counts' step =
    (s : State) → reader ≡ reader_of s → Sound s → Ends s choice out out' counts counts' step

abbrev pub OwedCall : Reader → ℕ → Type 0
OwedCall reader n = (s : State) → reader ≡ reader_of s → Sound s → n ≡ owed s

-- n packets of a reading from its packet k on, joined, and their counts
unfoldable pub packets_from : Reading → ℕ → ℕ → List ℕ
packets_from reading k n = table (42 * n) (λ i. joined_byte_at reading (42 * k + i))

unfoldable pub counts_from : Reading → ℕ → ℕ → List ℕ
counts_from reading k n = table n (λ i. file_count_at reading (k + i))

-- every packet of block b of f, and of the blocks before it, is complete in a reading
abbrev pub CompleteUpto : Reading → List ℕ → ℕ → ℕ → Type 0
CompleteUpto reading f a b = (c j : ℕ) → c ≤ b → j < count_of f a c → CompleteAt reading (announced_in f a c + j)

-- all pieces joined
unfoldable pub joined : List (List ℕ) → List ℕ
joined [] = []
joined (piece ∷ rest) = piece ++ joined rest

-- a call on a reader was refused, and gave another back: a piece, or an end by any choice
pub data Refuses : Reader → Reader → Type 0 where
  a_piece : {reader : Reader} (piece out out' counts counts' : List ℕ) (step : Step) (why : Numbers)
      → PieceCall reader piece out out' counts counts' step → result_says step.answer ≡ refusal why → Refuses reader step.reader
  an_end : {reader : Reader} (choice : ℕ) (out out' counts counts' : List ℕ) (step : Step) (why : Numbers)
      → EndCall reader choice out out' counts counts' step → result_says step.answer ≡ refusal why → Refuses reader step.reader

-- a reader accepted these pieces, refused any other calls in between, and became another; n packets came out
pub data Fed : Reader → List (List ℕ) → ℕ → List ℕ → List ℕ → Reader → Type 0 where
  none : {reader : Reader} → Fed reader [] 0 [] [] reader
  more : {reader last : Reader} {piece : List ℕ} {rest : List (List ℕ)} {n m : ℕ} {packets entries : List ℕ}
      (out out' counts counts' : List ℕ) (step : Step) → PieceCall reader piece out out' counts counts' step
      → result_says step.answer ≡ answers n → Fed step.reader rest m packets entries last
      → Fed reader (piece ∷ rest) (n + m) (take (42 * n) out' ++ packets) (take n counts' ++ entries) last
  refused : {reader next last : Reader} {pieces : List (List ℕ)} {n : ℕ} {packets entries : List ℕ} → Refuses reader next
      → Fed next pieces n packets entries last → Fed reader pieces n packets entries last

-- a reader was ended leniently again and again, with these rooms, or strictly, and refused any other calls in between
pub data Drained : Reader → List ℕ → ℕ → List ℕ → List ℕ → Reader → Type 0 where
  none : {reader : Reader} → Drained reader [] 0 [] [] reader
  more : {reader last : Reader} {room : ℕ} {rest : List ℕ} {n m : ℕ} {packets entries : List ℕ}
      (out out' counts counts' : List ℕ) (step : Step) → room_in out counts ≡ room → EndCall reader lenient out out' counts counts' step
      → result_says step.answer ≡ answers n → Drained step.reader rest m packets entries last
      → Drained reader (room ∷ rest) (n + m) (take (42 * n) out' ++ packets) (take n counts' ++ entries) last
  strictly : {reader last : Reader} {rooms : List ℕ} {n m : ℕ} {packets entries : List ℕ} (out out' counts counts' : List ℕ) (step : Step)
      → EndCall reader strict out out' counts counts' step → result_says step.answer ≡ answers m → Drained step.reader rooms n packets entries last
      → Drained reader rooms n packets entries last
  refused : {reader next last : Reader} {rooms : List ℕ} {n : ℕ} {packets entries : List ℕ} → Refuses reader next
      → Drained next rooms n packets entries last → Drained reader rooms n packets entries last

-- any calls on a reader, one after another and in any order: these pieces were accepted, and n packets came out, by pieces and by ends
pub data Called : Reader → List (List ℕ) → ℕ → List ℕ → List ℕ → Reader → Type 0 where
  none : {reader : Reader} → Called reader [] 0 [] [] reader
  more : {reader last : Reader} {piece : List ℕ} {rest : List (List ℕ)} {n m : ℕ} {packets entries : List ℕ}
      (out out' counts counts' : List ℕ) (step : Step) → PieceCall reader piece out out' counts counts' step
      → result_says step.answer ≡ answers n → Called step.reader rest m packets entries last
      → Called reader (piece ∷ rest) (n + m) (take (42 * n) out' ++ packets) (take n counts' ++ entries) last
  ended : {reader last : Reader} {pieces : List (List ℕ)} {n m : ℕ} {packets entries : List ℕ} (choice : ℕ)
      (out out' counts counts' : List ℕ) (step : Step) → EndCall reader choice out out' counts counts' step
      → result_says step.answer ≡ answers n → Called step.reader pieces m packets entries last
      → Called reader pieces (n + m) (take (42 * n) out' ++ packets) (take n counts' ++ entries) last
  refused : {reader next last : Reader} {pieces : List (List ℕ)} {n : ℕ} {packets entries : List ℕ} → Refuses reader next
      → Called next pieces n packets entries last → Called reader pieces n packets entries last

-- such calls in two parts: as long as pieces were taken, and from the first end on that was answered
pub record InTwo (reader : Reader) (pieces : List (List ℕ)) (n : ℕ) (packets entries : List ℕ) (last : Reader) : Type 0 where
  pub middle : Reader
  pub n₁ : ℕ
  pub packets₁ : List ℕ
  pub entries₁ : List ℕ
  pub fed : Fed reader pieces n₁ packets₁ entries₁ middle
  pub rooms : List ℕ
  pub n₂ : ℕ
  pub packets₂ : List ℕ
  pub entries₂ : List ℕ
  pub drained : Drained middle rooms n₂ packets₂ entries₂ last
  pub many : n ≡ n₁ + n₂
  pub packets_are : packets ≡ packets₁ ++ packets₂
  pub entries_are : entries ≡ entries₁ ++ entries₂
