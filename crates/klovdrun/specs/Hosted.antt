-- What a host sees of a reader that it advances where it stands. By any calls in any order: which pieces were taken, what the calls' first
-- numbers add up to, and the last second number. While no end is answered: what came out, too. Assumes nothing.
use Rattle.std.specs.Prelude.{ℕ, ◌+◌, ◌*◌, ◌<◌, ◌≡◌, List, [], ◌∷◌, ◌++◌, take}
use Rattle.reader.specs.declared.Reader.{Reader}
use Rattle.reader.specs.History.{PieceCall, EndCall}
use Rattle.numbers.specs.declared.Answer.{Answer}
use Rattle.klovdrun.specs.Wrapped.{Advances}

-- told m before, of a reader that stands there: these pieces were taken, so many packets were handed out, and told in the end is m'
pub data Told : Reader → ℕ → List (List ℕ) → ℕ → ℕ → Type 0 where
  nothing : {reader : Reader} {m : ℕ} → Told reader m [] 0 m
  taken : {reader stored : Reader} {m m' sum : ℕ} {piece : List ℕ} {rest : List (List ℕ)} (out out' counts counts' : List ℕ) (r : Answer)
      → Advances (PieceCall reader piece out out' counts counts') stored r → r.refusal ≡ 0 → Told stored r.second rest sum m'
      → Told reader m (piece ∷ rest) (r.first + sum) m'
  not_taken : {reader stored : Reader} {m m' sum : ℕ} {pieces : List (List ℕ)} (piece out out' counts counts' : List ℕ) (r : Answer)
      → Advances (PieceCall reader piece out out' counts counts') stored r → 0 < r.refusal → Told stored r.second pieces sum m'
      → Told reader m pieces (r.first + sum) m'
  an_end : {reader stored : Reader} {m m' sum : ℕ} {pieces : List (List ℕ)} (choice : ℕ) (out out' counts counts' : List ℕ) (r : Answer)
      → Advances (EndCall reader choice out out' counts counts') stored r → Told stored r.second pieces sum m'
      → Told reader m pieces (r.first + sum) m'

-- a host gave these pieces to a reader that stands there, which took them; whatever else it asked, a piece or an end by any choice, was refused
pub data Given : Reader → List (List ℕ) → ℕ → List ℕ → List ℕ → Reader → Type 0 where
  nothing : {reader : Reader} → Given reader [] 0 [] [] reader
  taken : {reader stored last : Reader} {piece : List ℕ} {rest : List (List ℕ)} {m : ℕ} {packets entries : List ℕ}
      (out out' counts counts' : List ℕ) (r : Answer) → Advances (PieceCall reader piece out out' counts counts') stored r → r.refusal ≡ 0
      → Given stored rest m packets entries last
      → Given reader (piece ∷ rest) (r.first + m) (take (42 * r.first) out' ++ packets) (take r.first counts' ++ entries) last
  not_taken : {reader stored last : Reader} {pieces : List (List ℕ)} {n : ℕ} {packets entries : List ℕ}
      (piece out out' counts counts' : List ℕ) (r : Answer) → Advances (PieceCall reader piece out out' counts counts') stored r → 0 < r.refusal
      → Given stored pieces n packets entries last → Given reader pieces n packets entries last
  no_end : {reader stored last : Reader} {pieces : List (List ℕ)} {n : ℕ} {packets entries : List ℕ} (choice : ℕ)
      (out out' counts counts' : List ℕ) (r : Answer) → Advances (EndCall reader choice out out' counts counts') stored r → 0 < r.refusal
      → Given stored pieces n packets entries last → Given reader pieces n packets entries last
