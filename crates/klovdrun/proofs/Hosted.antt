-- A host's calls on a reader that stands there are those on a reader by value, with the numbers that they tell.
-- Assumes nothing.
use Prim.Native.Nat.{ℕ, ◌<◌}
use mathlib.Core.Path.{◌≡◌, sym, ap, ◌∙◌}
use mathlib.Core.List.{List}
use Rattle.refusals.specs.declared.Numbers.{Numbers}
use Rattle.refusals.specs.Said.{Said, answers, refusal, result_says}
use Rattle.reader.specs.declared.Reader.{Reader}
use Rattle.reader.specs.State.{State, Reached}
use Rattle.reader.specs.Calls.{Steps}
use Rattle.reader.specs.History.{PieceCall, EndCall, Refuses, a_piece, an_end}
use Rattle.reader.proofs.Laws.{at_state}
use Rattle.numbers.specs.declared.Answer.{Answer}
use Rattle.klovdrun.specs.Wrapped.{step_to, Advances, Tells}
use Rattle.klovdrun.proofs.Theorems.{piece_tells, end_tells}
use Rattle.std.specs.Prelude.{Result}
use Rattle.refusals.specs.declared.Refusal.{Refusal}

-- a call whose numbers tell what it said: what its answer says, by them
module _ {numbers : List ℕ} {second : ℕ → ℕ} {other : ℕ} {said : Said ℕ} {next : State} {stored : Reader} {answer : Result ℕ Refusal} {r : Answer}
    (tells : Tells numbers (λ n. n) second other said r) (steps : Steps said next (step_to stored answer)) where
  pub told_answer : r.refusal ≡ 0 → result_says answer ≡ answers r.first
  told_answer zero = let told = tells.zero zero in steps.answer_is ∙ told.1 ∙ ap answers (sym told.3)

  told_refusal : 0 < r.refusal → (why : Numbers) × (result_says answer ≡ refusal why) × (r.first ≡ 0)
  told_refusal some = let told = tells.above some in (told.0, steps.answer_is ∙ told.1, told.4)

-- a refused one is a refused call on the reader, and tells no packets
module _ {reader stored : Reader} {r : Answer} (known : Reached reader) where
  pub piece_refused : {piece out out' counts counts' : List ℕ} → Advances (PieceCall reader piece out out' counts counts') stored r → 0 < r.refusal
      → Refuses reader stored × (r.first ≡ 0)
  piece_refused {piece} {out} {out'} {counts} {counts'} c some =
      let told = told_refusal (piece_tells known c) (at_state known c.carries.comes).steps some in
      (a_piece piece out out' counts counts' (step_to stored c.carries.answer) told.0 c.carries.comes told.1, told.2)

  pub end_refused : {choice : ℕ} {out out' counts counts' : List ℕ} → Advances (EndCall reader choice out out' counts counts') stored r
      → 0 < r.refusal → Refuses reader stored × (r.first ≡ 0)
  end_refused {choice} {out} {out'} {counts} {counts'} c some =
      let told = told_refusal (end_tells known c) (at_state known c.carries.comes).steps some in
      (an_end choice out out' counts counts' (step_to stored c.carries.answer) told.0 c.carries.comes told.1, told.2)
