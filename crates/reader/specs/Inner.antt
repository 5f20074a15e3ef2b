-- What only contracts of inner functions speak of: the numbers beside a reader's hold, a state with nothing taken, and a step by its parts.
-- Assumes nothing.
use Rattle.std.specs.Prelude.{ℕ, [], Result}
use Rattle.refusals.specs.declared.Refusal.{Refusal}
use Rattle.hold.specs.declared.Standing.{Standing}
use Rattle.reader.specs.declared.Reader.{Reader}
use Rattle.reader.specs.declared.Step.{Step}
use Rattle.reader.specs.State.{State}

-- the numbers beside a reader's hold
abbrev pub standing_of : Reader → Standing
standing_of r = record { announced = r.announced; ready = r.ready; base = record { 0 = r.base }; first = r.first; carry = r.carry }

-- of this kind and phase, with nothing taken
abbrev pub fresh : ℕ → ℕ → State
fresh kind phase = record { kind = kind; bytes = []; drained = 0; phase = phase }

-- an answer, and the reader to go on with
abbrev pub step_to : Reader → Result ℕ Refusal → Step
step_to reader answer = record { answer = answer; reader = reader }
