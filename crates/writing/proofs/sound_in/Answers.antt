-- `writing::sound_in` meets its contract: every packet so far is sound.
-- Assumes nothing.
use mathlib.Core.Path.{sym}
use Rattle.writing.proofs.Outcome.{sound_upto}
use borrow.Author.Rules.{rules}
use Rattle.writing.proofs.sound_in.Goals as goal

pub returns-then-packets-k-ne0 : goal.returns-then-packets-k-ne0
returns-then-packets-k-ne0 c =
    let l = c.loop-k in
    (sym (sound_upto _ l.k (search rules) l.invariant.1.1 (λ less. c.if-packets-k-ne0.true)), search rules)

pub returns : goal.returns
returns c =
    let l = c.loop-k in
    (sym (sound_upto _ _ (search rules) (λ j h. l.invariant.1.1 j (search rules)) (λ less. absurd (search rules))), search rules)
