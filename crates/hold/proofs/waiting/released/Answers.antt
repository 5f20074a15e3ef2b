-- `hold::waiting::released` meets its contract: the blocks so far are all read, and the first that is not is the front.
-- Assumes nothing.
use mathlib.Core.Path.{◌≡◌, subst}
use native.Mathlib.Omega.{arith}
use Rattle.hold.proofs.Leaving.{Leaving, leaving_goes_on, not_read, leaving_ends}
use borrow.Author.Rules.{rules}
use Rattle.std.proofs.Common.{ℕ, ◌-◌, rules}
use Rattle.hold.proofs.waiting.released.Goals as goal

pub returns-then-long-ends_at : goal.returns-then-long-ends_at
returns-then-long-ends_at c =
    let l = c.loop-blocks in
    leaving_ends _ _ _ l.blocks l.packets l.invariant
    (λ there. not_read _ _ _ l.blocks l.packets l.invariant c.waiting_run-run.result c.waiting_run-run.ensures.2 (search rules) (search rules))

pub loop-blocks-preserved : goal.loop-blocks-preserved
loop-blocks-preserved c =
    let l = c.loop-blocks in
    leaving_goes_on _ _ _ l.blocks l.packets l.invariant c.waiting_run-run.result c.waiting_run-run.ensures.2
    (search rules) (search rules) (search rules)

pub returns : goal.returns
returns c =
    let l = c.loop-blocks in
    let all : l.blocks ≡ c.args.n - c.args.j = search rules in
    leaving_ends _ _ _ _ l.packets (subst (λ (k : ℕ). Leaving c.args.waiting.now c.args.j c.args.n k l.packets) all l.invariant)
    (λ there. absurd (omega arith))
