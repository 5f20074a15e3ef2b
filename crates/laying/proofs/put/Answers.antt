-- `laying::put` meets its contract: by one run, or by two where the bytes cross a block.
-- Assumes nothing.
use Rattle.laying.proofs.Steps.{put_run, put_runs}
use borrow.Author.Rules.{rules}
use Rattle.std.proofs.Common.{rules}
use Rattle.laying.proofs.put.Goals as goal

pub returns-then-inside-size-le-PAYLOAD : goal.returns-then-inside-size-le-PAYLOAD
returns-then-inside-size-le-PAYLOAD c =
    let a = c.args in
    put_run a.source.now _ _ a.from _ _ _ (search rules) (search rules) c.copy.ensures

pub returns : goal.returns
returns c =
    let a = c.args in
    put_runs a.source.now _ _ _ a.from _ _ _ _ _ (search rules) (search rules) (search rules) (λ more. search rules) c.copy-2.ensures c.copy-3.ensures
