-- `hold::waiting::waiting_run` meets its contract: the three bytes are those of the header.
-- Assumes nothing.
use Rattle.hold.proofs.Headers.{waiting_bytes}
use borrow.Author.Rules.{rules}
use Rattle.std.proofs.Common.{rules}
use Rattle.hold.proofs.waiting.waiting_run.Goals as goal

pub returns : goal.returns
returns c =
    let a = c.args in
    let r = c.block_run.ensures in (
      r.0,
      r.1,
      λ f at n j is number there.
          let bytes = waiting_bytes f at n j a.i a.block a.waiting.now (search rules) is number there in
          r.2 f at bytes.0 bytes.1 bytes.2,
    )
