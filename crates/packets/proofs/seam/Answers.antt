-- `packets::seam` meets its contract: nothing, one run or two are copied over zeros.
-- Assumes nothing.
use mathlib.Core.Path.{refl}
use lib.ListN.{get_or-replicate}
use Rattle.packets.proofs.Gathered.{window_none, window_one, window_two}
use borrow.Author.Rules.{rules}
use Rattle.std.proofs.Common.{rules}
use Rattle.packets.proofs.seam.Goals as goal

pub returns-then-blocks-block : goal.returns-then-blocks-block
returns-then-blocks-block c =
    let a = c.args in
    window_none a.file.now _ a.a.0 a.blocks a.q.0 refl (λ k h. get_or-replicate 42 k 0 0 h) (search rules)

pub returns-then-blocks-next : goal.returns-then-blocks-next
returns-then-blocks-next c =
    let a = c.args in
    window_one a.file.now _ a.a.0 a.blocks a.q.0 refl (λ k h. get_or-replicate 42 k 0 0 h) _ _ _ (search rules) c.in_file-here.ensures (search rules)
    c.copy.ensures (search rules)

pub returns : goal.returns
returns c =
    let a = c.args in
    window_two a.file.now _ a.a.0 a.blocks a.q.0 refl (λ k h. get_or-replicate 42 k 0 0 h) _ _ _ (search rules) c.in_file-here.ensures (search rules)
    c.copy.ensures _ _ (search rules) c.in_file-there.ensures c.copy-2.ensures
