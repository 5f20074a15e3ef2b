-- `entries::put_word` meets its contract: std's bytes of the number are the word's.
-- Assumes nothing.
use mathlib.Core.Path.{◌≡◌, ap, ◌∙◌}
use mathlib.Core.List.{List}
use native.Mathlib.Omega.{arith}
use lib.ListN.{get_or}
use Rattle.tables.proofs.Lent.{leaves_as}
use Rattle.entries.proofs.Words.{word_bytes}
use Rattle.std.proofs.Common.{ℕ, ◌+◌}
use Rattle.entries.proofs.put_word.Goals as goal

pub returns : goal.returns
returns c =
    leaves_as _
    (λ k h. let front : 0 + k ≡ k = omega arith in rw front (ap (λ (l : List ℕ). get_or l k 0) (c.to_be_bytes.ensures ∙ word_bytes c.args.n)))
    c.copy.ensures
