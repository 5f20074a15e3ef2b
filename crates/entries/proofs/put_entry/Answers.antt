-- `entries::put_entry` meets its contract: three words, one after another.
-- Assumes nothing.
use mathlib.Core.Path.{refl}
use mathlib.Core.List.{◌++◌}
use Rattle.entries.specs.Words.{word32}
use Rattle.entries.proofs.Laying.{lays_join}
use Rattle.std.proofs.Common.{◌++◌}
use Rattle.entries.specs.Words.{word32}
use Rattle.entries.proofs.put_entry.Goals as goal

pub returns : goal.returns
returns c =
    let e = c.args.entry in
    lays_join (word32 e.number ++ word32 e.first) (word32 e.place.0) refl
    (lays_join (word32 e.number) (word32 e.first) refl c.put_word.ensures c.put_word-2.ensures) c.put_word-3.ensures
