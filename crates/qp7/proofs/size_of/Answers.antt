-- `qp7::size_of` meets its contract: by the byte's bit 7.
-- Assumes nothing.
use mathlib.Core.Path.{sym}
use Rattle.qp7.proofs.Records.{long_size, short_size}
use borrow.Author.Rules.{rules}
use Rattle.std.proofs.Common.{rules}
use Rattle.qp7.proofs.size_of.Goals as goal

pub returns-then-second-ge128 : goal.returns-then-second-ge128
returns-then-second-ge128 c = (sym (long_size _ c.if-second-ge128.true), search rules)

pub returns-else-second-ge128 : goal.returns-else-second-ge128
returns-else-second-ge128 c = (sym (short_size _ c.if-second-ge128.false), search rules)
