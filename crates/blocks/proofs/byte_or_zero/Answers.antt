-- `blocks::byte_or_zero` meets its contract: past the stream's end there are zeros, and before it the file's bytes.
-- Assumes nothing.
use mathlib.Core.Path.{sym, ◌∙◌}
use Rattle.blocks.proofs.Places.{stream_in, stream_past}
use Rattle.blocks.proofs.byte_or_zero.Goals as goal

pub returns-then-blocks-q : goal.returns-then-blocks-q
returns-then-blocks-q c = sym (stream_past _ _ _ _ c.if-blocks-q.true)

pub returns : goal.returns
returns c = c.stream_byte.ensures ∙ sym (stream_in _ _ _ _ c.if-blocks-q.false)
