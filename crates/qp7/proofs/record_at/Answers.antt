-- `qp7::record_at` meets its contract: by the ways of finding a record.
-- Assumes nothing.
use Prim.Native.Nat.{◌+◌}
use mathlib.Core.Path.{sym, ap, ◌∙◌}
use native.Mathlib.Omega.{arith}
use Rattle.blocks.proofs.Places.{stream_in}
use Rattle.qp7.specs.Records.{record_size}
use Rattle.qp7.proofs.Records.{no_selector, runs_past, record_there}
use Rattle.std.proofs.Common.{◌+◌}
use Rattle.qp7.specs.Records.{record_size}
use Rattle.qp7.proofs.record_at.Goals as goal

pub returns-then-left-lt2 : goal.returns-then-left-lt2
returns-then-left-lt2 c = (no_selector _ _ _ (omega (arith, c.if-left-lt2.true)))

pub returns-then-left-size : goal.returns-then-left-size
returns-then-left-size c =
    let byte = c.stream_byte-second.ensures ∙ sym (stream_in c.args.file.now c.args.recording.start.0 c.args.recording.blocks (c.args.at.0 + 1) (omega (arith, c.if-left-lt2.false))) in
    let size = c.size_of-size.ensures.0 ∙ ap record_size byte in
    (runs_past _ _ _ _ (omega (arith, c.if-left-lt2.false)) size (omega (arith, c.if-left-size.true)))

pub returns : goal.returns
returns c =
    let byte = c.stream_byte-second.ensures ∙ sym (stream_in c.args.file.now c.args.recording.start.0 c.args.recording.blocks (c.args.at.0 + 1) (omega (arith, c.if-left-lt2.false))) in
    let size = c.size_of-size.ensures.0 ∙ ap record_size byte in
    record_there _ _ _ _ (omega (arith, c.if-left-lt2.false)) size (omega (arith, c.if-left-size.false))
