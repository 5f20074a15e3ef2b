-- `detect::ds2_format` meets its contract: by the three ways of a DS2 file.
-- Assumes nothing.
use native.Mathlib.Omega.{arith}
use mathlib.Core.Path.{◌∙◌}
use Rattle.detect.proofs.Start.{start_small}
use Rattle.detect.proofs.Format.{ds2_short, ds2_cut, ds2_typed}
use Rattle.detect.proofs.ds2_format.Goals as goal

pub returns-then-file-le-TYPE_PLACE : goal.returns-then-file-le-TYPE_PLACE
returns-then-file-le-TYPE_PLACE c = ds2_short c.args.file.now c.if-file-le-TYPE_PLACE.true

pub overflow_add-start : goal.overflow_add-start
overflow_add-start c = omega (arith, start_small c.args.file.now)

pub returns-then-file-start : goal.returns-then-file-start
returns-then-file-start c =
    ds2_cut c.args.file.now _ c.detect_ds2_audio_start-start.ensures c.if-file-start.true

pub returns : goal.returns
returns c =
    c.format_of.ensures
    ∙ ds2_typed c.args.file.now _ _ c.if-file-le-TYPE_PLACE.false c.detect_ds2_audio_start-start.ensures
    c.if-file-start.false c.detect_ds2_format_type.ensures
