-- `detect::ds2::detect_ds2_audio_start` meets its contract: by the first byte, which past the end counts as 0.
-- Assumes nothing.
use mathlib.Core.Path.{◌∙◌}
use Rattle.tables.proofs.Tests.{told}
use borrow.Author.Tests.{eq-eqb, ne_eqb}
use Rattle.detect.specs.Start.{audio_start}
use Rattle.detect.specs.Start.{audio_start}
use Rattle.detect.proofs.ds2.detect_ds2_audio_start.Goals as goal

pub returns-then-first_byte-eq7 : goal.returns-then-first_byte-eq7
unfolding audio_start
returns-then-first_byte-eq7 c =
    simp (eq-eqb _ _ (told c.first_byte.ensures c.if-first_byte-eq7.true), c.scan.ensures)

pub returns : goal.returns
unfolding audio_start
returns c =
    simp (ne_eqb _ _ (λ e. c.if-first_byte-eq7.false (c.first_byte.ensures ∙ e)))
