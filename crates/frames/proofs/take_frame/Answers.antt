-- `frames::take_frame` meets its contract: two runs, the second behind the first, are the frame.
-- Assumes nothing.
use mathlib.Core.Path.{refl}
use Rattle.frames.proofs.Fetch.{two_runs}
use Rattle.frames.proofs.take_frame.Goals as goal

pub returns : goal.returns
returns c =
    let a = c.args in
    two_runs a.file.now a.recording a.place.0 a.size _ _ _ c.requires.0 c.requires.1 refl c.in_file-second.ensures _ c.in_file-first.ensures c.copy.ensures c.copy-2.ensures
