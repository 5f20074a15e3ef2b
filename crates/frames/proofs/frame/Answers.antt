-- `frames::frame` meets its contract: by the tests.
-- Assumes nothing.
use mathlib.Core.Path.{sym}
use native.Mathlib.Omega.{arith}
use Rattle.frames.proofs.Frames.{none_found, frame_missing, frame_too_far, frame_found}
use Rattle.frames.proofs.frame.Goals as goal

pub returns-then-long-k : goal.returns-then-long-k
returns-then-long-k c =
    let a = c.args in
    none_found a.start.0 a.long a.k c.no_frame.result c.no_frame.ensures (frame_missing a.start.0 a.long a.k (omega arith))

pub returns-then-left-eq0 : goal.returns-then-left-eq0
returns-then-left-eq0 c =
    let a = c.args in
    none_found a.start.0 a.long a.k c.no_frame-then-left-eq0.result c.no_frame-then-left-eq0.ensures (frame_missing a.start.0 a.long a.k (omega arith))

pub returns-then-from-far : goal.returns-then-from-far
returns-then-from-far c =
    let a = c.args in
    none_found a.start.0 a.long a.k c.no_frame-then-from-far.result c.no_frame-then-from-far.ensures (frame_too_far a.start.0 a.long a.k (omega arith))

pub returns : goal.returns
returns c =
    let a = c.args in
    rw c.min.ensures (sym (frame_found a.start.0 a.long a.k (omega arith) (omega arith)))
