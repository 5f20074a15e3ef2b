-- `sp::hand_out_run` meets its contract: after n packets the next read is the run's n-th, and both buffers hold them.
-- Assumes nothing.
use Rattle.sp.proofs.Written.{Handing}
use Rattle.sp.proofs.hand_out_run.Given as goal

abbrev pub invariant-loop-n : goal.invariant-loop-n
invariant-loop-n g l =
    Handing (goal.F-post g l.read) l.fn.run l.carry l.base l.initial.out l.initial.counts l.n l.place l.swap l.carried l.out l.counts
