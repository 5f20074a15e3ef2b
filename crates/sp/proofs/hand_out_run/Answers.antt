-- `sp::hand_out_run` meets its contract: after n packets the next read is the run's n-th, and both buffers hold them.
-- Assumes nothing.
use Rattle.std.proofs.Common.{rules}
use Rattle.sp.proofs.Written.{handing_begins, may_read, handing_goes_on, handing_ends}
use Rattle.sp.proofs.hand_out_run.Goals as goal

pub loop-n-init : goal.loop-n-init
loop-n-init g c = handing_begins _ _ _ _ _ _ (search rules)

pub read-packet-requires : goal.read-packet-requires
read-packet-requires g c = may_read _ _ _ _ _ _ c.loop-n-test.true c.loop-n.invariant (goal.F-pre g c.args.read) c.requires.may

pub loop-n-preserved : goal.loop-n-preserved
loop-n-preserved g c =
    handing_goes_on _ _ _ _ _ _ c.loop-n-test.true c.loop-n.invariant c.read-packet.result _ _ c.requires.goes c.read-packet.ensures
    (search rules) c.put.ensures.bytes c.put.ensures.count

pub returns : goal.returns
returns g c = handing_ends _ _ _ _ _ _ (search rules) c.loop-n.invariant
