-- `writing::put_packet` meets its contract: its read, or its byte 1 and its read; then it is counted.
-- Assumes nothing.
use Prim.Native.Nat.{ℕ, ◌+◌}
use mathlib.Core.Path.{◌≡◌, ap}
use native.Mathlib.Omega.{arith}
use lib.ListN.{get_or}
use Rattle.writing.proofs.Inverse.{plain_gathered, swapped_gathered}
use Rattle.writing.proofs.Turns.{puts_even, puts_odd}
use Rattle.writing.proofs.put_packet.Goals as goal

pub returns-then-number-eq0 : goal.returns-then-number-eq0
returns-then-number-eq0 c =
    puts_even _ _ _ _ _ _ _ c.reach-place.ensures c.if-number-eq0.true (plain_gathered _ _ c.packet_bytes-read.ensures) c.put.ensures
    c.count.ensures

pub returns : goal.returns
returns c =
    let a = c.args in
    let next : a.from + 1 + 0 ≡ a.from + 1 = omega arith in
    puts_odd _ _ _ _ _ _ _ _ _ c.reach-place.ensures c.if-number-eq0.false (ap (λ (j : ℕ). get_or a.packets.now j 0) next)
    (swapped_gathered _ _ c.swapped_read-read.ensures) c.put-2.ensures c.put-3.ensures c.count-2.ensures
