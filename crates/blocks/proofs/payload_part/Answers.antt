-- `blocks::payload_part` meets its contract: the stream's place 506 times the block is where its payload starts.
-- Assumes nothing.
use Prim.Native.Nat.{◌+◌}
use mathlib.Core.Path.{◌≡◌}
use Rattle.blocks.specs.Places.{block_at}
use Rattle.tables.proofs.Parts.{part_is}
use native.Mathlib.Omega.{arith}
use Rattle.std.proofs.Common.{◌≡◌, ◌+◌}
use Rattle.blocks.proofs.payload_part.Goals as goal

pub returns : goal.returns
returns c =
    let a = c.args in
    let place : c.in_file-first.result.0 ≡ block_at a.a.0 a.block + 6 = omega arith in
    part_is _ _ _ 506 place
