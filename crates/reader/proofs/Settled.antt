-- Two outcomes of a reader's call that its contract allows for the same arguments are equal. The contract is the one in the source, as the
-- check reads it. Assumes nothing.
use mathlib.Core.List.{List}
use Prim.Native.Nat.{ℕ}
use Rattle.tables.specs.Settled.{SettledResult, SettledWhere}
use Rattle.reader.specs.declared.Step.{Step}
use Rattle.reader.proofs.Total.{only_opened, only_piece, only_end, only_owed}
use Rattle.reader.proofs.Reader.open.Kinds as opening
use Rattle.reader.proofs.Reader.open.Reads as opening-reads
use Rattle.reader.proofs.Reader.piece.Kinds as taking
use Rattle.reader.proofs.Reader.piece.Reads as taking-reads
use Rattle.reader.proofs.Reader.end.Kinds as ending
use Rattle.reader.proofs.Reader.end.Reads as ending-reads
use Rattle.reader.proofs.Reader.owed.Kinds as owing
use Rattle.reader.proofs.Reader.owed.Reads as owing-reads

-- `open`: answer and reader
pub open_settled : SettledResult 0 opening.ps opening.r opening-reads.Post
open_settled κs a x y s t p q = only_opened _ p q

-- what is seen of a call that hands out packets: answer and next reader, output, counts
abbrev Seen : Type 0
Seen = Step × List ℕ × List ℕ

-- `piece`: all of that, for every reader that open or a call gave back
pub piece_settled : SettledWhere 3 taking.ps taking.r (λ κs. Seen) (λ κs x s. (x, s.1.1.0.now, s.1.1.1.0.now)) taking-reads.Pre taking-reads.Post
piece_settled κs a x y s t known p q = let e = only_piece known p q in (λ i. (e.0 i, e.1 i, e.2 i))

-- `end`: as of a piece, by any choice
pub end_settled : SettledWhere 2 ending.ps ending.r (λ κs. Seen) (λ κs x s. (x, s.1.1.0.now, s.1.1.1.0.now)) ending-reads.Pre ending-reads.Post
end_settled κs a x y s t known p q = let e = only_end known p q in (λ i. (e.0 i, e.1 i, e.2 i))

-- `owed`: the number
pub owed_settled : SettledWhere 0 owing.ps owing.r (λ κs. ℕ) (λ κs x s. x) owing-reads.Pre owing-reads.Post
owed_settled κs a x y s t known p q = only_owed known p q
