-- Every public call of this crate is settled by its contract: two outcomes that it allows for the same arguments are equal. None is
-- lent anything to write. Each contract is `Post`, as the check reads it from the source. Assumes nothing.
use Prim.Native.Nat.{ℕ}
use mathlib.Core.Path.{sym, ap, ◌∙◌}
use Rattle.blocks.specs.declared.FilePlace.{FilePlace}
use Rattle.tables.specs.Settled.{SettledResult}
use Rattle.detect.proofs.ds2.is_ds2_audio_block_header.Kinds as header
use Rattle.detect.proofs.ds2.is_ds2_audio_block_header.Reads as header-reads
use Rattle.detect.proofs.ds2.detect_ds2_audio_start.Kinds as start
use Rattle.detect.proofs.ds2.detect_ds2_audio_start.Reads as start-reads
use Rattle.detect.proofs.ds2.detect_ds2_format_type.Kinds as type
use Rattle.detect.proofs.ds2.detect_ds2_format_type.Reads as type_Reads
use Rattle.detect.proofs.detect_format.Kinds as format
use Rattle.detect.proofs.detect_format.Reads as format-reads

pub is_ds2_audio_block_header_settled : SettledResult 1 header.ps header.r header-reads.Post
is_ds2_audio_block_header_settled κs a x y s t p q = p ∙ sym q

pub detect_ds2_audio_start_settled : SettledResult 1 start.ps start.r start-reads.Post
detect_ds2_audio_start_settled κs a x y s t p q = ap place_of (p ∙ sym q)
  where
    place_of : ℕ → FilePlace
    place_of n = record { 0 = n }

pub detect_ds2_format_type_settled : SettledResult 1 type.ps type.r type_Reads.Post
detect_ds2_format_type_settled κs a x y s t p q = p ∙ sym q

pub detect_format_settled : SettledResult 1 format.ps format.r format-reads.Post
detect_format_settled κs a x y s t p q = p ∙ sym q
