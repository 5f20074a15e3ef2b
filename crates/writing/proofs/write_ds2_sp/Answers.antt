-- `writing::write_ds2_sp` meets its contract: test by test in their order, then the file is laid out.
-- Assumes nothing.
use Prim.Native.Nat.{◌+◌, ◌*◌}
use mathlib.Core.Path.{sym, ◌∙◌}
use Rattle.writing.proofs.Outcome.{refused_15, refused_16, refused_17, refused_8, is_ready, written}
use borrow.Author.Rules.{rules}
use Rattle.writing.proofs.write_ds2_sp.Goals as goal

pub returns-then-not-is_header : goal.returns-then-not-is_header
returns-then-not-is_header c =
    (refused_15 _ _ _ (sym c.is_header.ensures ∙ c.if-not-is_header.true))

pub returns-then-many-packets : goal.returns-then-many-packets
returns-then-many-packets c =
    (refused_16 _ _ _ (sym c.is_header.ensures ∙ c.if-not-is_header.false) _ c.sound_in-many.ensures.0 c.if-many-packets.true)

pub returns-then-many-gt-MOST : goal.returns-then-many-gt-MOST
returns-then-many-gt-MOST c =
    (refused_17 _ _ _ (sym c.is_header.ensures ∙ c.if-not-is_header.false) _ c.sound_in-many.ensures.0 c.if-many-packets.false c.if-many-gt-MOST.true)

pub returns-then-out-size : goal.returns-then-out-size
returns-then-out-size c =
    (refused_8 _ _ _ (sym c.is_header.ensures ∙ c.if-not-is_header.false) _ c.sound_in-many.ensures.0 c.if-many-packets.false (search rules) _ (search rules) c.if-out-size.true)

pub lay-requires : goal.lay-requires
lay-requires c =
    is_ready _ _ _ (sym c.is_header.ensures ∙ c.if-not-is_header.false) _ c.sound_in-many.ensures.0 c.if-many-packets.false (search rules) (1536 + 512 * c.blocks_for.result) (search rules) (search rules)

pub returns : goal.returns
returns c =
    written _ _ _ (sym c.is_header.ensures ∙ c.if-not-is_header.false) _ c.sound_in-many.ensures.0 c.if-many-packets.false (search rules) _ (search rules) (search rules) _ c.lay.ensures
