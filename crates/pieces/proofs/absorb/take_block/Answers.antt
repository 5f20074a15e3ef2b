-- `pieces::absorb::take_block` meets its contract: the block's bytes stand in the piece, or in what was kept, made anew.
-- Assumes nothing.
use Rattle.pieces.proofs.Absorbing.{in_piece, in_partial, next_from, added_from}
use Rattle.pieces.proofs.absorb.take_block.Goals as goal

pub returns-then-taken-place : goal.returns-then-taken-place
returns-then-taken-place c = λ f g. added_from g (in_piece g c.if-taken-place.true) _ _ _ _ _ _ _ c.add_block.ensures

pub add_block-requires-2 : goal.add_block-requires-2
add_block-requires-2 c = let g = c.requires.1 in next_from g (in_partial g _ c.renew.ensures)

pub returns : goal.returns
returns c = λ f g. added_from g (in_partial g _ c.renew.ensures) _ _ _ _ _ _ _ c.add_block-2.ensures
