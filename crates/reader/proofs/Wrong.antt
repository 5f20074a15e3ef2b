-- Wrong readers that meet no contract, given a file that shows it: one that serves its first piece and then answers empty, and one that
-- invents the announced count. Assumes nothing.
use Prim.Native.Nat.{ℕ, ◌+◌, ◌<◌}
use mathlib.Core.Path.{◌≡◌, sym, ◌∙◌}
use mathlib.Core.List.{List, ◌∷◌}
use mathlib.Core.Bool.{true}
use native.Mathlib.Omega.{arith}
use Rattle.blocks.specs.Headers.{announced_in}
use Rattle.reader.specs.declared.Reader.{Reader}
use Rattle.reader.specs.declared.Step.{Step}
use Rattle.reader.specs.State.{is_kind, start_of, blocks_in, ready_by}
use Rattle.reader.specs.Calls.{Opens}
use Rattle.reader.specs.History.{OwedCall, joined, Fed}
use Rattle.reader.proofs.Folding.{opened_fed}
use Rattle.reader.proofs.Counted.{none_uncounted}

module _ (kind : ℕ) (opening : Step) (opens : Opens kind opening) (known : is_kind kind ≡ true) {piece : List ℕ} {rest : List (List ℕ)}
    {n : ℕ} {packets entries : List ℕ} {last : Reader} (fed : Fed opening.reader (piece ∷ rest) n packets entries last) where
  -- Where later pieces make more packets ready than the first did, more have come out.
  pub not_the_first_alone : ready_by kind piece < ready_by kind (joined (piece ∷ rest)) → n ≡ ready_by kind piece → ⊥
  not_the_first_alone more alone = omega (arith, more, alone, (opened_fed kind opening opens known fed).many)

  -- Packets handed out and frames owed do not add up to a count that the blocks do not announce.
  pub not_invented : (m invented : ℕ) → OwedCall last m → n + m ≡ invented
      → (invented ≡ announced_in (joined (piece ∷ rest)) (start_of kind) (blocks_in kind (joined (piece ∷ rest))) → ⊥) → ⊥
  not_invented m invented owes is other = other (sym is ∙ none_uncounted kind opening opens known fed m owes)
