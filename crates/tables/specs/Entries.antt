-- A table of entries, each so many words wide, that is written from the front.
-- Assumes nothing.
use Rattle.std.specs.Prelude.{ℕ, List, [], ◌∷◌, ◌++◌, length, get_or}
use Rattle.tables.specs.Lent.{over}

-- what each thing in a list gives, one after another
unfoldable pub in_turn : {A B : Type 0} → (A → List B) → List A → List B
in_turn gives [] = []
in_turn gives (x ∷ rest) = gives x ++ in_turn gives rest

-- d with all the words of a list over its front
abbrev pub fronted : List ℕ → List ℕ → List ℕ
fronted words d = over (length words) (λ k. get_or words k 0) d
