-- The four bytes of the encrypted recorders are no magic.
-- Assumes nothing.
use Prim.Native.Nat.{ℕ}
use mathlib.Core.Path.{◌≡◌}
use mathlib.Core.List.{List}
use native.Mathlib.Omega.{arith}
use borrow.Author.Tests.{le-ltb}
use lib.ListN.{length}
use Rattle.magic.specs.declared.Magic.TheVariants.{Other}
use Rattle.magic.specs.Magics.{spells, magic_of}
use Rattle.magic.specs.Withdrawn.{encrypted}

-- Whatever follows them.
pub encrypted_is_none : (rest : List ℕ) → magic_of (encrypted rest) ≡ Other
unfolding magic_of spells
encrypted_is_none rest = simp (le-ltb (length (encrypted rest)) 4 (omega arith))
