-- The header that a caller supplies for a file to be written: 1,536 bytes that begin with `\x01ds2` or `\x03ds2`. What else it holds is free.
-- Assumes nothing.
use Rattle.std.specs.Prelude.{ℕ, ◌<◌, ◌≡◌, List, Bool, ◌&&◌, ◌||◌, length, get_or, eqb}
use Rattle.magic.specs.declared.Magic.TheVariants.{Ds2}
use Rattle.magic.specs.Magics.{spells, magic_of}

-- `ds2` is 100, 115, 50
unfoldable pub is_header : List ℕ → Bool
is_header header = eqb (length header) 1536 && (eqb (get_or header 0 0) 1 || eqb (get_or header 0 0) 3) && spells header 100 115 50

-- the same in the words of reading: so many bytes, DS2's magic, and a first byte below 7, so that the audio start is not looked for
pub record Header (header : List ℕ) : Type 0 where
  pub long : length header ≡ 1536
  pub magic : magic_of header ≡ Ds2
  pub fixed : get_or header 0 0 < 7
