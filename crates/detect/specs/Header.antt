-- A good header of a DS2 audio block.
-- Assumes nothing.
use Rattle.std.specs.Prelude.{ℕ, List, Bool, ◌&&◌, ◌||◌, get_or, length, leb, ltb, eqb}

-- 0, 1, 2, 3, 6 or 7
unfoldable pub good_type : ℕ → Bool
good_type t = ltb t 4 || eqb t 6 || eqb t 7

-- its 6 bytes are there, byte 0 is 0x0F, bytes 3 and 5 are 0xFF, byte 2 is above 0, and byte 4 is a good type
unfoldable pub good_header : List ℕ → Bool
good_header h =
    leb 6 (length h) && eqb (get_or h 0 0) 0x0F && eqb (get_or h 3 0) 0xFF && eqb (get_or h 5 0) 0xFF && ltb 0 (get_or h 2 0)
    && good_type (get_or h 4 0)
