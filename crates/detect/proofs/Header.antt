-- Past a file's end there is no good header.
-- Assumes nothing.
use Prim.Native.Nat.{ℕ, ◌+◌, ◌<◌}
use mathlib.Core.Path.{◌≡◌}
use mathlib.Core.List.{List}
use mathlib.Core.Bool.{false}
use native.Mathlib.Omega.{arith}
use borrow.Author.Tests.{lt-leb}
use lib.ListN.{length, drop, length-drop}
use Rattle.detect.specs.Header.{good_header}

-- where 6 bytes are no longer there, there is no good header
pub none_past : (f : List ℕ) (p : ℕ) → length f < p + 6 → good_header (drop p f) ≡ false
unfolding good_header
none_past f p h =
    let short : length (drop p f) < 6 = simp length-drop (omega arith) in
    simp (lt-leb 6 (length (drop p f)) short)
