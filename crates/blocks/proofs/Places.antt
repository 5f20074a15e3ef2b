-- Laws of the payload stream's places: what stands inside the stream, and past its end.
-- Assumes nothing.
use Prim.Native.Nat.{ℕ, ◌*◌, ◌≤◌, ◌<◌}
use mathlib.Core.Path.{◌≡◌}
use mathlib.Core.List.{List}
use borrow.Author.Tests.{lt-ltb, le-ltb}
use lib.ListN.{get_or}
use Rattle.blocks.specs.Places.{file_of, stream_at}

pub stream_in : (f : List ℕ) (a n q : ℕ) → q < 506 * n → stream_at f a n q ≡ get_or f (file_of a q) 0
unfolding stream_at
stream_in f a n q h = simp (lt-ltb q (506 * n) h)

pub stream_past : (f : List ℕ) (a n q : ℕ) → 506 * n ≤ q → stream_at f a n q ≡ 0
unfolding stream_at
stream_past f a n q h = simp (le-ltb q (506 * n) h)
