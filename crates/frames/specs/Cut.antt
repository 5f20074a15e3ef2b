-- A segment's frames as lists of bytes: its bytes cut by 56, and what the calls give that find, fill and show them.
-- Assumes nothing.
use Rattle.std.specs.Prelude.{ℕ, zero, suc, ◌+◌, List, [], ◌∷◌, ◌++◌, cond, take, drop, eqb}
use Rattle.frames.specs.Frames.{frame_of}
use Rattle.frames.specs.Fetch.{filled, shown}

-- bytes cut by 56, the last part perhaps shorter; at most n parts
unfoldable pub cut : ℕ → List ℕ → List (List ℕ)
cut zero bytes = []
cut (suc n) [] = []
cut (suc n) (byte ∷ bytes) = take 56 (byte ∷ bytes) ∷ cut n (drop 56 (byte ∷ bytes))

-- what the second call shows after the first
abbrev pub fetched_bytes : List ℕ → ℕ → ℕ → List ℕ → List ℕ
fetched_bytes f q size scratch = shown f q size (filled f q size scratch)

-- frame k of the segment from a start on, so found and fetched; nothing if it is missing. `scratch k` is what the scratch holds before
unfoldable pub fetched_at : List ℕ → (ℕ → List ℕ) → ℕ → ℕ → ℕ → List (List ℕ)
fetched_at f scratch start long k =
    cond (eqb (frame_of start long k).size 0) []
    (fetched_bytes f (frame_of start long k).place.0 (frame_of start long k).size (scratch k) ∷ [])

-- and n frames from number k on
unfoldable pub fetched_frames : List ℕ → (ℕ → List ℕ) → ℕ → ℕ → ℕ → ℕ → List (List ℕ)
fetched_frames f scratch start long zero k = []
fetched_frames f scratch start long (suc n) k =
    fetched_at f scratch start long k ++ fetched_frames f scratch start long n (k + 1)
