-- Two files that have the same bytes from the audio start on have the same headers and the same payload stream.
-- Assumes nothing.
use Prim.Native.Nat.{ℕ, zero, suc, ◌+◌, ◌*◌, ◌≤◌}
use mathlib.Core.Path.{◌≡◌, refl, ap, fun_ext}
use mathlib.Core.List.{List}
use mathlib.Core.Bool.{cond}
use native.Mathlib.Omega.{arith}
use lib.ListN.{get_or}
use lib.Dec.{ltb}
use Rattle.blocks.specs.Places.{file_of, stream_at}
use Rattle.blocks.specs.Headers.{header_byte, announced_in}

abbrev pub AlikeFrom : ℕ → List ℕ → List ℕ → Type 0
AlikeFrom a f g = (i : ℕ) → a ≤ i → get_or f i 0 ≡ get_or g i 0

module _ (a : ℕ) (f g : List ℕ) (alike : AlikeFrom a f g) where
  pub header_alike : (b i : ℕ) → header_byte f a b i ≡ header_byte g a b i
  header_alike b i = alike (a + 512 * b + i) (omega arith)

  pub announced_alike : (n : ℕ) → announced_in f a n ≡ announced_in g a n
  unfolding announced_in
  announced_alike zero = refl
  announced_alike (suc b) = cc (announced_alike b, header_alike b 2)

  pub stream_alike : (n : ℕ) → stream_at f a n ≡ stream_at g a n
  unfolding stream_at
  stream_alike n = fun_ext (λ q. ap (λ (byte : ℕ). cond (ltb q (506 * n)) byte 0) (alike (file_of a q) (omega arith)))
