-- A part of a list as code takes it, from a start to an end or to the list's end.
-- Assumes nothing.
use Prim.Native.Nat.{ℕ, zero, suc, ◌+◌, ◌-◌, min}
use mathlib.Core.Path.{◌≡◌, sym}
use mathlib.Core.List.{List, [], ◌∷◌}
use native.Mathlib.Nat.{sub-zero, zero-sub, suc-sub-suc}
use native.Mathlib.Omega.{arith}
use lib.ListN.{length, take, drop, length-take, length-drop}
use lib.Seq.{take_all, take-take, take-nil}
use Rattle.tables.proofs.Cases.{by_order}

pub part_is : (l : List ℕ) (start place n : ℕ) → start ≡ place → take (start + n - start) (drop start l) ≡ take n (drop place l)
part_is l start place n e = let size : start + n - start ≡ n = omega arith in rw (size, e)

-- a part that goes to the end
pub rest_is : (l : List ℕ) (start : ℕ) → take (length l - start) (drop start l) ≡ drop start l
rest_is l start = take_all (length l - start) (drop start l) (simp length-drop (omega arith))

-- the first m of the first n
pub take_least : (m n : ℕ) (l : List ℕ) → take m (take n l) ≡ take (min m n) l
take_least m n l =
    by_order n m
    (λ h.
    let least : min m n ≡ n = omega arith in
    rw least (take_all m (take n l) (simp length-take (omega arith))))
    (λ h. let least : min m n ≡ m = omega arith in rw least (take-take m n l h))

-- the first n without their first m
pub drop_of_take : (m n : ℕ) (l : List ℕ) → drop m (take n l) ≡ take (n - m) (drop m l)
drop_of_take zero n l = rw sub-zero
drop_of_take (suc m) zero l = rw zero-sub
drop_of_take (suc m) (suc n) [] = sym (take-nil (suc n - suc m))
drop_of_take (suc m) (suc n) (byte ∷ l) = rw suc-sub-suc (drop_of_take m n l)
