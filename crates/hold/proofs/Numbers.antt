-- The numbers beside the hold, one by one; and what they say of a DSS recording.
-- Assumes nothing.
use Prim.Native.Nat.{ℕ, ◌*◌, ◌/◌}
use mathlib.Core.Path.{◌≡◌, ap}
use mathlib.Core.List.{List}
use mathlib.Core.Bool.{Bool, true}
use native.Mathlib.Omega.{arith}
use borrow.Author.Tests.{ne_eqb}
use Rattle.blocks.specs.Headers.{header_byte, announced_in}
use Rattle.hold.specs.declared.Standing.{Standing}
use Rattle.hold.specs.Ready.{reading_in, front, ready}
use Rattle.hold.specs.Held.{base_at}
use Rattle.sp.specs.Readings.{carry_at}
use Rattle.hold.specs.Inner.{numbers_at}
use Rattle.hold.proofs.Ready.{dss_ready, dss_base}

pub record Numbered (dss : Bool) (f : List ℕ) (a n b k : ℕ) (now : Standing) : Type 0 where
  pub announced_is : now.announced ≡ announced_in f a b
  pub ready_is : now.ready ≡ ready dss f a b
  pub base_is : now.base.0 ≡ base_at dss f a b
  pub first_is : (b ≡ 0 → ⊥) → now.first ≡ header_byte f a 0 0
  pub carry_is : now.carry ≡ carry_at (reading_in dss f a n) k

pub numbered : (dss : Bool) (f : List ℕ) (a n b k : ℕ) (now : Standing) → now ≡ numbers_at dss f a n b k → Numbered dss f a n b k now
numbered dss f a n b k now are =
    record {
      announced_is = ap (λ (s : Standing). s.announced) are;
      ready_is = ap (λ (s : Standing). s.ready) are;
      base_is = ap (λ (s : Standing). s.base.0) are;
      first_is = λ some. simp (ne_eqb b 0 some) at (ap (λ (s : Standing). s.first) are);
      carry_is = ap (λ (s : Standing). s.carry) are;
    }

-- the hold begins with the first block that waits, and the packets of those before it are out
module _ {f : List ℕ} {a n b k : ℕ} {now : Standing} (v : Numbered true f a n b k now) where
  pub front_is : now.base.0 / 506 ≡ front f a b
  front_is = omega (arith, v.base_is, dss_base f a b)

  pub base_aligned : now.base.0 ≡ 506 * (now.base.0 / 506)
  base_aligned = omega (arith, v.base_is, dss_base f a b)

  pub out_before : announced_in f a (now.base.0 / 506) ≡ ready true f a b
  out_before = omega (arith, dss_ready f a b, ap (announced_in f a) front_is)
