-- A search by halving: entry `low` begins at or before packet p, and `high` is past the last entry or begins after p.
-- Assumes nothing.
use Prim.Native.Nat.{ℕ, ◌+◌, ◌≤◌, ◌<◌}
use mathlib.Core.Path.{◌≡◌, ap}
use mathlib.Core.List.{List}
use native.Mathlib.Omega.{arith}
use Rattle.finding.specs.Inner.{first_at, Crosses}

pub record Between (x : List ℕ) (front entries p low high : ℕ) : Type 0 where
  pub apart : low < high
  pub within : high ≤ entries
  pub begins : first_at x front low ≤ p
  pub next : high < entries → p < first_at x front high

module _ (x : List ℕ) (front entries p : ℕ) where
  pub between_all : 0 < entries → first_at x front 0 ≤ p → Between x front entries p 0 entries
  between_all some begins =
      record { apart = some; within = omega arith; begins = begins; next = λ h. absurd (omega arith) }

  module _ (low high middle first : ℕ) (after : low < middle) (before : middle < high) (is : first ≡ first_at x front middle) (w : Between x front entries p low high) where
    pub between_low : first ≤ p → Between x front entries p middle high
    between_low h = record { apart = before; within = w.within; begins = omega (arith, is); next = w.next }

    pub between_high : p < first → Between x front entries p low middle
    between_high h =
        record { apart = after; within = omega (arith, w.within); begins = w.begins; next = λ l. omega (arith, is) }

  pub between_none : (low high : ℕ) → high ≤ low + 1 → Between x front entries p low high → Crosses x front entries p low
  between_none low high h w =
      let last : high ≡ low + 1 = omega (arith, w.apart) in
      record {
        inside = omega (arith, w.apart, w.within);
        begins = w.begins;
        next = λ l. omega (arith, w.next (omega arith), ap (first_at x front) last);
      }
