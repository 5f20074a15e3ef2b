-- Parts of a reading: a part of a run goes on where the run's walk stands, what is written of a run is a part of the reading, and a part
-- that follows a part makes one. Assumes nothing.
use Prim.Native.Nat.{ℕ, zero, suc, ◌+◌, ◌*◌, ◌/◌, ◌%◌, ◌≤◌, ◌<◌}
use mathlib.Core.Path.{◌≡◌, sym, ap, ◌∙◌, subst}
use mathlib.Core.List.{List}
use mathlib.Core.Bool.{Bool}
use native.Mathlib.Omega.{arith}
use Rattle.tables.specs.Lent.{Leaves}
use Rattle.tables.proofs.Lent.{leaves_none, leaves_join, leaves_as, leaves_to}
use Rattle.packets.specs.Walk.{Walk, step, steps, byte_of, count_at, reach, parity}
use Rattle.packets.specs.Inner.{joined_at}
use Rattle.packets.proofs.Walk.{steps_none, steps_more, steps_place, steps_swap, joined_is}
use Rattle.sp.specs.Readings.{Reading, total, walk_at, joined_byte_at, file_count_at, carry_at}
use Rattle.sp.specs.Inner.{RunWritten}
use Rattle.hold.specs.Inner.{PartWritten}
use Rattle.hold.proofs.Carries.{carry_goes_past}

-- steps add up
pub steps_on : (s : ℕ → ℕ) (w : Walk) (k j : ℕ) → steps s w (k + j) ≡ steps s (steps s w k) j
steps_on s w k zero = let all : k + 0 ≡ k = omega arith in ap (steps s w) all ∙ sym (steps_none s (steps s w k))
steps_on s w k (suc j) =
    let next : k + suc j ≡ k + j + 1 = omega arith in
    let last : j + 1 ≡ suc j = omega arith in
    ap (steps s w) next
    ∙ steps_more s w (k + j)
    ∙ ap (step s) (steps_on s w k j)
    ∙ sym (steps_more s (steps s w k) j)
    ∙ ap (steps s (steps s w k)) last

-- where a walk goes on after h packets, with what it then carries
abbrev pub onward : Walk → ℕ → ℕ → Walk
onward v h carry = record { place = v.place + reach v.swap h; carry = carry; swap = parity v.swap h }

pub onward_is : (s : ℕ → ℕ) (v : Walk) (h carry : ℕ) → carry ≡ (steps s v h).carry → onward v h carry ≡ steps s v h
onward_is s v h carry is = same
  where
    walk : ℕ → ℕ → Bool → Walk
    walk place carry swap = record { place = place; carry = carry; swap = swap }

    same : walk (v.place + reach v.swap h) carry (parity v.swap h) ≡ walk (steps s v h).place (steps s v h).carry (steps s v h).swap
    same = cc (steps_place s v h, steps_swap s v h)

module _ (reading : Reading) where
  -- nothing is handed out yet
  pub part_none : (k base carry : ℕ) (out counts : List ℕ) → carry ≡ carry_at reading k → PartWritten reading k 0 base out out counts counts carry
  part_none k base carry out counts is =
      let all : k ≡ k + 0 = omega arith in
      record {
        packets_are = leaves_to (omega arith) (leaves_none out (42 * base) _);
        counts_are = leaves_none counts base _;
        carry_is = is ∙ ap (carry_at reading) all;
      }

  -- a part that follows a part
  pub part_join : (k m n base at carry carry' : ℕ) (out out₁ out₂ counts counts₁ counts₂ : List ℕ) → at ≡ base + m
      → PartWritten reading k m base out out₁ counts counts₁ carry
      → PartWritten reading (k + m) n at out₁ out₂ counts₁ counts₂ carry'
      → PartWritten reading k (m + n) base out out₂ counts counts₂ carry'
  part_join k m n base at carry carry' out out₁ out₂ counts counts₁ counts₂ here p q =
      record {
        packets_are =
            leaves_to (omega arith)
            (leaves_join out (42 * base) (42 * m) (42 * n) (λ i. joined_byte_at reading (42 * k + i)) _ out₁ out₂ p.packets_are
            (subst (λ (a : ℕ). Leaves out₁ a (42 * n) (λ i. joined_byte_at reading (42 * (k + m) + i)) out₂) (omega arith) q.packets_are)
            (λ i h. ap (joined_byte_at reading) (omega arith)));
        counts_are =
            leaves_join counts base m n (λ i. file_count_at reading (k + i)) _ counts₁ counts₂ p.counts_are
            (subst (λ (a : ℕ). Leaves counts₁ a n (λ i. file_count_at reading (k + m + i)) counts₂) here q.counts_are)
            (λ i h. ap (file_count_at reading) (omega arith));
        carry_is = q.carry_is ∙ ap (carry_at reading) (omega arith);
      }

  -- m packets of a walk that are the reading's from packet k on
  module _ (k m : ℕ) (w : Walk) (inside : k + m ≤ total reading) (carried : w.carry ≡ carry_at reading k)
      (stands : (t : ℕ) → t < m → walk_at reading (k + t) ≡ steps reading.stream w t) where
    carry_on : (t : ℕ) → t ≤ m → (steps reading.stream w t).carry ≡ carry_at reading (k + t)
    carry_on zero h =
        let all : k ≡ k + 0 = omega arith in
        ap (λ (v : Walk). v.carry) (steps_none reading.stream w) ∙ carried ∙ ap (carry_at reading) all
    carry_on (suc t) h =
        let next : k + t + 1 ≡ k + suc t = omega arith in
        let last : suc t ≡ t + 1 = omega arith in
        ap (λ (i : ℕ). (steps reading.stream w i).carry) last
        ∙ ap (λ (v : Walk). v.carry) (steps_more reading.stream w t)
        ∙ ap (λ (v : Walk). (step reading.stream v).carry) (sym (stands t (omega arith)))
        ∙ sym (carry_goes_past reading.stream reading.carry reading.runs (k + t) (omega arith))
        ∙ ap (carry_at reading) next

    pub part_written : (base carry : ℕ) (out out' counts counts' : List ℕ)
        → RunWritten reading.stream reading.long w base m out out' counts counts' carry
        → PartWritten reading k m base out out' counts counts' carry
    part_written base carry out out' counts counts' r =
        record {
          packets_are = leaves_as _ due r.packets_are;
          counts_are = leaves_as _ (λ t h. ap (count_at reading.long) (sym (stands t h))) r.counts_are;
          carry_is = r.carry_is ∙ carry_on m (omega arith);
        }
      where
        due : (i : ℕ) → i < 42 * m → joined_at reading.stream w i ≡ joined_byte_at reading (42 * k + i)
        due i h =
            let number : k + i / 42 ≡ (42 * k + i) / 42 = omega arith in
            let byte : i % 42 ≡ (42 * k + i) % 42 = omega arith in
            joined_is reading.stream w i
            ∙ ap (λ (v : Walk). byte_of reading.stream v (i % 42)) (sym (stands (i / 42) (omega arith)) ∙ ap (walk_at reading) number)
            ∙ ap (byte_of reading.stream (walk_at reading ((42 * k + i) / 42))) byte

  -- the same of a walk that has gone on by h packets
  pub part_of_walk : (v : Walk) (h k m base carry carry' : ℕ) (out out' counts counts' : List ℕ) → k + m ≤ total reading → carry ≡ carry_at reading k
      → ((t : ℕ) → t < m → walk_at reading (k + t) ≡ steps reading.stream v (h + t))
      → RunWritten reading.stream reading.long (onward v h carry) base m out out' counts counts' carry'
      → PartWritten reading k m base out out' counts counts' carry'
  part_of_walk v h k m base carry carry' out out' counts counts' inside carried stands r =
      part_written k m (onward v h carry) inside carried goes_on base carry' out out' counts counts' r
    where
      goes_on : (t : ℕ) → t < m → walk_at reading (k + t) ≡ steps reading.stream (onward v h carry) t
      goes_on t l =
          let none : k ≡ k + 0 = omega arith in
          let all : h + 0 ≡ h = omega arith in
          let here : carry ≡ (steps reading.stream v h).carry =
          carried ∙ ap (carry_at reading) none ∙ ap (λ (u : Walk). u.carry) (stands 0 (omega arith) ∙ ap (steps reading.stream v) all) in
          stands t l
          ∙ steps_on reading.stream v h t
          ∙ ap (λ (u : Walk). steps reading.stream u t) (sym (onward_is reading.stream v h carry here))
