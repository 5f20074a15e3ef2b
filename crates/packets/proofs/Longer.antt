-- What a longer stream keeps: a packet whose read is complete, and whose carried byte is the same, does not change.
-- Assumes nothing.
use Prim.Native.Nat.{ℕ, zero, suc, ◌+◌, ◌-◌, ◌%◌, ◌≤◌, ◌<◌}
use mathlib.Core.Path.{◌≡◌, refl, ap, ◌∙◌}
use mathlib.Core.Bool.{Bool, true, false, cond}
use native.Mathlib.Omega.{arith}
use borrow.Author.Tests.{eq-eqb, ne_eqb}
use lib.Dec.{eqb}
use Rattle.tables.proofs.Cases.{by_equal}
use Rattle.tables.specs.Table.{table}
use Rattle.tables.proofs.Table.{same_table}
use Rattle.packets.specs.declared.Packet.{Packet}
use Rattle.packets.specs.Packet.{read_size, swapped_byte, packet_byte, carry_after, from, file_count, is_full, IsPacket}
use Rattle.packets.proofs.Packets.{full_says}
use Rattle.packets.specs.Walk.{Walk, steps, byte_of, count_at, Complete}

-- two streams agree below n
abbrev pub Agree : (ℕ → ℕ) → (ℕ → ℕ) → ℕ → Type 0
Agree s t n = (q : ℕ) → q < n → s q ≡ t q

-- the bytes of a read decide its packet
swapped_same : (carry : ℕ) (c d : ℕ → ℕ) (i : ℕ) → Agree c d 40 → i < 42 → (i ≡ 40 → ⊥) → swapped_byte carry c i ≡ swapped_byte carry d i
swapped_same carry c d i same h forty =
    by_equal i 1 (λ one. simp (eq-eqb i 1 one))
    (λ one.
    by_equal (i % 2) 0
    (λ even. simp (ne_eqb i 1 one, eq-eqb (i % 2) 0 even) (same (i + 1) (omega arith)))
    (λ odd. simp (ne_eqb i 1 one, ne_eqb (i % 2) 0 odd) (same (i - 3) (omega arith))))

pub same_packet : (swap : Bool) (carry : ℕ) (c d : ℕ → ℕ) (i : ℕ) → Agree c d (read_size swap) → i < 42
    → packet_byte swap carry c i ≡ packet_byte swap carry d i
unfolding packet_byte
same_packet true carry c d i same h =
    by_equal i 40 (λ forty. simp (eq-eqb i 40 forty)) (λ forty. simp (ne_eqb i 40 forty) (swapped_same carry c d i same h forty))
same_packet false carry c d i same h = ap (λ (x : ℕ). cond (eqb i 40) 0 x) (same i h)

pub same_carry : (swap : Bool) (carry : ℕ) (c d : ℕ → ℕ) → Agree c d (read_size swap) → carry_after swap carry c ≡ carry_after swap carry d
unfolding carry_after
same_carry true carry c d same = refl
same_carry false carry c d same = same 40 (omega arith)

-- a complete read has the same bytes in both
pub same_read : (s t : ℕ → ℕ) (n : ℕ) (swap : Bool) (q : ℕ) → Agree s t n → q + read_size swap ≤ n → Agree (from s q) (from t q) (read_size swap)
same_read s t n swap q agree complete j h = agree (q + j) (omega arith)

pub same_count : (n m : ℕ) (swap : Bool) (q : ℕ) → n ≤ m → q + read_size swap ≤ n → file_count n swap q ≡ file_count m swap q
unfolding file_count
same_count n m swap q more complete = omega arith

-- the packet at which a walk stands, and its count, are those of a longer stream if its read is complete
pub same_at : (s t : ℕ → ℕ) (n m : ℕ) (w : Walk) → Agree s t n → n ≤ m → Complete n w
    → (table 42 (byte_of s w) ≡ table 42 (byte_of t w)) × (count_at n w ≡ count_at m w)
same_at s t n m w agree more complete = (
  same_table 42 _ _
      (λ i h.
      same_packet w.swap w.carry (from s w.place) (from t w.place) i (same_read s t n w.swap w.place agree complete) h),
  same_count n m w.swap w.place more complete,
)

-- the packet that a read gives is the one that it gives of a longer stream
pub longer : (s t : ℕ → ℕ) (n m : ℕ) (swap : Bool) (carry q : ℕ) (p : Packet) → Agree s t n → n ≤ m → is_full n swap q ≡ true
    → IsPacket s n swap carry q p → IsPacket t m swap carry q p
longer s t n m swap carry q p agree more all x =
    let complete = full_says n swap q all in
    let same = same_at s t n m (record { place = q; carry = carry; swap = swap }) agree more complete in
    record {
      bytes_are = x.bytes_are ∙ same.0;
      count_is = x.count_is ∙ same.1;
      carry_is = x.carry_is ∙ same_carry swap carry (from s q) (from t q) (same_read s t n swap q agree complete);
      next_is = x.next_is;
    }

-- a walk that has not passed the shorter stream's end stands where it stands in the longer one
pub steps_longer : (s t : ℕ → ℕ) (n : ℕ) (w : Walk) (k : ℕ) → Agree s t n → (steps s w k).place ≤ n → steps s w k ≡ steps t w k
unfolding steps
steps_longer s t n w zero agree h = refl
steps_longer s t n w (suc k) agree h =
    let here : steps s w k ≡ steps t w k = steps_longer s t n w k agree (omega arith) in
    let v = steps s w k in
    let carries = same_carry v.swap v.carry (from s v.place) (from t v.place) (same_read s t n v.swap v.place agree h) in
    cc (here, carries)
