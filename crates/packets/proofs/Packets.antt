-- Full counts; and that two packets of one read are the same.
-- Assumes nothing.
use Prim.Native.Nat.{ℕ, ◌+◌, ◌-◌, ◌≤◌, ◌<◌, min}
use mathlib.Core.Path.{◌≡◌}
use mathlib.Core.List.{List}
use mathlib.Core.Bool.{Bool, true, false}
use native.Mathlib.Omega.{arith}
use borrow.Author.Tests.{eq-eqb, eqb-true, eqb-false}
use Rattle.tables.proofs.Cases.{by_order}
use Rattle.packets.specs.declared.Packet.{Packet}
use Rattle.packets.specs.Packet.{read_size, file_count, is_full, IsPacket}

pub read_most : (swap : Bool) → read_size swap ≤ 42
read_most true = omega arith
read_most false = omega arith

-- a count is full exactly when the read is complete
pub full_says : (n : ℕ) (swap : Bool) (q : ℕ) → is_full n swap q ≡ true → q + read_size swap ≤ n
unfolding is_full file_count
full_says n swap q e = complete swap (eqb-true (file_count n swap q) (read_size swap) e)
  where
    complete : (swap : Bool) → file_count n swap q ≡ read_size swap → q + read_size swap ≤ n
    complete true e = omega arith
    complete false e = omega arith

pub full_if : (n : ℕ) (swap : Bool) (q : ℕ) → q + read_size swap ≤ n → is_full n swap q ≡ true
unfolding is_full file_count
full_if n swap q h =
    let all : min (read_size swap) (n - q) ≡ read_size swap = omega arith in
    eq-eqb (min (read_size swap) (n - q)) (read_size swap) all

pub not_full_says : (n : ℕ) (swap : Bool) (q : ℕ) → is_full n swap q ≡ false → n < q + read_size swap
unfolding is_full file_count
not_full_says n swap q e =
    let less : min (read_size swap) (n - q) ≡ read_size swap → ⊥ = eqb-false (min (read_size swap) (n - q)) (read_size swap) e in
    by_order n (q + read_size swap) (λ h. h) (λ h. absurd (less (omega arith)))

-- and it is the read size then
pub count_full : (n : ℕ) (swap : Bool) (q : ℕ) → q + read_size swap ≤ n → file_count n swap q ≡ read_size swap
unfolding file_count
count_full n swap q h = omega arith

-- two packets that a read may give are the same
packet : List ℕ → ℕ → ℕ → ℕ → Packet
packet bytes count carry next = record { bytes = bytes; count = count; carry = carry; next = record { 0 = next } }

pub only_packet : (s : ℕ → ℕ) (n : ℕ) (swap : Bool) (carry q : ℕ) (p r : Packet) → IsPacket s n swap carry q p
    → IsPacket s n swap carry q r → p ≡ r
unfolding packet
only_packet s n swap carry q p r x y = same
  where
    same : packet p.bytes p.count p.carry p.next.0 ≡ packet r.bytes r.count r.carry r.next.0
    same = cc (x.bytes_are, x.count_is, x.carry_is, x.next_is, y.bytes_are, y.count_is, y.carry_is, y.next_is)
