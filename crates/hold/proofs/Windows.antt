-- Bytes of a hold are the stream's, past the hold's end too; and so is a window into it, and a packet gathered from either.
-- Assumes nothing.
use Prim.Native.Nat.{ℕ, ◌+◌, ◌-◌, ◌≤◌, ◌<◌, min}
use mathlib.Core.Path.{◌≡◌, sym, ap, ◌∙◌}
use mathlib.Core.List.{List}
use mathlib.Core.Bool.{Bool}
use native.Mathlib.Omega.{arith}
use lib.ListN.{length, get_or, get_or-eq_default}
use Rattle.tables.specs.Table.{table}
use Rattle.tables.specs.Lent.{Leaves}
use Rattle.tables.proofs.Cases.{by_order}
use Rattle.tables.proofs.Table.{length_table, table_at, is_table}
use Rattle.tables.proofs.Lent.{leaves_at}
use Rattle.packets.specs.Packet.{read_size, from}
use Rattle.packets.specs.Inner.{bytes_of}
use Rattle.packets.proofs.Longer.{Agree}
use Rattle.packets.proofs.Gathered.{in_window}
use Rattle.hold.specs.Held.{held_from}
use Rattle.hold.specs.Inner.{Holds}

pub held_long : (s : ℕ → ℕ) (base : ℕ) → length (held_from s base) ≡ 12288
unfolding held_from
held_long s base = length_table 12288 _

held_in : (s : ℕ → ℕ) (base i : ℕ) → i < 12288 → get_or (held_from s base) i 0 ≡ s (base + i)
unfolding held_from
held_in s base i h = table_at 12288 _ i h

-- what stands at any place of a hold
pub held_at : {s : ℕ → ℕ} {long base : ℕ} {hold : List ℕ} → Holds s long base hold → (i : ℕ) → get_or hold i 0 ≡ s (base + i)
held_at {s} {long} {base} {hold} holds i =
    ap (λ (l : List ℕ). get_or l i 0) holds.hold_is
    ∙ by_order i 12288 (held_in s base i)
    (λ past.
    get_or-eq_default (held_from s base) 0 (omega (arith, held_long s base)) ∙ sym (holds.past (base + i) (omega (arith, holds.within))))

-- the bytes that the hold has from a place on, and zeros after them
pub window_is : (hold zeros window : List ℕ) (at begin n : ℕ) → length hold ≡ 12288 → length zeros ≡ 42
    → ((k : ℕ) → k < 42 → get_or zeros k 0 ≡ 0) → begin ≡ min at 12288 → n ≡ min (12288 - begin) 42
    → Leaves zeros 0 n (λ j. get_or hold (begin + j) 0) window → window ≡ table 42 (λ i. get_or hold (at + i) 0)
window_is hold zeros window at begin n long wide zero first many w =
    is_table 42 (λ i. get_or hold (at + i) 0) window (w.long ∙ wide)
    (λ k h.
    by_order k n (λ l. let place : begin + k ≡ at + k = omega arith in leaves_at w k l ∙ ap (λ (i : ℕ). get_or hold i 0) place)
    (λ l. w.high k (omega arith) ∙ zero k h ∙ sym (get_or-eq_default hold 0 (omega arith))))

-- a read that begins in the hold, and one from a window
module _ {s : ℕ → ℕ} {long base : ℕ} {hold : List ℕ} (holds : Holds s long base hold) (q : ℕ) (begun : base ≤ q) (swap : Bool) where
  stream_at : (k : ℕ) → get_or hold (q - base + k) 0 ≡ s (q + k)
  stream_at k = let place : base + (q - base + k) ≡ q + k = omega arith in held_at holds (q - base + k) ∙ ap s place

  pub hold_agrees : Agree (from (bytes_of hold) (q - base)) (from s q) (read_size swap)
  hold_agrees j h = stream_at j

  pub window_agrees : (w : List ℕ) → w ≡ table 42 (λ i. get_or hold (q - base + i) 0) → Agree (from (bytes_of w) 0) (from s q) (read_size swap)
  window_agrees w is =
      in_window s q w swap
      (record {
        long = ap length is ∙ length_table 42 _;
        at = λ k h. ap (λ (l : List ℕ). get_or l k 0) is ∙ table_at 42 _ k h ∙ stream_at k;
      })
