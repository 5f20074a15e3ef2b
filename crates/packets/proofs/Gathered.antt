-- A packet gathered from a blend, from a block or from a window is the stream's packet.
-- Assumes nothing.
use Prim.Native.Nat.{ℕ, ◌+◌, ◌*◌, ◌-◌, ◌%◌, ◌/◌, ◌≤◌, ◌<◌, min}
use mathlib.Core.Path.{◌≡◌, refl, sym, ap, ◌∙◌}
use mathlib.Core.List.{List}
use mathlib.Core.Bool.{Bool, true, false, cond}
use native.Mathlib.Omega.{arith}
use borrow.Author.Tests.{eq-eqb, ne_eqb}
use lib.ListN.{length, get_or}
use lib.Dec.{eqb}
use Rattle.tables.proofs.Cases.{by_order, by_equal}
use Rattle.tables.specs.Table.{table}
use Rattle.tables.proofs.Table.{same_table}
use Rattle.tables.specs.Lent.{Leaves}
use Rattle.tables.proofs.Lent.{leaves_at}
use Rattle.blocks.specs.Places.{file_of, stream_at}
use Rattle.blocks.proofs.Places.{stream_past}
use Rattle.blocks.proofs.Stream.{together}
use Rattle.packets.specs.declared.Packet.{Packet}
use Rattle.packets.specs.Packet.{read_size, packet_byte, carry_after, from, file_count, IsPacket}
use Rattle.packets.proofs.Packets.{read_most}
use Rattle.packets.proofs.Longer.{Agree, same_packet, same_carry}
use Rattle.packets.specs.Inner.{bytes_of, Shifted, Blends, Blended, Window}

-- the carried byte and 40 bytes that stand 3 on, taken 4 on at even places and as they stand at odd ones, are a swapped packet
pub blended_is : (carry : ℕ) (c : ℕ → ℕ) (v x : List ℕ) → Shifted carry c v → Blends v x → Blended carry c x
unfolding packet_byte
blended_is carry c v x shifted blends = record { long = blends.long; packet = in_place }
  where
    value : (k : ℕ) → k < 48 → get_or x k 0 ≡ cond (eqb (k % 2) 0) (get_or v (k + 4) 0) (get_or v k 0)
    value = blends.at

    in_place : (k : ℕ) → k < 42 → get_or x k 0 ≡ packet_byte true carry c k
    in_place k h =
        by_equal k 40
        (λ e.
        let there : k + 4 ≡ 44 = omega arith in
        let even : k % 2 ≡ 0 = omega arith in
        value k (omega arith) ∙ simp (eq-eqb (k % 2) 0 even, eq-eqb k 40 e) (ap (λ (j : ℕ). get_or v j 0) there ∙ shifted.zero))
        (λ forty.
        by_equal k 1
        (λ e.
        let odd : k % 2 ≡ 0 → ⊥ = λ z. omega arith in
        value k (omega arith)
        ∙ simp (ne_eqb (k % 2) 0 odd, ne_eqb k 40 forty, eq-eqb k 1 e) (ap (λ (j : ℕ). get_or v j 0) e ∙ shifted.carried))
        (λ one.
        by_equal (k % 2) 0
        (λ e.
        let there : k + 4 ≡ 3 + (k + 1) = omega arith in
        value k (omega arith)
        ∙ simp (eq-eqb (k % 2) 0 e, ne_eqb k 40 forty, ne_eqb k 1 one)
        (ap (λ (j : ℕ). get_or v j 0) there ∙ shifted.at (k + 1) (omega arith)))
        (λ e.
        let there : k ≡ 3 + (k - 3) = omega arith in
        value k (omega arith)
        ∙ simp (ne_eqb (k % 2) 0 e, ne_eqb k 40 forty, ne_eqb k 1 one)
        (ap (λ (j : ℕ). get_or v j 0) there ∙ shifted.at (k - 3) (omega arith)))))

-- an unswapped read takes no account of the carry
pub plain_is : (carry : ℕ) (c : ℕ → ℕ) (k : ℕ) → cond (eqb k 40) 0 (c k) ≡ packet_byte false carry c k
unfolding packet_byte
plain_is carry c k = refl

-- a window from a buffer of zeros: past the end nothing is copied, and one run, or two, fill it otherwise
module _ (f zeros : List ℕ) (a n q : ℕ) (long : length zeros ≡ 42) (zero : (k : ℕ) → k < 42 → get_or zeros k 0 ≡ 0) where
  pub window_none : n ≤ q / 506 → Window (stream_at f a n) q zeros
  window_none past = record { long = long; at = λ k h. zero k h ∙ sym (stream_past f a n (q + k) (omega arith)) }

  module _ (w : List ℕ) (m p : ℕ) (run : m ≡ min (506 - q % 506) 42) (here : p ≡ file_of a q) (in_block : q / 506 < n)
      (first : Leaves zeros 0 m (λ k. get_or f (p + k) 0) w) where
    in_first : (k : ℕ) → k < m → get_or w k 0 ≡ stream_at f a n (q + k)
    in_first k h = leaves_at first k h ∙ ap (λ (i : ℕ). get_or f (i + k) 0) here ∙ together f a n q k in_block (omega arith)

    pub window_one : n ≤ q / 506 + 1 → Window (stream_at f a n) q w
    window_one last =
        record {
          long = first.long ∙ long;
          at = λ k h.
              by_order k m (in_first k)
              (λ l. first.high k (omega arith) ∙ zero k h ∙ sym (stream_past f a n (q + k) (omega arith)));
        }

    pub window_two : (x : List ℕ) (r : ℕ) → q / 506 + 1 < n → r ≡ file_of a (506 * (q / 506 + 1))
        → Leaves w m (42 - m) (λ k. get_or f (r + k) 0) x → Window (stream_at f a n) q x
    window_two x r next there second =
        record {
          long = second.long ∙ first.long ∙ long;
          at = λ k h. by_order k m (λ l. second.low k l ∙ in_first k l) (in_second k h);
        }
      where
        in_second : (k : ℕ) → k < 42 → m ≤ k → get_or x k 0 ≡ stream_at f a n (q + k)
        in_second k h l =
            let at : k ≡ m + (k - m) = omega arith in
            let q' : ℕ = 506 * (q / 506 + 1) in
            let place : q' + (k - m) ≡ q + k = omega arith in
            ap (λ (i : ℕ). get_or x i 0) at ∙ second.new (k - m) (omega arith) ∙ ap (λ (i : ℕ). get_or f (i + (k - m)) 0) there
            ∙ together f a n q' (k - m) (omega arith) (omega arith)
            ∙ ap (stream_at f a n) place

-- the bytes of a read that lie together: inside one block of the file, or in a window
pub in_block : (f : List ℕ) (a n q p : ℕ) (swap : Bool) → q / 506 < n → q % 506 ≤ 464 → p ≡ file_of a q
    → Agree (from (bytes_of f) p) (from (stream_at f a n) q) (read_size swap)
in_block f a n q p swap there near e j h =
    ap (λ (i : ℕ). get_or f (i + j) 0) e ∙ together f a n q j there (omega (arith, read_most swap))

pub in_window : (s : ℕ → ℕ) (q : ℕ) (w : List ℕ) (swap : Bool) → Window s q w → Agree (from (bytes_of w) 0) (from s q) (read_size swap)
in_window s q w swap window j h =
    let front : 0 + j ≡ j = omega arith in
    ap (λ (i : ℕ). get_or w i 0) front ∙ window.at j (omega (arith, read_most swap))

-- inside one block a read is complete
pub full_count : (n q : ℕ) (swap : Bool) → q / 506 < n → q % 506 ≤ 464 → read_size swap ≡ file_count (506 * n) swap q
unfolding file_count
full_count n q swap there near = omega (arith, read_most swap)

-- a packet gathered from bytes that are the stream's is the stream's
pub gathered : (s : ℕ → ℕ) (n : ℕ) (swap : Bool) (carry q : ℕ) (l : List ℕ) (p : ℕ) (packet : Packet)
    → Agree (from (bytes_of l) p) (from s q) (read_size swap)
    → packet.bytes ≡ table 42 (packet_byte swap carry (from (bytes_of l) p))
    → packet.count ≡ file_count n swap q
    → packet.carry ≡ carry_after swap carry (from (bytes_of l) p)
    → packet.next.0 ≡ q + read_size swap
    → IsPacket s n swap carry q packet
gathered s n swap carry q l p packet agree bytes count after next =
    record {
      bytes_are = bytes ∙ same_table 42 _ _ (λ i h. same_packet swap carry (from (bytes_of l) p) (from s q) i agree h);
      count_is = count;
      carry_is = after ∙ same_carry swap carry (from (bytes_of l) p) (from s q) agree;
      next_is = next;
    }
