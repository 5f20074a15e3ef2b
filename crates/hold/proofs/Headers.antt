-- Headers of blocks that wait, byte by byte; and where a header's frames start at the least.
-- Assumes nothing.
use Prim.Native.Nat.{ℕ, ◌+◌, ◌*◌, ◌/◌, ◌%◌, ◌≤◌, ◌<◌}
use mathlib.Core.Path.{◌≡◌, refl, ap, ◌∙◌}
use mathlib.Core.List.{List}
use mathlib.Core.Bool.{Bool, true}
use native.Mathlib.Omega.{arith}
use borrow.Author.Tests.{lt-ltb, le-ltb}
use lib.ListN.{get_or}
use Rattle.tables.proofs.Table.{table_at, same_table}
use Rattle.blocks.specs.Headers.{header_byte}
use Rattle.packets.specs.Start.{dss_start}
use Rattle.hold.specs.Ready.{front}
use Rattle.hold.specs.Held.{headers_from, waiting_at}

pub header_waits : (f : List ℕ) (a n j p : ℕ) → p < 66 → j + p / 3 < n → get_or (headers_from f a n j) p 0 ≡ header_byte f a (j + p / 3) (p % 3)
unfolding headers_from
header_waits f a n j p h there = table_at 66 _ p h ∙ simp (lt-ltb (j + p / 3) n there)

-- the three bytes of the i-th block that waits
pub waiting_bytes : (f : List ℕ) (a n j i block : ℕ) (waiting : List ℕ) → i < 22 → waiting ≡ headers_from f a n j → j + i ≡ block → block < n
    → (get_or waiting (3 * i) 0 ≡ header_byte f a block 0)
    × (get_or waiting (3 * i + 1) 0 ≡ header_byte f a block 1)
    × (get_or waiting (3 * i + 2) 0 ≡ header_byte f a block 2)
waiting_bytes f a n j i block waiting few is number there =
    (byte 0 (3 * i) (omega arith) (omega arith), byte 1 (3 * i + 1) (omega arith) (omega arith), byte 2 (3 * i + 2) (omega arith) (omega arith))
  where
    byte : (k p : ℕ) → k < 3 → p ≡ 3 * i + k → get_or waiting p 0 ≡ header_byte f a block k
    byte k p small place =
        let entry : j + p / 3 ≡ block = omega arith in
        let here : p % 3 ≡ k = omega arith in
        ap (λ (l : List ℕ). get_or l p 0) is
        ∙ header_waits f a n j p (omega arith) (omega arith)
        ∙ ap (λ (b : ℕ). header_byte f a b (p % 3)) entry
        ∙ ap (header_byte f a block) here

-- DSS: the front block is the first of them
pub dss_waits : (f : List ℕ) (a n : ℕ) → waiting_at true f a n ≡ headers_from f a n (front f a n)
unfolding waiting_at
dss_waits f a n = refl

-- after all blocks none waits, however many they are
pub none_wait : (f : List ℕ) (a b n : ℕ) → headers_from f a b b ≡ headers_from f a n n
unfolding headers_from
none_wait f a b n = same_table 66 _ _ (λ i h. simp (le-ltb (b + i / 3) b (omega arith), le-ltb (n + i / 3) n (omega arith)))

-- a block's frames start in its payload, or right after it
pub start_least : (block byte1 : ℕ) (swap : Bool) → 506 * block ≤ dss_start block byte1 swap
unfolding dss_start
start_least block byte1 swap = omega arith
