-- The payload stream is the payloads joined; it lies together inside one block, and agrees with that of a longer file.
-- Assumes nothing.
use Prim.Native.Nat.{ℕ, zero, suc, ◌+◌, ◌*◌, ◌-◌, ◌/◌, ◌%◌, ◌≤◌, ◌<◌}
use mathlib.Core.Path.{◌≡◌, refl, sym, ap, ◌∙◌}
use mathlib.Core.List.{List, ◌++◌}
use native.Mathlib.Nat.{mul-suc}
use native.Mathlib.Omega.{arith}
use lib.ListN.{length, get_or, take, drop, length-append, length-drop, get_or-append, get_or-eq_default}
use lib.Seq.{length-take-le, get_or-take, get_or-drop, get_or-append-add}
use Rattle.tables.specs.Table.{table}
use Rattle.tables.proofs.Table.{is_table}
use Rattle.tables.proofs.Cases.{by_order}
use Rattle.blocks.specs.Places.{Whole, file_of, block_at, payload_of, stream_at}
use Rattle.blocks.proofs.Places.{stream_in, stream_past}
use Rattle.blocks.specs.Stream.{joined}

pub payload_long : (f : List ℕ) (a b : ℕ) → Whole f a (suc b) → length (payload_of f a b) ≡ 506
payload_long f a b whole =
    length-take-le 506 (drop (block_at a b + 6) f) (simp length-drop (omega (arith, mul-suc 512 b)))

pub joined_long : (f : List ℕ) (a n : ℕ) → Whole f a n → length (joined f a n) ≡ 506 * n
unfolding joined
joined_long f a zero whole = refl
joined_long f a (suc n) whole =
    let fewer : Whole f a n = omega (arith, mul-suc 512 n) in
    omega (arith, length-append (joined f a n) (payload_of f a n), joined_long f a n fewer, payload_long f a n whole, mul-suc 506 n)

joined_in : (f : List ℕ) (a n q : ℕ) → Whole f a n → q < 506 * n → get_or (joined f a n) q 0 ≡ get_or f (file_of a q) 0
unfolding joined
joined_in f a zero q whole h = absurd (omega arith)
joined_in f a (suc n) q whole h =
    let fewer : Whole f a n = omega (arith, mul-suc 512 n) in
    let long : length (joined f a n) ≡ 506 * n = joined_long f a n fewer in
    by_order q (506 * n)
    (λ l. get_or-append (joined f a n) (payload_of f a n) 0 q (omega arith) ∙ joined_in f a n q fewer l)
    (λ l.
    let k : ℕ = q - 506 * n in
    let split : q ≡ length (joined f a n) + k = omega arith in
    let small : k < 506 = omega (arith, mul-suc 506 n) in
    let there : block_at a n + 6 + k ≡ file_of a q = omega arith in
    ap (λ (j : ℕ). get_or (joined f a n ++ payload_of f a n) j 0) split
    ∙ get_or-append-add (joined f a n) (payload_of f a n) k 0
    ∙ get_or-take 506 (drop (block_at a n + 6) f) k 0 small
    ∙ get_or-drop (block_at a n + 6) f k 0
    ∙ ap (λ (j : ℕ). get_or f j 0) there)

pub stream_is_joined : (f : List ℕ) (a n q : ℕ) → Whole f a n → stream_at f a n q ≡ get_or (joined f a n) q 0
stream_is_joined f a n q whole =
    by_order q (506 * n)
    (λ l. stream_in f a n q l ∙ sym (joined_in f a n q whole l))
    (λ l. stream_past f a n q l ∙ sym (get_or-eq_default (joined f a n) 0 (omega (arith, joined_long f a n whole))))

-- the stream inside one block lies together in the file
pub together : (f : List ℕ) (a n q j : ℕ) → q / 506 < n → q % 506 + j < 506 → get_or f (file_of a q + j) 0 ≡ stream_at f a n (q + j)
together f a n q j inside near =
    let there : file_of a q + j ≡ file_of a (q + j) = omega arith in
    ap (λ (i : ℕ). get_or f i 0) there ∙ sym (stream_in f a n (q + j) (omega arith))

-- the stream of a longer file with the same blocks in front agrees as far as the shorter goes
pub longer_agrees : (f p : List ℕ) (a n m q : ℕ) → Whole f a n → n ≤ m → q < 506 * n → stream_at f a n q ≡ stream_at (f ++ p) a m q
longer_agrees f p a n m q whole more h =
    stream_in f a n q h
    ∙ sym (get_or-append f p 0 (file_of a q) (omega arith))
    ∙ sym (stream_in (f ++ p) a m q (omega arith))

-- so many bytes of the stream are a part of the payloads joined
pub stream_part : (f : List ℕ) (a n q size : ℕ) → Whole f a n → q + size ≤ 506 * n
    → table size (λ k. stream_at f a n (q + k)) ≡ take size (drop q (joined f a n))
stream_part f a n q size whole there =
    sym (is_table size (λ k. stream_at f a n (q + k)) (take size (drop q (joined f a n)))
    (length-take-le size (drop q (joined f a n)) (simp length-drop (omega (arith, joined_long f a n whole))))
    (λ k h. get_or-take size (drop q (joined f a n)) k 0 h ∙ get_or-drop q (joined f a n) k 0 ∙ sym (stream_is_joined f a n (q + k) whole)))
