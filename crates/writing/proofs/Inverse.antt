-- The read laid for a packet is the inverse of the packet that a read gives, both ways; and the blend gathers it.
-- Assumes nothing.
use Prim.Native.Nat.{ℕ, ◌+◌, ◌-◌, ◌%◌, ◌<◌}
use mathlib.Core.Path.{◌≡◌, refl, sym, ap, ◌∙◌}
use mathlib.Core.List.{List}
use mathlib.Core.Bool.{Bool, true, false}
use native.Mathlib.Omega.{arith}
use borrow.Author.Tests.{eq-eqb, ne_eqb}
use lib.ListN.{get_or}
use Rattle.tables.specs.Table.{table}
use Rattle.tables.proofs.Table.{table_at}
use Rattle.tables.proofs.Cases.{by_equal}
use Rattle.packets.specs.Packet.{read_size, packet_byte, carry_after}
use Rattle.packets.specs.Inner.{Blends}
use Rattle.writing.specs.Reads.{swapped_read, read_byte}
use Rattle.writing.specs.Inner.{OneOn, SwappedRead}

-- a packet whose byte 40 is 0 is what its read gives, if a swapped one's byte 1 is carried to it
pub gives_back : (swap : Bool) (carry carried : ℕ) (x : ℕ → ℕ) (i : ℕ) → i < 42 → x 40 ≡ 0 → (swap ≡ true → carry ≡ x 1)
    → packet_byte swap carry (read_byte swap carried x) i ≡ x i
unfolding packet_byte read_byte
gives_back true carry carried x i h zero is =
    by_equal i 40 (λ e. simp (eq-eqb i 40 e) (sym (ap x e ∙ zero)))
    (λ forty.
    by_equal i 1 (λ e. simp (ne_eqb i 40 forty, eq-eqb i 1 e) (is refl ∙ ap x (sym e)))
    (λ one.
    by_equal (i % 2) 0
    (λ even.
    let odd : (i + 1) % 2 ≡ 0 → ⊥ = λ e. omega arith in
    let back : i + 1 - 1 ≡ i = omega arith in
    simp (ne_eqb i 40 forty, ne_eqb i 1 one, eq-eqb (i % 2) 0 even, ne_eqb ((i + 1) % 2) 0 odd) (ap x back))
    (λ odd.
    let even : (i - 3) % 2 ≡ 0 = omega arith in
    let back : i - 3 + 3 ≡ i = omega arith in
    simp (ne_eqb i 40 forty, ne_eqb i 1 one, ne_eqb (i % 2) 0 odd, eq-eqb ((i - 3) % 2) 0 even) (ap x back))))
gives_back false carry carried x i h zero is =
    by_equal i 40 (λ e. simp (eq-eqb i 40 e) (sym (ap x e ∙ zero))) (λ forty. simp (ne_eqb i 40 forty))

-- and a read is what is laid for the packet that it gives, with what it carries on
pub laid_again : (swap : Bool) (carry : ℕ) (c : ℕ → ℕ) (j : ℕ) → j < read_size swap
    → read_byte swap (carry_after swap carry c) (packet_byte swap carry c) j ≡ c j
unfolding packet_byte read_byte carry_after
laid_again true carry c j h =
    by_equal (j % 2) 0
    (λ even.
    let forty : j + 3 ≡ 40 → ⊥ = λ e. omega arith in
    let one : j + 3 ≡ 1 → ⊥ = λ e. omega arith in
    let odd : (j + 3) % 2 ≡ 0 → ⊥ = λ e. omega arith in
    let back : j + 3 - 3 ≡ j = omega arith in
    simp (eq-eqb (j % 2) 0 even, ne_eqb (j + 3) 40 forty, ne_eqb (j + 3) 1 one, ne_eqb ((j + 3) % 2) 0 odd) (ap c back))
    (λ odd.
    let forty : j - 1 ≡ 40 → ⊥ = λ e. omega arith in
    let one : j - 1 ≡ 1 → ⊥ = λ e. omega arith in
    let even : (j - 1) % 2 ≡ 0 = omega arith in
    let back : j - 1 + 1 ≡ j = omega arith in
    simp (ne_eqb (j % 2) 0 odd, ne_eqb (j - 1) 40 forty, ne_eqb (j - 1) 1 one, eq-eqb ((j - 1) % 2) 0 even) (ap c back))
laid_again false carry c j h = by_equal j 40 (λ e. simp (eq-eqb j 40 e) (ap c (sym e))) (λ forty. simp (ne_eqb j 40 forty))

-- a packet one place on, taken 4 on at even places and as it stands at odd ones, is its swapped read
pub blend_reads : (x : ℕ → ℕ) (v r : List ℕ) → OneOn x v → Blends v r → SwappedRead x r
blend_reads x v r one_on blends = record { long = blends.long; read = read }
  where
    read : (j : ℕ) → j < 40 → get_or r j 0 ≡ swapped_read x j
    read j h =
        blends.at j (omega arith)
        ∙ by_equal (j % 2) 0
        (λ even.
        let there : j + 4 ≡ 1 + (j + 3) = omega arith in
        simp (eq-eqb (j % 2) 0 even) (ap (λ (i : ℕ). get_or v i 0) there ∙ one_on.at (j + 3) (omega arith)))
        (λ odd.
        let there : j ≡ 1 + (j - 1) = omega arith in
        simp (ne_eqb (j % 2) 0 odd) (ap (λ (i : ℕ). get_or v i 0) there ∙ one_on.at (j - 1) (omega arith)))

-- the two reads as they are gathered, from the front of an array
pub plain_gathered : (x : ℕ → ℕ) (r : List ℕ) → r ≡ table 42 (packet_byte false 0 x) → (i : ℕ) → i < 42 → get_or r (0 + i) 0 ≡ read_byte false 0 x i
unfolding packet_byte read_byte
plain_gathered x r is i h =
    let front : 0 + i ≡ i = omega arith in
    ap (λ (j : ℕ). get_or r j 0) front ∙ ap (λ (l : List ℕ). get_or l i 0) is ∙ table_at 42 (packet_byte false 0 x) i h

pub swapped_gathered : (x : ℕ → ℕ) (r : List ℕ) → SwappedRead x r → (i : ℕ) → i < 40 → get_or r (0 + i) 0 ≡ read_byte true 0 x i
unfolding read_byte
swapped_gathered x r gathered i h =
    let front : 0 + i ≡ i = omega arith in
    ap (λ (j : ℕ). get_or r j 0) front ∙ gathered.read i h
