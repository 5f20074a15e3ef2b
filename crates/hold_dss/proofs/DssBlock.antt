-- A DSS block more: it waits behind those that wait, all that can leave do, and what is held begins with the first that waits.
-- Assumes nothing.
use Prim.Native.Nat.{ℕ, ◌+◌, ◌*◌, ◌-◌, ◌/◌, ◌%◌, ◌≤◌, ◌<◌}
use mathlib.Core.Path.{◌≡◌, sym, ap, ◌∙◌, subst}
use mathlib.Core.List.{List}
use mathlib.Core.Bool.{true, cond}
use native.Mathlib.Omega.{arith}
use borrow.Author.Tests.{lt-ltb, le-ltb, le-leb, leb-true}
use lib.ListN.{length, get_or, get_or-eq_default}
use lib.Dec.{eqb}
use Rattle.tables.specs.Lent.{Leaves}
use Rattle.tables.proofs.Cases.{by_order}
use Rattle.tables.proofs.Table.{length_table, table_at, is_table}
use Rattle.blocks.specs.Places.{stream_at, block_at}
use Rattle.blocks.specs.Headers.{header_byte, announced_in}
use Rattle.sp.specs.ReadLists.{dss_run}
use Rattle.hold.specs.declared.Standing.{Standing}
use Rattle.hold.specs.Ready.{reading_in, ends_at, read_in, front, ready}
use Rattle.hold.specs.Held.{base_at, headers_from}
use Rattle.hold.specs.Inner.{Holds, Dropped, PartWritten, brought, Next, Added, Queued}
use Rattle.hold.proofs.Headers.{header_waits, dss_waits}
use Rattle.hold.proofs.Ready.{front_leads, front_within, dss_ready, dss_base}
use Rattle.hold.proofs.Front.{few_wait}
use Rattle.hold.proofs.Numbers.{front_is, base_aligned, out_before}
use Rattle.hold.proofs.Adding.{numbers, first_now, announced_now, holds_now, brings, due_now, held_dropped, added}

-- a list that has the headers of the blocks that wait, and zeros past them, is theirs
waits_long : (f : List ℕ) (a n j : ℕ) → length (headers_from f a n j) ≡ 66
unfolding headers_from
waits_long f a n j = length_table 66 _

none_waits : (f : List ℕ) (a n j i : ℕ) → n ≤ j + i / 3 → get_or (headers_from f a n j) i 0 ≡ 0
unfolding headers_from
none_waits f a n j i past =
    by_order i 66 (λ h. table_at 66 _ i h ∙ simp (le-ltb (j + i / 3) n past))
    (λ h. get_or-eq_default (headers_from f a n j) 0 (omega (arith, waits_long f a n j)))

is_waiting : (f : List ℕ) (a n j : ℕ) (waiting : List ℕ) → length waiting ≡ 66
    → ((i : ℕ) → i < 66 → j + i / 3 < n → get_or waiting i 0 ≡ header_byte f a (j + i / 3) (i % 3))
    → ((i : ℕ) → i < 66 → n ≤ j + i / 3 → get_or waiting i 0 ≡ 0) → waiting ≡ headers_from f a n j
unfolding headers_from
is_waiting f a n j waiting long waits none =
    is_table 66 _ waiting long
    (λ i h.
    by_order (j + i / 3) n (λ l. waits i h l ∙ simp (lt-ltb (j + i / 3) n l)) (λ l. none i h l ∙ simp (le-ltb (j + i / 3) n l)))

-- block b has entered behind those from block j on
entered : (f : List ℕ) (a b j : ℕ) (source : List ℕ) (at : ℕ) (waiting waiting' : List ℕ) → waiting ≡ headers_from f a b j → j ≤ b
    → ((i : ℕ) → i < 512 → get_or source (at + i) 0 ≡ get_or f (block_at a b + i) 0)
    → Leaves waiting (3 * (b - j)) 3 (λ k. get_or source (at + k) 0) waiting'
    → waiting' ≡ headers_from f a (b + 1) j
entered f a b j source at waiting waiting' is begun block put =
    is_waiting f a (b + 1) j waiting' (put.long ∙ ap length is ∙ waits_long f a b j) waits
    (λ i h past. put.high i (omega arith) ∙ ap (λ (list : List ℕ). get_or list i 0) is ∙ none_waits f a b j i (omega arith))
  where
    waits : (i : ℕ) → i < 66 → j + i / 3 < b + 1 → get_or waiting' i 0 ≡ header_byte f a (j + i / 3) (i % 3)
    waits i h there =
        by_order (j + i / 3) b
        (λ earlier. put.low i (omega arith) ∙ ap (λ (list : List ℕ). get_or list i 0) is ∙ header_waits f a b j i h earlier)
        (λ this.
        let number : b ≡ j + i / 3 = omega arith in
        let place : i ≡ 3 * (b - j) + i % 3 = omega arith in
        ap (λ (k : ℕ). get_or waiting' k 0) place
        ∙ put.new (i % 3) (omega arith)
        ∙ block (i % 3) (omega arith)
        ∙ ap (λ (k : ℕ). header_byte f a k (i % 3)) number)

-- the first `blocks` of those that wait have left
waits_dropped : (f : List ℕ) (a n j blocks k held : ℕ) (waiting waiting' : List ℕ) → waiting ≡ headers_from f a n j → n ≤ j + 22
    → 3 * n ≤ 3 * j + held → j + blocks ≡ k → Dropped waiting (3 * blocks) held waiting' → waiting' ≡ headers_from f a n k
waits_dropped f a n j blocks k held waiting waiting' is few all there dropped =
    is_waiting f a n k waiting' (dropped.long ∙ long)
    (λ i h waits.
    let block : j + (3 * blocks + i) / 3 ≡ k + i / 3 = omega arith in
    let byte : (3 * blocks + i) % 3 ≡ i % 3 = omega arith in
    moved i h
    ∙ header_waits f a n j (3 * blocks + i) (omega arith) (omega arith)
    ∙ ap (λ (b : ℕ). header_byte f a b ((3 * blocks + i) % 3)) block
    ∙ ap (header_byte f a (k + i / 3)) byte)
    (λ i h past. moved i h ∙ none_waits f a n j (3 * blocks + i) (omega arith))
  where
    long : length waiting ≡ 66
    long = ap length is ∙ waits_long f a n j

    moved : (i : ℕ) → i < 66 → get_or waiting' i 0 ≡ get_or (headers_from f a n j) (3 * blocks + i) 0
    moved i h =
        ap (λ (list : List ℕ). get_or list i 0)
        (dropped.is (λ q past. ap (λ (list : List ℕ). get_or list q 0) is ∙ none_waits f a n j q (omega arith)))
        ∙ table_at (length waiting) _ i (omega (arith, long))
        ∙ ap (λ (list : List ℕ). get_or list (3 * blocks + i) 0) is

-- what has left stays read
pub still_read : (f : List ℕ) (a b i : ℕ) → i < front f a b → read_in f a (b + 1) i ≡ true
still_read f a b i h =
    le-leb (ends_at (dss_run f a i)) (506 * (b + 1))
    (omega (arith, leb-true (ends_at (dss_run f a i)) (506 * b) ((front_leads f a b).before i h)))

-- what `released` ensures
abbrev Releases : List ℕ → ℕ → ℕ → ℕ → ℕ → Type 0
Releases waiting j n blocks packets =
    (f : List ℕ) (a : ℕ) → waiting ≡ headers_from f a n j → ((b : ℕ) → b < j → read_in f a n b ≡ true)
    → (j + blocks ≡ front f a n) × (announced_in f a j + packets ≡ announced_in f a (front f a n))

module _ {b number : ℕ} {hold waiting : List ℕ} {was : Standing} {source : List ℕ} {at o c : ℕ}
    (g : Next true b number hold waiting was source at o c) where
  front_here : was.base.0 / 506 ≡ front g.f g.a b
  front_here = front_is (numbers g)

  out_here : announced_in g.f g.a (was.base.0 / 506) + 0 ≡ ready true g.f g.a b
  out_here = omega (arith, out_before (numbers g))

  -- no more than 21 blocks wait for this one
  pub few : (was.base.0 ≡ 506 * (was.base.0 / 506)) × (was.base.0 / 506 ≤ b) × (b ≤ was.base.0 / 506 + 21)
  few = (
    base_aligned (numbers g),
    omega (arith, front_here, front_within g.f g.a b),
    omega (arith, front_here, few_wait g.f g.a b g.bytes),
  )

  pub dss_holds : (hold' : List ℕ) → Leaves hold (506 * (b - was.base.0 / 506)) 506 (λ i. get_or source (at + 6 + i) 0) hold'
      → Holds (stream_at g.f g.a (b + 1)) (506 * (b + 1)) was.base.0 hold'
  dss_holds hold' put =
      let place : 506 * (b - was.base.0 / 506) ≡ 506 * b - was.base.0 = omega (arith, few) in
      holds_now g hold' (rw place at put)

  module _ (waiting' : List ℕ) (put : Leaves waiting (3 * (b - was.base.0 / 506)) 3 (λ k. get_or source (at + k) 0) waiting') where
    queue_now : waiting' ≡ headers_from g.f g.a (b + 1) (was.base.0 / 506)
    queue_now =
        entered g.f g.a b (was.base.0 / 506) source at waiting waiting'
        (g.stands.waiting_is ∙ dss_waits g.f g.a b ∙ ap (headers_from g.f g.a b) (sym front_here)) few.1 g.block_is put

    module _ (blocks packets : ℕ) (gone : Releases waiting' (was.base.0 / 506) (b + 1) blocks packets) where
      gone_now : (was.base.0 / 506 + blocks ≡ front g.f g.a (b + 1)) × (packets ≡ brought true g.f g.a b)
      gone_now =
          let v = gone g.f g.a queue_now (λ i h. still_read g.f g.a b i (omega (arith, front_here))) in (
            v.0,
            omega (arith, v.1, out_here, dss_ready g.f g.a (b + 1)),
          )

      pub ready_then : was.ready + packets ≡ ready true g.f g.a (b + 1)
      ready_then = omega (arith, (numbers g).ready_is, gone_now.1, brings g)

      -- those that leave are handed out
      pub queued : (hold' : List ℕ) → Holds (stream_at g.f g.a (b + 1)) (506 * (b + 1)) was.base.0 hold'
          → Queued (b + 1) (was.base.0 / 506) 0 packets number hold' waiting' was.carry o c
      queued hold' holds =
          record {
            f = g.f;
            a = g.a;
            few = omega (arith, g.few, g.there);
            bytes = g.bytes;
            holds = subst (λ (base : ℕ). Holds (stream_at g.f g.a (b + 1)) (506 * (b + 1)) base hold') few.0 holds;
            waiting_is = queue_now;
            begun = omega (arith, few);
            near = omega (arith, few);
            due = rw (out_here, gone_now.1) (due_now g);
          }

      -- and dropped
      pub left : (first announced carry : ℕ) (hold' hold'' waiting'' out out' counts counts' : List ℕ)
          → first ≡ cond (eqb b 0) (get_or source at 0) was.first → announced ≡ was.announced + get_or source (at + 2) 0
          → Holds (stream_at g.f g.a (b + 1)) (506 * (b + 1)) was.base.0 hold'
          → Dropped hold' (506 * blocks) (506 * (b - was.base.0 / 506) + 506) hold''
          → Dropped waiting' (3 * blocks) (3 * (b - was.base.0 / 506) + 3) waiting''
          → ((u : Queued (b + 1) (was.base.0 / 506) 0 packets number hold' waiting' was.carry o c)
          → PartWritten (reading_in true u.f u.a (b + 1)) (announced_in u.f u.a (was.base.0 / 506) + 0) packets number out out' counts
          counts' carry)
          → Added true g.f g.a g.n b number hold'' waiting''
          (record {
            announced = announced;
            ready = was.ready + packets;
            base = record { 0 = was.base.0 + 506 * blocks };
            first = first;
            carry = carry;
          })
          out out' counts counts'
      unfolding queued
      left first announced carry hold' hold'' waiting'' out out' counts counts' first_is sum holds dropped gone-waiting written =
          let base : was.base.0 + 506 * blocks ≡ base_at true g.f g.a (b + 1) =
          omega (arith, few, gone_now.0, dss_base g.f g.a (b + 1)) in
          added g announced (was.ready + packets) (was.base.0 + 506 * blocks) first carry hold'' waiting'' out out' counts counts'
          (held_dropped _ _ (base_at true g.f g.a (b + 1)) hold'' holds (omega (arith, few)) base dropped)
          (waits_dropped g.f g.a (b + 1) (was.base.0 / 506) blocks (front g.f g.a (b + 1)) _ waiting' waiting'' queue_now
          (omega (arith, few)) (omega (arith, few)) gone_now.0 gone-waiting
          ∙ sym (dss_waits g.f g.a (b + 1)))
          (sum ∙ announced_now g) ready_then base (first_now g first first_is)
          (rw (← gone_now.1, ← out_here) (written (queued hold' holds)))
