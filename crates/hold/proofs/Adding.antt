-- A block more, DSS or DS2: what is held with it and after its front is dropped, and the numbers beside.
-- Assumes nothing.
use Prim.Native.Nat.{ℕ, ◌+◌, ◌*◌, ◌-◌, ◌≤◌, ◌<◌}
use mathlib.Core.Path.{◌≡◌, sym, ap, ◌∙◌, subst}
use mathlib.Core.List.{List}
use mathlib.Core.Bool.{Bool, cond}
use native.Mathlib.Omega.{arith}
use borrow.Author.Tests.{leb-true, eq-eqb, ne_eqb}
use lib.ListN.{length, get_or}
use lib.Dec.{eqb}
use Rattle.tables.specs.Lent.{Leaves}
use Rattle.tables.proofs.Cases.{by_order, by_equal}
use Rattle.tables.proofs.Table.{table_at, is_table}
use Rattle.blocks.specs.Places.{Whole, file_of, block_at, stream_at}
use Rattle.blocks.specs.Headers.{header_byte, announced_in}
use Rattle.blocks.proofs.Headers.{announced_more}
use Rattle.blocks.proofs.Places.{stream_in, stream_past}
use Rattle.hold.specs.declared.Standing.{Standing}
use Rattle.hold.specs.Ready.{reading_in, ready}
use Rattle.hold.specs.Held.{held_from, base_at, waiting_at, first_byte, hold_at}
use Rattle.hold.specs.Inner.{Holds, Dropped, PartWritten, brought, Next, Added, Due}
use Rattle.hold.proofs.Ready.{total_is, ready_within, base_within}
use Rattle.hold.proofs.Windows.{held_long, held_at}
use Rattle.hold.proofs.Numbers.{Numbered, numbered}
use Rattle.hold.proofs.Longer.{ready_grows_in, carry_same_in, part_longer}

is_held : (s : ℕ → ℕ) (base : ℕ) (hold : List ℕ) → length hold ≡ 12288
    → ((i : ℕ) → i < 12288 → get_or hold i 0 ≡ s (base + i)) → hold ≡ held_from s base
unfolding held_from
is_held s base hold long all = is_table 12288 _ hold long all

hold_long : {s : ℕ → ℕ} {long base : ℕ} {hold : List ℕ} → Holds s long base hold → length hold ≡ 12288
hold_long {s} {long} {base} {hold} holds = ap length holds.hold_is ∙ held_long s base

-- what is left when the front is dropped
pub held_dropped : {s : ℕ → ℕ} {long base : ℕ} {hold : List ℕ} (by held next : ℕ) (hold' : List ℕ) → Holds s long base hold
    → long ≤ base + held → base + by ≡ next → Dropped hold by held hold' → hold' ≡ held_from s next
held_dropped {s} {long} {base} {hold} by held next hold' holds all there dropped =
    is_held s next hold' (dropped.long ∙ hold_long holds)
    (λ i h.
    let place : base + (by + i) ≡ next + i = omega arith in
    ap (λ (list : List ℕ). get_or list i 0) (dropped.is (λ j past. held_at holds j ∙ holds.past (base + j) (omega arith)))
    ∙ table_at (length hold) _ i (omega (arith, hold_long holds))
    ∙ held_at holds (by + i)
    ∙ ap s place)

-- the block's payload is the stream's
pub payload_is : (f : List ℕ) (a b : ℕ) (source : List ℕ) (at : ℕ) → ((i : ℕ) → i < 512 → get_or source (at + i) 0 ≡ get_or f (block_at a b + i) 0)
    → (k : ℕ) → k < 506 → get_or source (at + 6 + k) 0 ≡ stream_at f a (b + 1) (506 * b + k)
payload_is f a b source at block k h =
    let byte : at + 6 + k ≡ at + (6 + k) = omega arith in
    let there : block_at a b + (6 + k) ≡ file_of a (506 * b + k) = omega arith in
    ap (λ (j : ℕ). get_or source j 0) byte
    ∙ block (6 + k) (omega arith)
    ∙ ap (λ (j : ℕ). get_or f j 0) there
    ∙ sym (stream_in f a (b + 1) (506 * b + k) (omega arith))

-- the block's payload stands behind what was held
held_more : (f : List ℕ) (a b base : ℕ) (hold source : List ℕ) (at : ℕ) (hold' : List ℕ)
    → Holds (stream_at f a b) (506 * b) base hold → base ≤ 506 * b → 506 * (b + 1) ≤ base + 12288
    → ((i : ℕ) → i < 512 → get_or source (at + i) 0 ≡ get_or f (block_at a b + i) 0)
    → Leaves hold (506 * b - base) 506 (λ i. get_or source (at + 6 + i) 0) hold'
    → Holds (stream_at f a (b + 1)) (506 * (b + 1)) base hold'
held_more f a b base hold source at hold' holds begun fits block put =
    record {
      hold_is = is_held (stream_at f a (b + 1)) base hold' (put.long ∙ hold_long holds) value;
      past = stream_past f a (b + 1);
      within = fits;
    }
  where
    value : (i : ℕ) → i < 12288 → get_or hold' i 0 ≡ stream_at f a (b + 1) (base + i)
    value i h =
        by_order (base + i) (506 * b)
        (λ old.
        put.low i (omega arith) ∙ held_at holds i ∙ stream_in f a b (base + i) old ∙ sym (stream_in f a (b + 1) (base + i) (omega arith)))
        (λ new.
        by_order (base + i) (506 * (b + 1))
        (λ in_block.
        let k : ℕ = base + i - 506 * b in
        let place : i ≡ 506 * b - base + k = omega arith in
        let there : 506 * b + k ≡ base + i = omega arith in
        ap (λ (j : ℕ). get_or hold' j 0) place
        ∙ put.new k (omega arith)
        ∙ payload_is f a b source at block k (omega arith)
        ∙ ap (stream_at f a (b + 1)) there)
        (λ past. put.high i (omega arith) ∙ held_at holds i ∙ holds.past (base + i) new ∙ sym (stream_past f a (b + 1) (base + i) past)))

module _ {dss : Bool} {b number : ℕ} {hold waiting : List ℕ} {was : Standing} {source : List ℕ} {at o c : ℕ}
    (g : Next dss b number hold waiting was source at o c) where
  pub numbers : Numbered dss g.f g.a g.n b (ready dss g.f g.a b) was
  numbers = numbered _ _ _ _ _ _ _ g.stands.numbers_are

  -- there is room for the block behind what is held
  pub begun : was.base.0 ≤ 506 * b
  begun = omega (arith, numbers.base_is, base_within dss g.f g.a b)

  pub block_fits_lem : 506 * (b + 1) ≤ was.base.0 + 12288
  block_fits_lem = omega (arith, numbers.base_is, leb-true (506 * (b + 1)) (base_at dss g.f g.a b + 12288) g.fits)

  pub here : Whole g.f g.a b
  here = omega (arith, g.whole, g.there)

  next : Whole g.f g.a (b + 1)
  next = omega (arith, g.whole, g.there)

  -- the block begins with its header's byte 0
  pub byte_0 : get_or source at 0 ≡ header_byte g.f g.a b 0
  byte_0 = let front : at ≡ at + 0 = omega arith in ap (λ (i : ℕ). get_or source i 0) front ∙ g.block_is 0 (omega arith)

  -- byte 0 of the first block is known, or is this block's
  pub first_now : (first : ℕ) → first ≡ cond (eqb b 0) (get_or source at 0) was.first → first ≡ header_byte g.f g.a 0 0
  first_now first is =
      by_equal b 0 (λ e. simp (eq-eqb b 0 e) at is ∙ byte_0 ∙ ap (λ (k : ℕ). header_byte g.f g.a k 0) e)
      (λ e. simp (ne_eqb b 0 e) at is ∙ numbers.first_is e)

  pub announced_now : was.announced + get_or source (at + 2) 0 ≡ announced_in g.f g.a (b + 1)
  announced_now = omega (arith, numbers.announced_is, announced_more g.f g.a b, g.block_is 2 (omega arith))

  pub holds_now : (hold' : List ℕ) → Leaves hold (506 * b - was.base.0) 506 (λ i. get_or source (at + 6 + i) 0) hold'
      → Holds (stream_at g.f g.a (b + 1)) (506 * (b + 1)) was.base.0 hold'
  holds_now hold' put =
      held_more g.f g.a b was.base.0 hold source at hold'
      (record {
        hold_is = rw numbers.base_is g.stands.hold_is;
        past = stream_past g.f g.a b;
        within = omega (arith, block_fits_lem);
      })
      begun block_fits_lem g.block_is put

  -- what it brings is there to be handed out
  pub brings : ready dss g.f g.a b + brought dss g.f g.a b ≡ ready dss g.f g.a (b + 1)
  brings = omega (arith, ready_grows_in dss g.f g.a b (b + 1) here (omega arith))

  pub due_now : Due (reading_in dss g.f g.a (b + 1)) (ready dss g.f g.a b) (brought dss g.f g.a b) was.carry number o c
  due_now =
      let all : ready dss g.f g.a b ≤ ready dss g.f g.a b = omega arith in
      record {
        owed = omega (arith, brings, ready_within dss g.f g.a (b + 1), total_is dss g.f g.a (b + 1));
        carry_is =
            numbers.carry_is
            ∙ sym (carry_same_in dss g.f g.a b g.n here (omega (arith, g.there)) _ all)
            ∙ carry_same_in dss g.f g.a b (b + 1) here (omega arith) _ all;
        out_room = g.out_room;
        counts_room = g.counts_room;
      }

  -- and when it has been handed out the block is added
  pub added : (announced now base first carry : ℕ) (hold' waiting' out out' counts counts' : List ℕ) → hold' ≡ hold_at dss g.f g.a (b + 1)
      → waiting' ≡ waiting_at dss g.f g.a (b + 1) → announced ≡ announced_in g.f g.a (b + 1)
      → now ≡ ready dss g.f g.a (b + 1) → base ≡ base_at dss g.f g.a (b + 1) → first ≡ header_byte g.f g.a 0 0
      → PartWritten (reading_in dss g.f g.a (b + 1)) (ready dss g.f g.a b) (brought dss g.f g.a b) number out out' counts counts'
      carry
      → Added dss g.f g.a g.n b number hold' waiting'
      (record { announced = announced; ready = now; base = record { 0 = base }; first = first; carry = carry }) out out' counts counts'
  added announced now base first carry hold' waiting' out out' counts counts' hold_is waiting_is sum ready_is base_is first_is written =
      let some : b + 1 ≡ 0 → ⊥ = λ e. omega arith in
      let kept : first_byte g.f g.a (b + 1) ≡ header_byte g.f g.a 0 0 = simp (ne_eqb (b + 1) 0 some) in
      let all = part_longer dss g.f g.a (b + 1) g.n next (omega (arith, g.there)) _ _ _ _ _ _ _ _ (omega (arith, brings)) written in
      record {
        stands =
            record {
              hold_is = hold_is;
              waiting_is = waiting_is;
              numbers_are = cc (sum, ready_is, base_is, first_is, kept, all.carry_is, brings);
            };
        written = all;
      }

-- what is known of a kind is known of the kind that it is
module _ {dss kind : Bool} (same : dss ≡ kind) (b number : ℕ) (hold waiting : List ℕ) (was : Standing) (source : List ℕ) (at o c : ℕ) where
  pub next_as : Next dss b number hold waiting was source at o c → Next kind b number hold waiting was source at o c
  next_as g = subst (λ (k : Bool). Next k b number hold waiting was source at o c) same g

  pub added_as : (hold' waiting' : List ℕ) (now : Standing) (out out' counts counts' : List ℕ)
      → ((g : Next kind b number hold waiting was source at o c)
      → Added kind g.f g.a g.n b number hold' waiting' now out out' counts counts')
      → (g : Next dss b number hold waiting was source at o c) → Added dss g.f g.a g.n b number hold' waiting' now out out' counts counts'
  added_as hold' waiting' now out out' counts counts' law =
      subst
      (λ (k : Bool).
      (g : Next k b number hold waiting was source at o c)
      → Added k g.f g.a g.n b number hold' waiting' now out out' counts counts')
      (sym same) law
