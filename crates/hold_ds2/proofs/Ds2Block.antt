-- A DS2 block more: what its header says with what was known, the walk that goes on, and what follows it.
-- Assumes nothing.
use Prim.Native.Nat.{ℕ, ◌+◌, ◌*◌, ◌-◌, ◌≤◌, ◌<◌, min}
use mathlib.Core.Path.{◌≡◌, sym, ap, ◌∙◌}
use mathlib.Core.List.{List}
use mathlib.Core.Bool.{Bool, false, cond}
use native.Mathlib.Omega.{arith}
use lib.ListN.{get_or}
use lib.Dec.{eqb}
use Rattle.blocks.specs.Places.{stream_at}
use Rattle.blocks.specs.Headers.{flag_of, swap_of}
use Rattle.packets.specs.Walk.{reach}
use Rattle.hold.specs.declared.Standing.{Standing}
use Rattle.hold.specs.Ready.{reading_in, ready}
use Rattle.hold.specs.Held.{base_at, waiting_at}
use Rattle.hold.specs.Inner.{Holds, Dropped, PartWritten, brought, Next, Added, Walking}
use Rattle.hold.proofs.Headers.{none_wait}
use Rattle.hold.proofs.Ready.{ds2_ready_is, ds2_base, base_within}
use Rattle.hold.proofs.Longer.{base_grows_in}
use Rattle.hold.proofs.Adding.{numbers, begun, here, first_now, announced_now, brings, due_now, held_dropped, added}

-- no DS2 block waits
ds2_none_wait : (f : List ℕ) (a b : ℕ) → waiting_at false f a b ≡ waiting_at false f a (b + 1)
unfolding waiting_at
ds2_none_wait f a b = none_wait f a b (b + 1)

-- what is counted when the block is there
pub record Counted (b : ℕ) (was : Standing) (source : List ℕ) (at first announced : ℕ) (swap : Bool) (r now : ℕ) : Type 0 where
  pub first_is : first ≡ cond (eqb b 0) (get_or source at 0) was.first
  pub swap_is : swap ≡ flag_of first
  pub reads : (reach swap r ≤ 506 * (b + 1)) × (506 * (b + 1) < reach swap (r + 1)) × (r ≤ 506 * (b + 1))
  pub announced_is : announced ≡ was.announced + get_or source (at + 2) 0
  pub now_is : now ≡ min announced r

module _ {b number : ℕ} {hold waiting : List ℕ} {was : Standing} {source : List ℕ} {at o c : ℕ}
    (g : Next false b number hold waiting was source at o c) {first announced r now : ℕ} {swap : Bool}
    (v : Counted b was source at first announced swap r now) where
  swap_now : swap ≡ swap_of g.f g.a 0
  swap_now = v.swap_is ∙ ap flag_of (first_now g first v.first_is)

  ready_now : now ≡ ready false g.f g.a (b + 1)
  ready_now =
      v.now_is
      ∙ ap (λ (sum : ℕ). min sum r) (v.announced_is ∙ announced_now g)
      ∙ sym (ds2_ready_is g.f g.a (b + 1) r (rw (← swap_now) v.reads.0) (rw (← swap_now) v.reads.1))

  base_now : (next : ℕ) → next ≡ reach swap now → next ≡ base_at false g.f g.a (b + 1)
  base_now next is = is ∙ cc (swap_now, ready_now, ds2_base g.f g.a (b + 1))

  -- the walk has not gone back, and has not passed the end
  pub not_back : (next : ℕ) → next ≡ reach swap now → (was.base.0 ≤ next) × (next ≤ 506 * (b + 1)) × (was.ready ≤ now)
  not_back next is =
      let grows = base_grows_in false g.f g.a b (b + 1) (here g) (omega arith) in (
        omega (arith, grows, (numbers g).base_is, base_now next is),
        omega (arith, base_within false g.f g.a (b + 1), base_now next is),
        omega (arith, (numbers g).ready_is, ready_now, brings g),
      )

  brought_now : now - was.ready ≡ brought false g.f g.a b
  brought_now = omega (arith, ready_now, (numbers g).ready_is)

  pub walking : (hold' : List ℕ) → Holds (stream_at g.f g.a (b + 1)) (506 * (b + 1)) was.base.0 hold'
      → Walking (b + 1) was.ready (now - was.ready) number hold' was.base.0 first was.carry o c
  walking hold' holds =
      record {
        f = g.f;
        a = g.a;
        few = omega (arith, g.few, g.there);
        bytes = g.bytes;
        holds = holds;
        first_is = λ some. first_now g first v.first_is;
        begun = omega (arith, (numbers g).base_is, ds2_base g.f g.a b, ap (reach (swap_of g.f g.a 0)) (numbers g).ready_is);
        due = rw (brought_now, (numbers g).ready_is) (due_now g);
      }

  -- the packets that it brings are out, and the hold begins at the next read
  pub walked : (next carry : ℕ) (hold' hold'' out out' counts counts' : List ℕ) → next ≡ reach swap now
      → Holds (stream_at g.f g.a (b + 1)) (506 * (b + 1)) was.base.0 hold'
      → Dropped hold' (next - was.base.0) (506 * b - was.base.0 + 506) hold''
      → ((u : Walking (b + 1) was.ready (now - was.ready) number hold' was.base.0 first was.carry o c)
      → PartWritten (reading_in false u.f u.a (b + 1)) was.ready (now - was.ready) number out out' counts counts' carry)
      → Added false g.f g.a g.n b number hold'' waiting
      (record { announced = announced; ready = now; base = record { 0 = next }; first = first; carry = carry }) out out' counts counts'
  unfolding walking
  walked next carry hold' hold'' out out' counts counts' is holds dropped written =
      let base = base_now next is in
      added g announced now next first carry hold'' waiting out out' counts counts'
      (held_dropped _ _ (base_at false g.f g.a (b + 1)) hold'' holds (omega (arith, begun g)) (omega (arith, not_back next is, base)) dropped)
      (g.stands.waiting_is ∙ ds2_none_wait g.f g.a b) (v.announced_is ∙ announced_now g) ready_now base (first_now g first v.first_is)
      (rw (← brought_now, ← (numbers g).ready_is) (written (walking hold' holds)))
