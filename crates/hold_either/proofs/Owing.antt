-- When all blocks are there: what is owed of a DSS recording is in the queue, and of a DS2 recording ahead of the walk.
-- Assumes nothing.
use Prim.Native.Nat.{ℕ, ◌+◌, ◌*◌, ◌/◌, ◌≤◌}
use mathlib.Core.Path.{◌≡◌, sym, ap, ◌∙◌, subst}
use mathlib.Core.List.{List}
use mathlib.Core.Bool.{Bool, true, false}
use native.Mathlib.Omega.{arith}
use Rattle.blocks.specs.Places.{stream_at}
use Rattle.blocks.specs.Headers.{swap_of, announced_in}
use Rattle.blocks.proofs.Places.{stream_past}
use Rattle.packets.specs.Walk.{reach}
use Rattle.hold.specs.declared.Standing.{Standing}
use Rattle.hold.specs.Ready.{reading_in, front, ready}
use Rattle.hold.specs.Held.{base_at, headers_from}
use Rattle.hold.specs.Inner.{Holds, PartWritten, Due, Walking, Queued, Owing}
use Rattle.hold.proofs.Headers.{dss_waits}
use Rattle.hold.proofs.Ready.{total_is, front_within, reach_upto, ds2_base}
use Rattle.hold.proofs.Front.{few_wait}
use Rattle.hold.proofs.Numbers.{Numbered, numbered, front_is, base_aligned, out_before}
use Rattle.blocks.proofs.Headers.{announced_most}

module _ {dss : Bool} {n d m : ℕ} {hold waiting : List ℕ} {was : Standing} {o c : ℕ} (g : Owing dss n d m hold waiting was o c) where
  numbers : Numbered dss g.f g.a n n (ready dss g.f g.a n + d) was
  numbers = numbered _ _ _ _ _ _ _ g.numbers_are

  pub few_owed : was.ready + d ≤ 255 * n
  few_owed = omega (arith, numbers.ready_is, g.owed, announced_most g.f g.a n g.bytes)

  holds : (base : ℕ) → base_at dss g.f g.a n ≡ base → Holds (stream_at g.f g.a n) (506 * n) base hold
  holds base is =
      subst (λ (q : ℕ). Holds (stream_at g.f g.a n) (506 * n) q hold) is
      (record { hold_is = g.hold_is; past = stream_past g.f g.a n; within = g.within })

  due : (k : ℕ) → k ≡ ready dss g.f g.a n + d → Due (reading_in dss g.f g.a n) k m was.carry 0 o c
  due k is =
      rw is
      (record {
        owed = omega (arith, g.owed, total_is dss g.f g.a n);
        carry_is = numbers.carry_is;
        out_room = omega (arith, g.out_room);
        counts_room = omega (arith, g.counts_room);
      })

-- DSS
module _ {n d m : ℕ} {hold waiting : List ℕ} {was : Standing} {o c : ℕ} (g : Owing true n d m hold waiting was o c) where
  front_here : was.base.0 / 506 ≡ front g.f g.a n
  front_here = front_is (numbers g)

  out_here : announced_in g.f g.a (was.base.0 / 506) + d ≡ ready true g.f g.a n + d
  out_here = omega (arith, out_before (numbers g))

  pub queue_owed : Queued n (was.base.0 / 506) d m 0 hold waiting was.carry o c
  queue_owed =
      record {
        f = g.f;
        a = g.a;
        few = g.few;
        bytes = g.bytes;
        holds = holds g (506 * (was.base.0 / 506)) (omega (arith, (numbers g).base_is, base_aligned (numbers g)));
        waiting_is = g.waiting_is ∙ dss_waits g.f g.a n ∙ ap (headers_from g.f g.a n) (sym front_here);
        begun = omega (arith, front_here, front_within g.f g.a n);
        near = omega (arith, front_here, few_wait g.f g.a n g.bytes);
        due = due g _ out_here;
      }

  pub queue_handed : (out out' counts counts' : List ℕ) (carry : ℕ)
      → ((u : Queued n (was.base.0 / 506) d m 0 hold waiting was.carry o c)
      → PartWritten (reading_in true u.f u.a n) (announced_in u.f u.a (was.base.0 / 506) + d) m 0 out out' counts counts' carry)
      → PartWritten (reading_in true g.f g.a n) (ready true g.f g.a n + d) m 0 out out' counts counts' carry
  unfolding queue_owed
  queue_handed out out' counts counts' carry written = rw (← out_here) (written queue_owed)

-- DS2
module _ {n d m : ℕ} {hold waiting : List ℕ} {was : Standing} {o c : ℕ} (g : Owing false n d m hold waiting was o c) where
  number_is : was.ready + d ≡ ready false g.f g.a n + d
  number_is = omega (arith, (numbers g).ready_is)

  pub walk_owed : Walking n (was.ready + d) m 0 hold was.base.0 was.first was.carry o c
  walk_owed =
      let swap = swap_of g.f g.a 0 in
      record {
        f = g.f;
        a = g.a;
        few = g.few;
        bytes = g.bytes;
        holds = holds g was.base.0 (sym (numbers g).base_is);
        first_is = λ some. (numbers g).first_is (λ none. omega arith);
        begun =
            let on = reach_upto swap was.ready (was.ready + d) (omega arith) in
            omega (arith, (numbers g).base_is, ds2_base g.f g.a n, ap (reach swap) (numbers g).ready_is, on);
        due = due g _ number_is;
      }

  pub walk_handed : (out out' counts counts' : List ℕ) (carry : ℕ)
      → ((u : Walking n (was.ready + d) m 0 hold was.base.0 was.first was.carry o c)
      → PartWritten (reading_in false u.f u.a n) (was.ready + d) m 0 out out' counts counts' carry)
      → PartWritten (reading_in false g.f g.a n) (ready false g.f g.a n + d) m 0 out out' counts counts' carry
  unfolding walk_owed
  walk_handed out out' counts counts' carry written = rw (← number_is) (written walk_owed)

-- what is known of a kind is known of the kind that it is
module _ {dss kind : Bool} (same : dss ≡ kind) (n d m : ℕ) (hold waiting : List ℕ) (was : Standing) (o c : ℕ) where
  pub owing_as : Owing dss n d m hold waiting was o c → Owing kind n d m hold waiting was o c
  owing_as g = subst (λ (k : Bool). Owing k n d m hold waiting was o c) same g

  pub written_as : (out out' counts counts' : List ℕ) (carry : ℕ)
      → ((g : Owing kind n d m hold waiting was o c)
      → PartWritten (reading_in kind g.f g.a n) (ready kind g.f g.a n + d) m 0 out out' counts counts' carry)
      → (g : Owing dss n d m hold waiting was o c)
      → PartWritten (reading_in dss g.f g.a n) (ready dss g.f g.a n + d) m 0 out out' counts counts' carry
  written_as out out' counts counts' carry law =
      subst
      (λ (k : Bool).
      (g : Owing k n d m hold waiting was o c)
      → PartWritten (reading_in k g.f g.a n) (ready k g.f g.a n + d) m 0 out out' counts counts' carry) (sym same) law
