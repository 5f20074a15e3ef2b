-- DSS blocks that leave with a piece, looked over before anything is written: those that waited, and those that come.
-- Assumes nothing.
use Prim.Native.Nat.{ℕ, ◌+◌, ◌*◌, ◌/◌, ◌≤◌, ◌<◌}
use mathlib.Core.Path.{◌≡◌, sym, ap, ◌∙◌}
use mathlib.Core.List.{List}
use mathlib.Core.Bool.{true, false}
use native.Mathlib.Omega.{arith}
use borrow.Author.Tests.{leb-true, le-leb, lt-leb}
use lib.ListN.{length}
use Rattle.tables.proofs.Cases.{by_equal}
use Rattle.tables.proofs.Leading.{leads_only}
use Rattle.blocks.specs.Places.{whole_blocks, block_at}
use Rattle.blocks.specs.Headers.{announced_in}
use Rattle.blocks.proofs.Headers.{announced_more}
use Rattle.sp.specs.declared.Run.{Run}
use Rattle.sp.specs.ReadLists.{dss_run}
use Rattle.hold.specs.declared.Standing.{Standing}
use Rattle.hold.specs.Ready.{ends_at, read_in, front, ready}
use Rattle.hold.specs.Held.{headers_from, waiting_at}
use Rattle.hold.proofs.Ready.{front_leads, front_within, dss_ready}
use Rattle.hold.proofs.Front.{few_wait}
use Rattle.blocks.proofs.Headers.{announced_most}
use Rattle.hold.proofs.Numbers.{front_is, out_before}
use Rattle.pieces.specs.Inner.{Joins, Known}
use Rattle.pieces.proofs.Sources.{numbers_of}

-- what is known of the bytes joined where the blocks that wait begin, with block j; the packets before it are ready
pub record Queue (f partial waiting piece : List ℕ) (taken a end j ready : ℕ) : Type 0 where
  pub joins : Joins f partial piece taken (block_at a (whole_blocks taken a))
  pub end_is : end ≡ whole_blocks (length f) a
  pub front_is : j ≡ front f a (whole_blocks taken a)
  pub ready_is : ready ≡ announced_in f a j
  pub waiting_is : waiting ≡ headers_from f a (whole_blocks taken a) j

-- the blocks before b leave, and have so many packets
pub record Leaving (f : List ℕ) (a n b ready : ℕ) : Type 0 where
  pub ready_is : ready ≡ announced_in f a b
  pub all : (i : ℕ) → i < b → read_in f a n i ≡ true

module _ {f partial waiting piece : List ℕ} {taken a end j ready₀ : ℕ} (queue : Queue f partial waiting piece taken a end j ready₀) where
  pub leaving_begins : Leaving f a end j ready₀
  leaving_begins =
      let had : ℕ = whole_blocks taken a in
      record {
        ready_is = queue.ready_is;
        all = λ i h.
            let then = leb-true (ends_at (dss_run f a i)) (506 * had) ((front_leads f a had).before i (omega (arith, queue.front_is))) in
            le-leb (ends_at (dss_run f a i)) (506 * end) (omega (arith, then, queue.end_is, queue.joins.long));
      }

  module _ {b packets : ℕ} (leaving : Leaving f a end b packets) where
    -- no more leave than these
    stops_at : b ≤ end → (b < end → read_in f a end b ≡ false) → packets ≡ ready true f a (whole_blocks (length f) a)
    stops_at within stops =
        let last : b ≡ front f a end = leads_only (record { within = within; before = leaving.all; stops = stops }) (front_leads f a end) in
        rw (← queue.end_is) (leaving.ready_is ∙ ap (announced_in f a) last ∙ sym (dss_ready f a end))

    pub leaving_ends : b ≤ end → end ≤ b → packets ≡ ready true f a (whole_blocks (length f) a)
    leaving_ends within ended = stops_at within (λ h. absurd (omega arith))

    -- a block more
    module _ (inside : b < end) {run : Run} {ends : ℕ}
        (run_is : (g : List ℕ) → Joins g partial piece taken (block_at a (whole_blocks taken a)) → waiting ≡ headers_from g a (whole_blocks taken a) j
        → run ≡ dss_run g a b)
        (ends_is : ends ≡ ends_at run) where
      here : run ≡ dss_run f a b
      here = run_is f queue.joins queue.waiting_is

      pub leaving_stops : 506 * end < ends → packets ≡ ready true f a (whole_blocks (length f) a)
      leaving_stops past =
          stops_at (omega arith) (λ h. lt-leb (ends_at (dss_run f a b)) (506 * end) (omega (arith, ends_is, ap ends_at here)))

      pub leaving_on : ends ≤ 506 * end → Leaving f a end (b + 1) (packets + run.count)
      leaving_on within =
          record {
            ready_is = omega (arith, leaving.ready_is, announced_more f a b, ap (λ (r : Run). r.count) here);
            all = λ i h.
                by_equal i b
                (λ e. rw e (le-leb (ends_at (dss_run f a b)) (506 * end) (omega (arith, ends_is, ap ends_at here))))
                (λ other. leaving.all i (omega arith));
          }

module _ {f partial waiting piece : List ℕ} {a taken : ℕ} {was : Standing} (known : Known true f a taken was partial waiting piece) where
  ready_was : was.ready ≡ announced_in f a (was.base.0 / 506)
  ready_was = (numbers_of known).ready_is ∙ sym (out_before (numbers_of known))

  -- few blocks wait, and those before them have few packets
  pub few_queue : (was.base.0 / 506 ≤ whole_blocks taken a) × (whole_blocks taken a ≤ was.base.0 / 506 + 21)
      × (was.ready ≤ 255 * (was.base.0 / 506))
  few_queue =
      let had : ℕ = whole_blocks taken a in (
        omega (arith, front_is (numbers_of known), front_within f a had),
        omega (arith, front_is (numbers_of known), few_wait f a had known.bytes),
        omega (arith, ready_was, announced_most f a (was.base.0 / 506) known.bytes),
      )

  pub queued : (end : ℕ) → end ≡ whole_blocks (taken + length piece) a
      → Queue f partial waiting piece taken a end (was.base.0 / 506) was.ready
  unfolding waiting_at
  queued end end_is =
      record {
        joins = known.joins;
        end_is = rw known.joins.long end_is;
        front_is = front_is (numbers_of known);
        ready_is = ready_was;
        waiting_is = rw (front_is (numbers_of known)) known.waiting_is;
      }
