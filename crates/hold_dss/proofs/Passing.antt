-- A DSS block that passes: no block waits before it and its reads end inside it, so its packets come straight from a source.
-- Assumes nothing.
use Prim.Native.Nat.{ℕ, ◌+◌, ◌*◌, ◌^◌, ◌≤◌, ◌<◌}
use mathlib.Core.Path.{◌≡◌, sym, ap, ◌∙◌, subst}
use mathlib.Core.List.{List}
use mathlib.Core.Bool.{Bool, true, false, cond}
use native.Mathlib.Omega.{arith}
use borrow.Author.Tests.{le-leb, leb-true, eq-eqb, ne_eqb}
use lib.ListN.{get_or}
use lib.Dec.{eqb, leb}
use Rattle.tables.proofs.Cases.{by_order, by_equal, never}
use Rattle.tables.proofs.Table.{same_table}
use Rattle.blocks.specs.Places.{stream_at, block_at}
use Rattle.blocks.specs.Headers.{header_byte, swap_of, first_of, count_of, announced_in}
use Rattle.blocks.proofs.Places.{stream_past}
use Rattle.blocks.proofs.Headers.{announced_more, announced_most}
use Rattle.packets.specs.Walk.{Walk, steps}
use Rattle.packets.proofs.Start.{start_most}
use Rattle.packets.proofs.Walk.{steps_none}
use Rattle.sp.specs.declared.Run.{Run}
use Rattle.sp.specs.Runs.{run_begin, carry_past}
use Rattle.sp.specs.ReadLists.{dss_run, dss_runs}
use Rattle.sp.specs.Readings.{walk_at}
use Rattle.sp.specs.Inner.{RunWritten}
use Rattle.sp.proofs.ReadLists.{dss_stands}
use Rattle.hold.specs.declared.Standing.{Standing}
use Rattle.hold.specs.Ready.{reading_in, ends_at, read_in, front, ready}
use Rattle.hold.specs.Held.{held_from, base_at, headers_from, waiting_at, hold_at}
use Rattle.hold.specs.Inner.{Bears, PartWritten, brought, Next, Added}
use Rattle.hold.proofs.Ready.{front_within, dss_exactly, dss_ready, dss_base}
use Rattle.hold.proofs.Headers.{dss_waits, none_wait, start_least}
use Rattle.hold.proofs.Partwise.{onward, onward_is, part_of_walk}
use Rattle.hold.proofs.Adding.{payload_is, numbers, byte_0, first_now, due_now, added}
use Rattle.hold_dss.proofs.DssBlock.{still_read}

-- past the end of a stream nothing is held, however many blocks it has
none_held : (f : List ℕ) (a b n : ℕ) → held_from (stream_at f a b) (506 * b) ≡ held_from (stream_at f a n) (506 * n)
unfolding held_from
none_held f a b n =
    same_table 12288 _ _
    (λ i h. stream_past f a b (506 * b + i) (omega arith) ∙ sym (stream_past f a n (506 * n + i) (omega arith)))

-- a block that none waits before, and whose reads end inside it, leaves as it comes
front_goes_on : (f : List ℕ) (a b : ℕ) → front f a b ≡ b → ends_at (dss_run f a b) ≤ 506 * (b + 1) → front f a (b + 1) ≡ b + 1
front_goes_on f a b all ends =
    omega (arith, front_within f a (b + 1), (dss_exactly f a (b + 1) b (omega arith)).1 read)
  where
    read : (i : ℕ) → i ≤ b → read_in f a (b + 1) i ≡ true
    read i h =
        by_order i b (λ l. still_read f a b i (omega arith))
        (λ l. let last : i ≡ b = omega arith in ap (read_in f a (b + 1)) last ∙ le-leb (ends_at (dss_run f a b)) (506 * (b + 1)) ends)

-- where `passes` holds
pub passes_says : (test : Bool) (base start ends end : ℕ) → test ≡ cond (eqb base start) (leb ends end) false → test ≡ true
    → (base ≡ start) × (ends ≤ end)
passes_says test base start ends end says held =
    by_equal base start (λ e. (e, leb-true ends end (sym (simp (eq-eqb base start e) at says) ∙ held)))
    (λ e. absurd (never held (simp (ne_eqb base start e) at says)))

-- the run of block b is the one made of its header's bytes
pub block_is_run : {b number : ℕ} {hold waiting : List ℕ} {was : Standing} {source : List ℕ} {at o c : ℕ} (run : Run)
    → ((f : List ℕ) (a : ℕ) → get_or source at 0 ≡ header_byte f a b 0 → get_or source (at + 1) 0 ≡ header_byte f a b 1
    → get_or source (at + 2) 0 ≡ header_byte f a b 2 → run ≡ dss_run f a b)
    → (g : Next true b number hold waiting was source at o c) → run ≡ dss_run g.f g.a b
block_is_run run is g = is g.f g.a (byte_0 g) (g.block_is 1 (omega arith)) (g.block_is 2 (omega arith))

module _ {b number : ℕ} {hold waiting : List ℕ} {was : Standing} {source : List ℕ} {at o c : ℕ}
    (g : Next true b number hold waiting was source at o c) (run : Run) (none_before : was.base.0 ≡ 506 * b)
    (ends : ends_at run ≤ 506 * (b + 1)) (is : run ≡ dss_run g.f g.a b) where
  -- the run has as many packets as the block announces
  count_is : run.count ≡ count_of g.f g.a b
  count_is = ap (λ (u : Run). u.count) is

  -- no block waits, before and after
  front_before : front g.f g.a b ≡ b
  front_before = omega (arith, (numbers g).base_is, dss_base g.f g.a b)

  front_after : front g.f g.a (b + 1) ≡ b + 1
  front_after = front_goes_on g.f g.a b front_before (omega (arith, ap ends_at is))

  -- so all that is announced is ready
  ready_before : ready true g.f g.a b ≡ announced_in g.f g.a b
  ready_before = dss_ready g.f g.a b ∙ ap (announced_in g.f g.a) front_before

  ready_after : ready true g.f g.a (b + 1) ≡ announced_in g.f g.a (b + 1)
  ready_after = dss_ready g.f g.a (b + 1) ∙ ap (announced_in g.f g.a) front_after

  -- what the numbers beside are with it, and how many packets it brings
  announced_sum : was.announced + run.count ≡ announced_in g.f g.a (b + 1)
  announced_sum = omega (arith, (numbers g).announced_is, announced_more g.f g.a b, count_is)

  ready_sum : was.ready + run.count ≡ ready true g.f g.a (b + 1)
  ready_sum = omega (arith, (numbers g).ready_is, ready_before, ready_after, announced_more g.f g.a b, count_is)

  brought_is : run.count ≡ brought true g.f g.a b
  brought_is = omega (arith, (numbers g).ready_is, ready_sum)

  -- what is asked before the block is handed out: it begins in its payload, it is near, and there is room
  pub pass_asked : (was.base.0 ≤ run.start.0)
      × (run.start.0 ≤ 2 ^ 48)
      × (run.count ≤ 2 ^ 48)
      × (42 * (number + run.count) ≤ o)
      × (number + run.count ≤ c)
  pass_asked =
      let start = ap (λ (u : Run). u.start.0) is in (
        omega (arith, start, start_least b (first_of g.f g.a b) (swap_of g.f g.a b)),
        omega (arith, start, start_most b (first_of g.f g.a b) (swap_of g.f g.a b), g.few, g.there),
        omega (arith, count_is, g.bytes (block_at g.a b + 2)),
        omega (arith, brought_is, g.out_room),
        omega (arith, brought_is, g.counts_room),
      )

  -- the sums stay small
  pub pass_sums : (was.announced + run.count ≤ 2 ^ 48) × (was.ready + run.count ≤ 2 ^ 48)
  pass_sums =
      let most = announced_most g.f g.a (b + 1) g.bytes in
      (omega (arith, announced_sum, most, g.few, g.there), omega (arith, ready_sum, ready_after, most, g.few, g.there))

  module _ (carry : ℕ) (out out' counts counts' : List ℕ)
      (through : (s : ℕ → ℕ) → Bears source (at + 6) was.base.0 s
      → RunWritten s (was.base.0 + 506) (run_begin was.carry run) number run.count out out' counts counts' carry) where
    -- the recording's stream has the block's payload
    bears : Bears source (at + 6) was.base.0 (stream_at g.f g.a (b + 1))
    unfolding Bears
    bears i h =
        let place : was.base.0 + i ≡ 506 * b + i = omega arith in
        ap (stream_at g.f g.a (b + 1)) place ∙ sym (payload_is g.f g.a b source at g.block_is i h)

    -- what is written of the run is the part of the reading that the block brings
    written : PartWritten (reading_in true g.f g.a (b + 1)) (ready true g.f g.a b) (brought true g.f g.a b) number out out'
        counts counts' carry
    written =
        let s = stream_at g.f g.a (b + 1) in
        part_of_walk (reading_in true g.f g.a (b + 1)) (run_begin (carry_past s 0 (dss_runs g.f g.a b)) run) 0 (ready true g.f g.a b)
        (brought true g.f g.a b) number was.carry carry out out' counts counts' (due_now g).owed (due_now g).carry_is stands
        (subst (λ (w : Walk). RunWritten s (506 * (b + 1)) w number (brought true g.f g.a b) out out' counts counts' carry) begins
        (subst (λ (m : ℕ). RunWritten s (506 * (b + 1)) (run_begin was.carry run) number m out out' counts counts' carry) brought_is
        (subst (λ (long : ℕ). RunWritten s long (run_begin was.carry run) number run.count out out' counts counts' carry) long_is
        (through s bears))))
      where
        long_is : was.base.0 + 506 ≡ 506 * (b + 1)
        long_is = omega arith

        begins : run_begin was.carry run ≡ onward (run_begin was.carry run) 0 was.carry
        begins =
            let s = stream_at g.f g.a (b + 1) in
            let none = steps_none s (run_begin was.carry run) in
            sym (onward_is s (run_begin was.carry run) 0 was.carry (ap (λ (w : Walk). w.carry) (sym none)) ∙ none)

        stands : (t : ℕ) → t < brought true g.f g.a b
            → walk_at (reading_in true g.f g.a (b + 1)) (ready true g.f g.a b + t)
            ≡ steps (stream_at g.f g.a (b + 1)) (run_begin (carry_past (stream_at g.f g.a (b + 1)) 0 (dss_runs g.f g.a b)) run) (0 + t)
        stands t h =
            let s = stream_at g.f g.a (b + 1) in
            let before = carry_past s 0 (dss_runs g.f g.a b) in
            let place : ready true g.f g.a b + t ≡ announced_in g.f g.a b + (0 + t) = omega (arith, ready_before) in
            ap (walk_at (reading_in true g.f g.a (b + 1))) place
            ∙ dss_stands s g.f g.a (b + 1) b (0 + t) (omega arith) (omega (arith, count_is, brought_is))
            ∙ ap (λ (u : Run). steps s (run_begin before u) (0 + t)) (sym is)

    -- the block is added: what is held and what waits stay as they are
    pub passed : (first : ℕ) → first ≡ cond (eqb b 0) (get_or source at 0) was.first
        → Added true g.f g.a g.n b number hold waiting
        (record {
          announced = was.announced + run.count;
          ready = was.ready + run.count;
          base = record { 0 = was.base.0 + 506 };
          first = first;
          carry = carry;
        })
        out out' counts counts'
    passed first first_is =
        added g (was.announced + run.count) (was.ready + run.count) (was.base.0 + 506) first carry hold waiting out out' counts counts' hold_is
        waiting_is announced_sum ready_sum (omega (arith, base_after)) (first_now g first first_is) written
      where
        base_before : base_at true g.f g.a b ≡ 506 * b
        base_before = omega (arith, dss_base g.f g.a b, front_before)

        base_after : base_at true g.f g.a (b + 1) ≡ 506 * (b + 1)
        base_after = omega (arith, dss_base g.f g.a (b + 1), front_after)

        hold_is : hold ≡ hold_at true g.f g.a (b + 1)
        hold_is =
            g.stands.hold_is
            ∙ ap (held_from (stream_at g.f g.a b)) base_before
            ∙ none_held g.f g.a b (b + 1)
            ∙ ap (held_from (stream_at g.f g.a (b + 1))) (sym base_after)

        waiting_is : waiting ≡ waiting_at true g.f g.a (b + 1)
        waiting_is =
            g.stands.waiting_is
            ∙ dss_waits g.f g.a b
            ∙ ap (headers_from g.f g.a b) front_before
            ∙ none_wait g.f g.a b (b + 1)
            ∙ ap (headers_from g.f g.a (b + 1)) (sym front_after)
            ∙ sym (dss_waits g.f g.a (b + 1))
