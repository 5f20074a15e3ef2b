-- What a longer file keeps. Its first n blocks are the same: so are all numbers of them and what is held. And of more blocks the packets
-- that were ready are the same, under the same numbers. Assumes nothing.
use Prim.Native.Nat.{ℕ, zero, suc, ◌+◌, ◌*◌, ◌/◌, ◌%◌, ◌≤◌, ◌<◌}
use mathlib.Core.Path.{◌≡◌, refl, sym, ap, ap₂, ◌∙◌, subst, subst₂, fun_ext}
use mathlib.Core.List.{List, [], ◌++◌, append-nil}
use mathlib.Core.Bool.{Bool, true, false, cond}
use native.Mathlib.Numerals.{add-one}
use native.Mathlib.Omega.{arith}
use borrow.Author.Tests.{le-leb, leb-true, lt-ltb, le-ltb, eq-eqb, ne_eqb}
use lib.ListN.{get_or}
use lib.Dec.{leb, eqb}
use Rattle.tables.proofs.Cases.{by_order, by_equal}
use Rattle.tables.proofs.Table.{table_at, same_table}
use Rattle.tables.proofs.Lent.{leaves_as}
use Rattle.tables.proofs.Leading.{leads_further, leads_same, leading_same}
use Rattle.blocks.specs.Places.{Whole, stream_at}
use Rattle.blocks.specs.Headers.{flag_of, swap_of, announced_in}
use Rattle.blocks.proofs.Headers.{header_kept, announced_kept, announced_upto}
use Rattle.blocks.proofs.Places.{stream_past}
use Rattle.blocks.proofs.Stream.{longer_agrees}
use Rattle.packets.specs.Packet.{read_size}
use Rattle.packets.specs.Walk.{Walk, reach, step}
use Rattle.packets.proofs.Longer.{same_carry, same_read}
use Rattle.sp.specs.ReadLists.{dss_run}
use Rattle.sp.specs.Readings.{Reading, total, walk_at, CompleteAt, joined_byte_at, carry_at}
use Rattle.sp.specs.Longer.{SameAt}
use Rattle.sp.proofs.Runs.{reads_fixed, carry_at_first}
use Rattle.sp.proofs.Longer.{Extends, stands_alike, same_upto, dss_extends, ds2_extends}
use Rattle.hold.specs.Ready.{reading_in, ends_at, front, ready}
use Rattle.hold.specs.Held.{base_at, fitting, fits, headers_from, waiting_at, first_byte, hold_at}
use Rattle.hold.specs.Inner.{PartWritten}
use Rattle.hold.proofs.Ready.{total_is, front_leads, front_within, dss_ready, ds2_leads, ready_complete, ready_within, ready_none, reach_upto, dss_base, ds2_base}
use Rattle.hold.proofs.Carries.{carry_goes_past}

-- one reading extends another: a packet is read at the same place and by the same parity in both
reads_kept : (one other : Reading) → Extends one other → (k : ℕ) → k < total one
    → ((walk_at one k).place ≡ (walk_at other k).place) × ((walk_at one k).swap ≡ (walk_at other k).swap)
reads_kept one other x k h =
    let fixed = reads_fixed one.stream other.stream one.carry one.carry one.runs k in
    let alike = x.runs_alike other.stream k h in
    (fixed.0 ∙ ap (λ (w : Walk). w.place) alike, fixed.1 ∙ ap (λ (w : Walk). w.swap) alike)

-- and what is carried up to the first read that is not complete is the same in both
carries_kept : (one other : Reading) → Extends one other → (k : ℕ) → k ≤ total one → ((j : ℕ) → j < k → CompleteAt one j)
    → carry_at one k ≡ carry_at other k
carries_kept one other x zero h all =
    carry_at_first one.stream one.carry one.runs ∙ x.carried ∙ sym (carry_at_first other.stream other.carry other.runs)
carries_kept one other x (suc k) h all =
    let s = one.stream in
    let t = other.stream in
    let complete = all k (omega arith) in
    let stands : walk_at one k ≡ walk_at other k =
    stands_alike s t one.long x.agree one.carry one.runs k (omega arith) (λ j l. all j (omega arith)) ∙ x.runs_alike t k (omega arith) in
    let w = walk_at one k in
    rw (← add-one k)
    (carry_goes_past s one.carry one.runs k (omega arith)
    ∙ same_carry w.swap w.carry _ _ (same_read s t one.long w.swap w.place x.agree complete)
    ∙ ap (λ (v : Walk). (step t v).carry) stands
    ∙ sym (carry_goes_past t other.carry other.runs k (omega (arith, x.more))))

-- more blocks, of a longer file
module _ (dss : Bool) (f p : List ℕ) (a n m : ℕ) (whole : Whole f a n) (more : n ≤ m) where
  extends : Extends (reading_in dss f a n) (reading_in dss (f ++ p) a m)
  extends = by dss
    where
      by : (dss : Bool) → Extends (reading_in dss f a n) (reading_in dss (f ++ p) a m)
      by true = dss_extends f p a n m whole more
      by false = ds2_extends f p a n m whole more

  ready_there : (k : ℕ) → k ≤ ready dss f a n → k ≤ total (reading_in dss f a n)
  ready_there k h = omega (arith, ready_within dss f a n, total_is dss f a n)

  pub ready_same : (k : ℕ) → k < ready dss f a n → SameAt (reading_in dss f a n) (reading_in dss (f ++ p) a m) k
  ready_same k h =
      same_upto _ _ extends k (omega (arith, ready_there (k + 1) (omega arith))) (λ j l. ready_complete f a n dss j (omega arith))

  pub carry_same : (k : ℕ) → k ≤ ready dss f a n → carry_at (reading_in dss f a n) k ≡ carry_at (reading_in dss (f ++ p) a m) k
  carry_same k h = carries_kept _ _ extends k (ready_there k h) (λ j l. ready_complete f a n dss j (omega arith))

-- a block's reads end where they end in the longer file
ends_kept : (f p : List ℕ) (a b : ℕ) → Whole f a (b + 1) → ends_at (dss_run f a b) ≡ ends_at (dss_run (f ++ p) a b)
ends_kept f p a b whole =
    cc
    (header_kept f p a b 0 whole (omega arith), header_kept f p a b 1 whole (omega arith), header_kept f p a b 2 whole (omega arith))

-- more blocks have no fewer packets ready
module _ (f p : List ℕ) (a n m : ℕ) (whole : Whole f a n) (more : n ≤ m) where
  pub front_grows : front f a n ≤ front (f ++ p) a m
  front_grows =
      leads_further more
      (λ i h e.
      le-leb (ends_at (dss_run (f ++ p) a i)) (506 * m)
      (omega (arith, leb-true (ends_at (dss_run f a i)) (506 * n) e, ends_kept f p a i (omega arith))))
      (front_leads f a n) (front_leads (f ++ p) a m)

  announced_grows : (j k : ℕ) → j ≤ k → j ≤ n → announced_in f a j ≤ announced_in (f ++ p) a k
  announced_grows j k h inside = omega (arith, announced_kept f p a j (omega arith), announced_upto (f ++ p) a j k h)

  pub ready_grows : (dss : Bool) → ready dss f a n ≤ ready dss (f ++ p) a m
  ready_grows true =
      omega
      (arith, dss_ready f a n, dss_ready (f ++ p) a m, announced_grows (front f a n) (front (f ++ p) a m) front_grows (front_within f a n))
  ready_grows false =
      leads_further (announced_grows n m more (omega arith))
      (λ i h e.
      let kept = reads_kept _ _ (extends false f p a n m whole more) i (omega (arith, total_is false f a n)) in
      let complete = leb-true _ (506 * n) e in
      le-leb _ (506 * m)
      (subst₂ (λ (q : ℕ) (swap : Bool). q + read_size swap ≤ 506 * m) kept.0 kept.1 (omega (arith, complete))))
      (ds2_leads f a n) (ds2_leads (f ++ p) a m)

-- the same blocks
module _ (f p : List ℕ) (a n : ℕ) (whole : Whole f a n) where
  pub front_kept : front f a n ≡ front (f ++ p) a n
  front_kept =
      leads_same (λ i h. ap (λ (end : ℕ). leb end (506 * n)) (ends_kept f p a i (omega arith))) (front_leads f a n) (front_leads (f ++ p) a n)

  pub ready_kept : (dss : Bool) → ready dss f a n ≡ ready dss (f ++ p) a n
  ready_kept true =
      dss_ready f a n
      ∙ announced_kept f p a (front f a n) (omega (arith, front_within f a n))
      ∙ ap (announced_in (f ++ p) a) front_kept
      ∙ sym (dss_ready (f ++ p) a n)
  ready_kept false =
      leads_same
      (λ i h.
      let kept = reads_kept _ _ (extends false f p a n n whole (omega arith)) i (omega (arith, total_is false f a n)) in
      ap₂ (λ (q : ℕ) (swap : Bool). leb (q + read_size swap) (506 * n)) kept.0 kept.1)
      (ds2_leads f a n) (rw (announced_kept f p a n whole) (ds2_leads (f ++ p) a n))

  pub base_kept : (dss : Bool) → base_at dss f a n ≡ base_at dss (f ++ p) a n
  unfolding base_at
  base_kept true = ap (λ (j : ℕ). 506 * j) front_kept
  base_kept false =
      by_order 0 n
      (λ some.
      ap (reach (swap_of f a 0)) (ready_kept false)
      ∙ ap (λ (byte : ℕ). reach (flag_of byte) (ready false (f ++ p) a n)) (header_kept f p a 0 0 (omega arith) (omega arith)))
      (λ none.
      let empty : n ≡ 0 = omega arith in
      rw (empty, ready_none false f a, ready_none false (f ++ p) a) (at_first (swap_of f a 0) ∙ sym (at_first (swap_of (f ++ p) a 0))))
    where
      at_first : (swap : Bool) → reach swap 0 ≡ 0
      at_first true = refl
      at_first false = refl

  stream_kept : stream_at f a n ≡ stream_at (f ++ p) a n
  stream_kept =
      fun_ext
      (λ q.
      by_order q (506 * n) (λ h. longer_agrees f p a n n q whole (omega arith) h)
      (λ h. stream_past f a n q h ∙ sym (stream_past (f ++ p) a n q h)))

  pub hold_kept : (dss : Bool) → hold_at dss f a n ≡ hold_at dss (f ++ p) a n
  hold_kept dss = cc (stream_kept, base_kept dss)

  headers_kept : (j : ℕ) → headers_from f a n j ≡ headers_from (f ++ p) a n j
  unfolding headers_from
  headers_kept j =
      same_table 66 _ _
      (λ i h.
      by_order (j + i / 3) n
      (λ l. simp (lt-ltb (j + i / 3) n l) (header_kept f p a (j + i / 3) (i % 3) (omega arith) (omega arith)))
      (λ l. simp (le-ltb (j + i / 3) n l)))

  pub waiting_kept : (dss : Bool) → waiting_at dss f a n ≡ waiting_at dss (f ++ p) a n
  unfolding waiting_at
  waiting_kept dss = headers_kept _ ∙ ap (λ (j : ℕ). headers_from (f ++ p) a n (cond dss j n)) front_kept

  pub first_kept : first_byte f a n ≡ first_byte (f ++ p) a n
  first_kept =
      by_equal n 0 (λ e. simp (eq-eqb n 0 e)) (λ e. simp (ne_eqb n 0 e) (header_kept f p a 0 0 (omega arith) (omega arith)))

-- so as many of them can be added
module _ (dss : Bool) (f p : List ℕ) (a n : ℕ) (whole : Whole f a n) where
  pub fitting_kept : fitting dss f a n ≡ fitting dss (f ++ p) a n
  unfolding fitting
  fitting_kept =
      leading_same _ _ n (λ b h. ap (λ (base : ℕ). leb (506 * (b + 1)) (base + 12288)) (base_kept f p a b (omega arith) dss))

  pub fits_kept : fits dss f a n ≡ fits dss (f ++ p) a n
  fits_kept = ap (λ (k : ℕ). eqb k n) fitting_kept

-- more blocks of the same file
module _ (dss : Bool) (f : List ℕ) (a b n : ℕ) (whole : Whole f a b) (more : b ≤ n) where
  pub ready_grows_in : ready dss f a b ≤ ready dss f a n
  ready_grows_in = subst (λ (g : List ℕ). ready dss f a b ≤ ready dss g a n) (append-nil f) (ready_grows f [] a b n whole more dss)

  pub base_grows_in : base_at dss f a b ≤ base_at dss f a n
  base_grows_in = by dss ready_grows_in
    where
      by : (dss : Bool) → ready dss f a b ≤ ready dss f a n → base_at dss f a b ≤ base_at dss f a n
      by true grows =
          let on = subst (λ (g : List ℕ). front f a b ≤ front g a n) (append-nil f) (front_grows f [] a b n whole more) in
          omega (arith, dss_base f a b, dss_base f a n, on)
      by false grows = omega (arith, ds2_base f a b, ds2_base f a n, reach_upto (swap_of f a 0) (ready false f a b) (ready false f a n) grows)

  pub ready_same_in : (k : ℕ) → k < ready dss f a b → SameAt (reading_in dss f a b) (reading_in dss f a n) k
  ready_same_in k h =
      subst (λ (g : List ℕ). SameAt (reading_in dss f a b) (reading_in dss g a n) k) (append-nil f) (ready_same dss f [] a b n whole more k h)

  pub carry_same_in : (k : ℕ) → k ≤ ready dss f a b → carry_at (reading_in dss f a b) k ≡ carry_at (reading_in dss f a n) k
  carry_same_in k h =
      subst (λ (g : List ℕ). carry_at (reading_in dss f a b) k ≡ carry_at (reading_in dss g a n) k) (append-nil f)
      (carry_same dss f [] a b n whole more k h)

  -- packets that are ready and have been handed out of fewer blocks are those of more
  pub part_longer : (k m base : ℕ) (out out' counts counts' : List ℕ) (carry : ℕ) → k + m ≤ ready dss f a b
      → PartWritten (reading_in dss f a b) k m base out out' counts counts' carry
      → PartWritten (reading_in dss f a n) k m base out out' counts counts' carry
  part_longer k m base out out' counts counts' carry h w =
      record {
        packets_are = leaves_as _ bytes w.packets_are;
        counts_are = leaves_as _ (λ i l. (ready_same_in (k + i) (omega arith)).count) w.counts_are;
        carry_is = w.carry_is ∙ carry_same_in (k + m) h;
      }
    where
      bytes : (i : ℕ) → i < 42 * m → joined_byte_at (reading_in dss f a b) (42 * k + i) ≡ joined_byte_at (reading_in dss f a n) (42 * k + i)
      bytes i l =
          let j = 42 * k + i in
          let inside : j % 42 < 42 = omega arith in
          sym (table_at 42 _ (j % 42) inside)
          ∙ ap (λ (packet : List ℕ). get_or packet (j % 42) 0) (ready_same_in (j / 42) (omega arith)).bytes
          ∙ table_at 42 _ (j % 42) inside
