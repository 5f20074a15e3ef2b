-- Lists of runs: whose packet a number is when two lists are joined, what is carried from one to the next, and where a run ends.
-- Assumes nothing.
use Prim.Native.Nat.{ℕ, ◌+◌, ◌-◌, ◌≤◌, ◌<◌}
use mathlib.Core.Path.{◌≡◌, refl, sym, ap, ◌∙◌}
use mathlib.Core.List.{List, [], ◌∷◌, ◌++◌}
use native.Mathlib.Nat.{not-suc-le-zero}
use native.Mathlib.Omega.{arith}
use borrow.Author.Tests.{lt-ltb, le-ltb}
use Rattle.tables.proofs.Cases.{by_order}
use Rattle.packets.specs.Walk.{Walk, step, steps}
use Rattle.packets.proofs.Walk.{steps_none, steps_more, steps_place, steps_swap}
use Rattle.sp.specs.declared.Run.{Run}
use Rattle.sp.specs.Runs.{run_begin, run_end, packets_in, stands_at, carry_past}

pub packets_none : packets_in [] ≡ 0
unfolding packets_in
packets_none = refl

pub packets_of : (run : Run) (rest : List Run) → packets_in (run ∷ rest) ≡ run.count + packets_in rest
unfolding packets_in
packets_of run rest = refl

pub packets_joined : (xs ys : List Run) → packets_in (xs ++ ys) ≡ packets_in xs + packets_in ys
unfolding packets_in
packets_joined [] ys = omega arith
packets_joined (run ∷ rest) ys = omega (arith, packets_joined rest ys)

pub carry_none : (s : ℕ → ℕ) (carry : ℕ) → carry_past s carry [] ≡ carry
unfolding carry_past
carry_none s carry = refl

pub carry_joined : (s : ℕ → ℕ) (carry : ℕ) (xs ys : List Run) → carry_past s carry (xs ++ ys) ≡ carry_past s (carry_past s carry xs) ys
unfolding carry_past
carry_joined s carry [] ys = refl
carry_joined s carry (run ∷ rest) ys = carry_joined s (run_end s carry run).carry rest ys

pub carry_one : (s : ℕ → ℕ) (carry : ℕ) (run : Run) → carry_past s carry (run ∷ []) ≡ (run_end s carry run).carry
unfolding carry_past
carry_one s carry run = refl

module _ (s : ℕ → ℕ) where
  -- a packet of the first run, and one of a later run
  pub stands_first : (carry : ℕ) (run : Run) (rest : List Run) (k : ℕ) → k < run.count
      → stands_at s carry (run ∷ rest) k ≡ steps s (run_begin carry run) k
  unfolding stands_at
  stands_first carry run rest k h = simp (lt-ltb k run.count h)

  pub stands_later : (carry : ℕ) (run : Run) (rest : List Run) (k : ℕ) → run.count ≤ k
      → stands_at s carry (run ∷ rest) k ≡ stands_at s (run_end s carry run).carry rest (k - run.count)
  unfolding stands_at
  stands_later carry run rest k h = simp (le-ltb k run.count h)

  -- a packet of the first list, and one of the second
  pub stands_before : (carry : ℕ) (xs ys : List Run) (k : ℕ) → k < packets_in xs → stands_at s carry (xs ++ ys) k ≡ stands_at s carry xs k
  unfolding packets_in
  stands_before carry [] ys k h = absurd (not-suc-le-zero h)
  stands_before carry (run ∷ rest) ys k h =
      by_order k run.count (λ l. stands_first carry run (rest ++ ys) k l ∙ sym (stands_first carry run rest k l))
      (λ l.
      stands_later carry run (rest ++ ys) k l
      ∙ stands_before (run_end s carry run).carry rest ys (k - run.count) (omega arith)
      ∙ sym (stands_later carry run rest k l))

  pub stands_after : (carry : ℕ) (xs ys : List Run) (k : ℕ)
      → stands_at s carry (xs ++ ys) (packets_in xs + k) ≡ stands_at s (carry_past s carry xs) ys k
  unfolding packets_in carry_past
  stands_after carry [] ys k = let front : 0 + k ≡ k = omega arith in ap (stands_at s carry ys) front
  stands_after carry (run ∷ rest) ys k =
      let left : run.count + packets_in rest + k - run.count ≡ packets_in rest + k = omega arith in
      stands_later carry run (rest ++ ys) (run.count + packets_in rest + k) (omega arith)
      ∙ ap (stands_at s (run_end s carry run).carry (rest ++ ys)) left
      ∙ stands_after (run_end s carry run).carry rest ys k

-- neither stream nor carry matters for where a packet is read
pub reads_fixed : (s t : ℕ → ℕ) (carry other : ℕ) (runs : List Run) (k : ℕ)
    → ((stands_at s carry runs k).place ≡ (stands_at t other runs k).place) × ((stands_at s carry runs k).swap ≡ (stands_at t other runs k).swap)
unfolding stands_at
reads_fixed s t carry other [] k = (refl, refl)
reads_fixed s t carry other (run ∷ rest) k =
    by_order k run.count
    (λ h.
    let w = run_begin carry run in
    let v = run_begin other run in
    simp (lt-ltb k run.count h)
    ((steps_place s w k ∙ sym (steps_place t v k), steps_swap s w k ∙ sym (steps_swap t v k))))
    (λ h. simp (le-ltb k run.count h) (reads_fixed s t (run_end s carry run).carry (run_end t other run).carry rest (k - run.count)))

-- the carry is given at first
pub carry_at_first : (s : ℕ → ℕ) (carry : ℕ) (runs : List Run) → (stands_at s carry runs 0).carry ≡ carry
unfolding stands_at
carry_at_first s carry [] = refl
carry_at_first s carry (run ∷ rest) =
    by_order 0 run.count (λ h. ap (λ (w : Walk). w.carry) (stands_first s carry run rest 0 h ∙ steps_none s (run_begin carry run)))
    (λ h.
    let none : run.count ≡ 0 = omega arith in
    let front : 0 - run.count ≡ 0 = omega arith in
    ap (λ (w : Walk). w.carry)
    (stands_later s carry run rest 0 h ∙ ap (stands_at s (run_end s carry run).carry rest) front)
    ∙ carry_at_first s (run_end s carry run).carry rest
    ∙ ap (λ (k : ℕ). (steps s (run_begin carry run) k).carry) none
    ∙ ap (λ (w : Walk). w.carry) (steps_none s (run_begin carry run)))

-- and then goes on from packet to packet, whether the next is in the same run or begins another
pub carry_goes_on : (s : ℕ → ℕ) (carry : ℕ) (runs : List Run) (k : ℕ) → k + 1 < packets_in runs
    → (stands_at s carry runs (k + 1)).carry ≡ (step s (stands_at s carry runs k)).carry
unfolding packets_in
carry_goes_on s carry [] k h = let never : k < 0 = omega arith in absurd (not-suc-le-zero never)
carry_goes_on s carry (run ∷ rest) k h =
    by_order k run.count
    (λ in_run.
    by_order (k + 1) run.count
    (λ still.
    ap (λ (w : Walk). w.carry) (stands_first s carry run rest (k + 1) still ∙ steps_more s v k)
    ∙ ap (λ (w : Walk). (step s w).carry) (sym (stands_first s carry run rest k in_run)))
    (λ over.
    let last : k + 1 ≡ run.count = omega arith in
    let none : k + 1 - run.count ≡ 0 = omega arith in
    ap (λ (w : Walk). w.carry)
    (stands_later s carry run rest (k + 1) over ∙ ap (stands_at s (run_end s carry run).carry rest) none)
    ∙ carry_at_first s (run_end s carry run).carry rest
    ∙ ap (λ (m : ℕ). (steps s v m).carry) (sym last)
    ∙ ap (λ (w : Walk). w.carry) (steps_more s v k)
    ∙ ap (λ (w : Walk). (step s w).carry) (sym (stands_first s carry run rest k in_run))))
    (λ past.
    let number : k + 1 - run.count ≡ k - run.count + 1 = omega arith in
    ap (λ (w : Walk). w.carry)
    (stands_later s carry run rest (k + 1) (omega arith) ∙ ap (stands_at s (run_end s carry run).carry rest) number)
    ∙ carry_goes_on s (run_end s carry run).carry rest (k - run.count) (omega arith)
    ∙ ap (λ (w : Walk). (step s w).carry) (sym (stands_later s carry run rest k past)))
  where
    v : Walk
    v = run_begin carry run
