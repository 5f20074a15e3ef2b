-- What is carried from packet to packet, to the last packet of the last run and past it.
-- Assumes nothing.
use Prim.Native.Nat.{ℕ, ◌+◌, ◌≤◌, ◌<◌}
use mathlib.Core.Path.{◌≡◌, sym, ap, ◌∙◌}
use mathlib.Core.List.{List, [], ◌∷◌, ◌++◌, append-nil}
use mathlib.Core.Bool.{false}
use native.Mathlib.Omega.{arith}
use Rattle.tables.proofs.Cases.{by_order}
use Rattle.packets.specs.Walk.{Walk, step}
use Rattle.sp.specs.declared.Run.{Run}
use Rattle.sp.specs.Runs.{packets_in, stands_at, carry_past}
use Rattle.sp.proofs.Runs.{packets_none, packets_of, packets_joined, stands_before, stands_after, carry_at_first, carry_goes_on}

module _ (s : ℕ → ℕ) (carry : ℕ) (runs : List Run) where
  -- past the last packet stands what all runs carry on, whatever runs come next
  pub carry_past_lem : (more : List Run) → (stands_at s carry (runs ++ more) (packets_in runs)).carry ≡ carry_past s carry runs
  carry_past_lem more =
      let end : packets_in runs + 0 ≡ packets_in runs = omega arith in
      ap (λ (k : ℕ). (stands_at s carry (runs ++ more) k).carry) (sym end)
      ∙ ap (λ (w : Walk). w.carry) (stands_after s carry runs more 0)
      ∙ carry_at_first s (carry_past s carry runs) more

  -- runs that come after change no carry up to there
  pub carry_before : (more : List Run) (k : ℕ) → k ≤ packets_in runs → (stands_at s carry (runs ++ more) k).carry ≡ (stands_at s carry runs k).carry
  carry_before more k h =
      by_order k (packets_in runs)
      (λ l. ap (λ (w : Walk). w.carry) (stands_before s carry runs more k l))
      (λ l.
      let last : k ≡ packets_in runs = omega arith in
      rw last
      (carry_past_lem more ∙ sym (carry_past_lem []) ∙ ap (λ (all : List Run). (stands_at s carry all (packets_in runs)).carry) (append-nil runs)))

  -- from each packet to the next, and from the last on: as if one run more came after
  pub carry_goes_past : (k : ℕ) → k < packets_in runs → (stands_at s carry runs (k + 1)).carry ≡ (step s (stands_at s carry runs k)).carry
  carry_goes_past k h =
      let run : Run = record { start = record { 0 = 0 }; swap = false; count = 1 } in
      let longer : packets_in (runs ++ (run ∷ [])) ≡ packets_in runs + 1 =
      omega (arith, packets_joined runs (run ∷ []), packets_of run [], packets_none) in
      sym (carry_before (run ∷ []) (k + 1) (omega arith))
      ∙ carry_goes_on s carry (runs ++ (run ∷ [])) k (omega (arith, longer))
      ∙ ap (λ (w : Walk). (step s w).carry) (stands_before s carry runs (run ∷ []) k h)
