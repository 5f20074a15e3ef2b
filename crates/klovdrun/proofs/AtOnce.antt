-- What a host has that asks for one packet: numbers that say so or why not in the words of the whole reading, and that reading's packet.
-- Assumes nothing.
use Prim.Native.Nat.{ℕ, ◌<◌}
use mathlib.Core.Path.{◌≡◌, sym, ap, ◌∙◌, subst}
use mathlib.Core.List.{List}
use lib.ListN.{get_or}
use Rattle.tables.specs.Lent.{Leaves}
use Rattle.refusals.specs.Said.{Said, answers, result_says}
use Rattle.sp.specs.Readings.{Reading, total, packet_at, file_count_at, ds2_reading}
use Rattle.sp.specs.Outcome.{room_in}
use Rattle.at_once.specs.Straight.{packet_reading}
use Rattle.at_once.specs.Agreement.{said_at}
use Rattle.at_once.proofs.Theorems.{packet_said, packet_handed}
use Rattle.numbers.specs.declared.Answer.{Answer}
use Rattle.klovdrun.specs.Wrapped.{SpCarries, Tells}
use Rattle.klovdrun.specs.Refusals.{packet_refusals}
use Rattle.klovdrun.proofs.Theorems.{packet_tells}

-- a host's call of `klov_ds2_sp_packet`
module _ (f : List ℕ) (k : ℕ) {out out' counts counts' : List ℕ} {r : Answer} (c : SpCarries (packet_reading f k) out out' counts counts' r) where
  -- Its numbers tell what the whole reading is refused by, 18 with that reading's total, 8 with 1, or one packet.
  pub told_at_once : Tells packet_refusals (λ n. n) (λ n. 0) 0 (said_at (ds2_reading f) k (room_in out counts)) r
  told_at_once =
      subst (λ (said : Said ℕ). Tells packet_refusals (λ n. n) (λ n. 0) 0 said r)
      (sym c.comes.answer_is ∙ packet_said f k out out' counts counts' c.answer c.comes) (packet_tells f k c)

  -- With refusal 0, first is 1, the packet of that number of the whole reading is in front of the output, and its count in front of the table.
  pub told_packet : r.refusal ≡ 0
      → (reading : Reading) × (ds2_reading f ≡ answers reading) × (k < total reading) × (r.first ≡ 1)
      × Leaves out 0 42 (λ i. get_or (packet_at reading k) i 0) out' × Leaves counts 0 1 (λ i. file_count_at reading k) counts'
  told_packet none =
      let told = (packet_tells f k c).zero none in
      let says : result_says c.answer ≡ answers r.first = c.comes.answer_is ∙ told.1 ∙ ap answers (sym told.3) in
      packet_handed f k out out' counts counts' c.answer c.comes r.first says
