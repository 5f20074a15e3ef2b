-- A payload where it stands: the bytes of a read that lies in it are the stream's.
-- Assumes nothing.
use Prim.Native.Nat.{ℕ, ◌+◌, ◌-◌, ◌≤◌}
use mathlib.Core.Path.{◌≡◌, sym, ap, ◌∙◌}
use mathlib.Core.List.{List}
use mathlib.Core.Bool.{Bool}
use native.Mathlib.Omega.{arith}
use lib.ListN.{get_or}
use Rattle.packets.specs.Packet.{read_size, from}
use Rattle.packets.specs.Inner.{bytes_of}
use Rattle.packets.proofs.Longer.{Agree}
use Rattle.hold.specs.Inner.{Bears}

pub bears_agree : (source : List ℕ) (at base q : ℕ) (swap : Bool) → base ≤ q → q + read_size swap ≤ base + 506
    → (s : ℕ → ℕ) → Bears source at base s → Agree (from (bytes_of source) (at + (q - base))) (from s q) (read_size swap)
unfolding Bears
bears_agree source at base q swap begun inside s bears j h =
    let here : at + (q - base) + j ≡ at + (q - base + j) = omega arith in
    let there : base + (q - base + j) ≡ q + j = omega arith in
    ap (λ (i : ℕ). get_or source i 0) here ∙ sym (bears (q - base + j) (omega arith)) ∙ ap s there
