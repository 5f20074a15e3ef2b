-- The two public calls of this crate are settled by their contracts: two outcomes that a contract allows for the same arguments are equal.
-- Neither is lent anything to write. Each contract is `Post`, as the check reads it from the source. Assumes nothing.
use Prim.Native.Nat.{ℕ}
use mathlib.Core.Path.{◌≡◌, refl, ap, sym, ◌∙◌}
use mathlib.Core.List.{List}
use Rattle.tables.specs.Settled.{SettledResult, SettledAs}
use Rattle.refusals.specs.Said.{Said}
use Rattle.refusals.proofs.Said.{only_one, read_from}
use Rattle.whole.specs.Payload.{payload_says}
use Rattle.whole.proofs.payload_place.Kinds as place
use Rattle.whole.proofs.payload_place.Reads as place-reads
use Rattle.whole.proofs.payload.Kinds as part
use Rattle.whole.proofs.payload.Reads as part-reads
use Rattle.std.specs.Prelude.{Result, Ok, Err}
use Rattle.refusals.specs.declared.Refusal.{Refusal}
use Rattle.refusals.proofs.Results.{refusal_from, refusal_back}
use Rattle.blocks.specs.declared.FilePlace.{FilePlace}

-- a request's answer is read back from what it says
abbrev place_from : Said ℕ → Result FilePlace Refusal
place_from said = read_from (λ place. Ok (record { 0 = place })) (λ why. Err (refusal_from why)) said

payload_back : (x : Result FilePlace Refusal) → place_from (payload_says x) ≡ x
payload_back (Ok place) = refl
payload_back (Err why) = ap (λ (w : Refusal). Err w) (refusal_back why)

pub payload_place_settled : SettledResult 1 place.ps place.r place-reads.Post
payload_place_settled κs a x y s t p q = only_one payload_says place_from payload_back x y _ p q

-- of a part, its bytes
pub payload_settled : SettledAs 1 part.ps part.r (λ κs. List ℕ) (λ κs x s. x.now) part-reads.Post
payload_settled κs a x y s t p q = p ∙ sym q
