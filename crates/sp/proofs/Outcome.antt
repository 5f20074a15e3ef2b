-- The ways of a whole SP call: it refuses and leaves everything, or has room and writes.
-- Assumes nothing.
use Prim.Native.Nat.{ℕ, ◌*◌, ◌≤◌}
use mathlib.Core.Path.{◌≡◌, refl, sym, ◌∙◌}
use mathlib.Core.List.{List}
use mathlib.Core.Bool.{true, false}
use native.Mathlib.Omega.{arith}
use borrow.Author.Tests.{le-leb, leb-true}
use lib.Dec.{leb}
use Rattle.tables.proofs.Lent.{leaves_over}
use Rattle.refusals.specs.declared.Numbers.{Numbers}
use Rattle.refusals.specs.declared.Refusal.TheVariants.{Room}
use Rattle.refusals.specs.Numbers.{in_numbers}
use Rattle.refusals.specs.Said.{Said, answers, refusal, onward, result_says}
use Rattle.refusals.proofs.Said.{went_on, asked_of}
use Rattle.refusals.proofs.Results.{only_result_with}
use Rattle.sp.specs.declared.Run.{Run}
use Rattle.whole.specs.declared.Recording.{Recording}
use Rattle.whole.specs.Admissions.{announced_by, Sound}
use Rattle.sp.specs.Readings.{Reading, total, reading_of, read_by}
use Rattle.sp.specs.Outcome.{room_in, in_room, answered, Demuxes}
use Rattle.sp.specs.Written.{Written}
use Rattle.sp.specs.Inner.{Readable, Ready}
use Rattle.std.specs.Prelude.{Result, Ok, Err}
use Rattle.refusals.specs.declared.Refusal.{Refusal}

-- a refusal is passed on
pub passed_on : (why : Refusal) (out counts : List ℕ) → Demuxes (refusal (in_numbers why)) out out counts counts (Err why)
unfolding in_room
passed_on why out counts = record { answer_is = refl; out_is = refl; counts_are = refl }

module _ (reading : Reading) (out counts : List ℕ) (needed : ℕ) (is : needed ≡ total reading) where
  pub no_room : leb needed (room_in out counts) ≡ false → Demuxes (answers reading) out out counts counts (Err (Room needed))
  unfolding in_room
  no_room h =
      let full : leb (total reading) (room_in out counts) ≡ false = rw (← is) h in
      record { answer_is = simp (full, is); out_is = simp full; counts_are = simp full }

  pub with_room : (out' counts' : List ℕ) → leb needed (room_in out counts) ≡ true → Written reading out out' counts counts'
      → Demuxes (answers reading) out out' counts counts' (Ok needed)
  unfolding in_room
  with_room out' counts' h w =
      let fits : leb (total reading) (room_in out counts) ≡ true = rw (← is) h in
      record {
        answer_is = simp (fits, is);
        out_is = simp fits (leaves_over w.packets_are);
        counts_are = simp fits (leaves_over w.counts_are);
      }

-- what is asked before the writing
pub is_ready : (f : List ℕ) (rec : Recording) (out counts : List ℕ) (needed : ℕ) → Readable f rec → needed ≡ announced_by f rec
    → needed ≤ 255 * rec.blocks → leb needed (room_in out counts) ≡ true → Ready f rec out counts
is_ready f rec out counts needed readable is most h =
    let fits : needed ≤ room_in out counts = leb-true needed (room_in out counts) h in
    record {
      readable = readable;
      packets_few = omega (arith, is, readable.blocks_few);
      out_room = omega (arith, is);
      counts_room = omega (arith, is);
    }

-- what was said first: a refusal is passed on, and with a recording, or another answer, it goes on so
module _ {A : Type 0} (said : Said A) (then : A → Said Reading) (out counts : List ℕ) where
  pub not_taken : (why : Refusal) → refusal (in_numbers why) ≡ said → Demuxes (onward said then) out out counts counts (Err why)
  not_taken why e = rw (← e) (passed_on why out counts)

  pub taken : (a : A) (out' counts' : List ℕ) (answer : Result ℕ Refusal) → answers a ≡ said → Demuxes (then a) out out' counts counts' answer
      → Demuxes (onward said then) out out' counts counts' answer
  taken a out' counts' answer e d = rw (← e) d

-- a recording that was admitted can be read
pub may_read : (f : List ℕ) (rec : Recording) → Sound f rec → Readable f rec
may_read f rec sound = record { whole = sound.whole; blocks_few = omega (arith, sound.all, sound.within) }

-- what was read
pub read_by_lem : (f : List ℕ) (said : Said Recording) (runs : List ℕ → ℕ → ℕ → List Run) (r : Reading) → read_by f said runs ≡ answers r
    → (rec : Recording) × (said ≡ answers rec) × (reading_of f rec runs ≡ r)
read_by_lem f said runs r e =
    let w = went_on said (λ rec. answers (reading_of f rec runs)) e in
    (w.0, w.1, cc)

-- what an accepted call has read
pub accepted_read : (reading : Said Reading) (out out' counts counts' : List ℕ) (answer : Result ℕ Refusal) → Demuxes reading out out' counts counts' answer
    → (n : ℕ) → result_says answer ≡ answers n
    → (r : Reading) × (reading ≡ answers r) × (total r ≡ n) × (n ≤ room_in out counts) × (in_room reading (room_in out counts) ≡ answers r)
unfolding in_room
accepted_read reading out out' counts counts' answer d n e =
    let w = went_on (in_room reading (room_in out counts)) (λ r. answers (total r)) (sym d.answer_is ∙ e) in
    let v = asked_of reading (λ r. leb (total r) (room_in out counts)) 8 total w.0 w.1 in
    let many : total w.0 ≡ n = cc in
    let fits : total w.0 ≤ room_in out counts = leb-true (total w.0) (room_in out counts) v.1 in
    (w.0, v.0, many, omega (arith, many), w.1)

-- what is seen of an outcome
abbrev pub Seen : Type 0
Seen = Result ℕ Refusal × List ℕ × List ℕ

pub only_outcome : {reading : Said Reading} {out out₁ out₂ counts counts₁ counts₂ : List ℕ} {one other : Result ℕ Refusal}
    → Demuxes reading out out₁ counts counts₁ one → Demuxes reading out out₂ counts counts₂ other
    → ◌≡◌ {A = Seen} (one, out₁, counts₁) (other, out₂, counts₂)
only_outcome d e = only_result_with d.answer_is e.answer_is d.out_is e.out_is d.counts_are e.counts_are

-- a reading of no packets needs no room
pub nothing_to_read : (r : Reading) (room : ℕ) → total r ≡ 0 → answered (in_room (answers r) room) ≡ answers 0
unfolding in_room
nothing_to_read r room none = let fits : 0 ≤ room = omega arith in simp (none, le-leb 0 room fits)

-- what is refused before the room is asked
pub refused_before : (room : ℕ) (why : Numbers) → answered (in_room (refusal why) room) ≡ refusal why
unfolding in_room
refused_before room why = refl
