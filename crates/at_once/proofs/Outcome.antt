-- The ways of the call: it refuses and leaves everything, or writes one packet and its count.
-- Assumes nothing.
use Prim.Native.Nat.{ℕ, ◌*◌, ◌≤◌, ◌<◌}
use mathlib.Core.Path.{◌≡◌, refl, sym, subst}
use mathlib.Core.List.{List}
use mathlib.Core.Bool.{Bool, true, false}
use native.Mathlib.Omega.{arith}
use borrow.Author.Tests.{lt-ltb, le-ltb, leb-true}
use lib.Dec.{leb}
use Rattle.blocks.specs.Headers.{swap_of}
use Rattle.refusals.specs.Said.{answers}
use Rattle.whole.specs.declared.Recording.{Recording}
use Rattle.whole.specs.Admissions.{announced_by, stream_in}
use Rattle.packets.specs.Walk.{Walk, reach, parity}
use Rattle.sp.specs.Runs.{run_begin}
use Rattle.sp.specs.Outcome.{room_in, Demuxes}
use Rattle.sp.specs.Written.{Written}
use Rattle.sp.specs.Inner.{RunWritten, Readable}
use Rattle.sp.proofs.Outcome.{passed_on, no_room, with_room}
use Rattle.sp.proofs.Written.{written_one}
use Rattle.at_once.specs.Straight.{carried_to, read_of, straight, of_number}
use Rattle.at_once.specs.Inner.{Ready}
use Rattle.at_once.proofs.Straight.{one_alone}
use Rattle.std.specs.Prelude.{Result, Ok, Err}
use Rattle.refusals.specs.declared.Refusal.{Refusal}
use Rattle.refusals.specs.declared.Refusal.TheVariants.{Beyond, Room}

module _ (f : List ℕ) (rec : Recording) (k : ℕ) (out counts : List ℕ) where
  -- a run of the one read that the number says
  pub packet_written : (out' counts' : List ℕ) {place carry after : ℕ} {first swap : Bool} → first ≡ swap_of f rec.start.0 0
      → place ≡ reach first k → swap ≡ parity first k → carry ≡ carried_to (stream_in f rec) first k
      → RunWritten (stream_in f rec) (506 * rec.blocks) (record { place = place; carry = carry; swap = swap }) 0 1 out out' counts counts' after
      → Written (straight f rec k) out out' counts counts'
  packet_written out' counts' {place} {carry} {after} {first} {swap} flag at by with r =
      let s = stream_in f rec in
      let there : record { place = place; carry = carry; swap = swap } ≡ run_begin (carried_to s first k) (read_of first k) = cc (at, by, with) in
      written_one s (506 * rec.blocks) _ out out' counts counts' (read_of (swap_of f rec.start.0 0) k) _ after refl
      (subst (λ (x : Bool). RunWritten s (506 * rec.blocks) (run_begin (carried_to s x k) (read_of x k)) 0 1 out out' counts counts' after) flag
      (subst (λ (w : Walk). RunWritten s (506 * rec.blocks) w 0 1 out out' counts counts' after) there r))

  -- the number is too high
  pub beyond : (total : ℕ) → total ≡ announced_by f rec → total ≤ k → Demuxes (of_number f rec k) out out counts counts (Err (Beyond total))
  beyond total is h = rw (le-ltb k (announced_by f rec) (omega (arith, is)), is) (passed_on (Beyond (announced_by f rec)) out counts)

  module _ (h : k < announced_by f rec) where
    -- an outcome of the one packet
    of_packet : {out' counts' : List ℕ} {answer : Result ℕ Refusal} → Demuxes (answers (straight f rec k)) out out' counts counts' answer
        → Demuxes (of_number f rec k) out out' counts counts' answer
    of_packet d = rw (lt-ltb k (announced_by f rec) h) d

    pub packet_no_room : leb 1 (room_in out counts) ≡ false → Demuxes (of_number f rec k) out out counts counts (Err (Room 1))
    packet_no_room none = of_packet (no_room (straight f rec k) out counts 1 (sym (one_alone f rec k)) none)

    pub packet_with_room : {out' counts' : List ℕ} → leb 1 (room_in out counts) ≡ true → Written (straight f rec k) out out' counts counts'
        → Demuxes (of_number f rec k) out out' counts counts' (Ok 1)
    packet_with_room fits w = of_packet (with_room (straight f rec k) out counts 1 (sym (one_alone f rec k)) _ _ fits w)

    pub is_ready : {total : ℕ} → Readable f rec → total ≡ announced_by f rec → total ≤ 255 * rec.blocks → leb 1 (room_in out counts) ≡ true
        → Ready f rec k out counts
    is_ready {total} readable is most fits =
        let room : 1 ≤ room_in out counts = leb-true 1 (room_in out counts) fits in
        record {
          readable = readable;
          there = h;
          near = omega (arith, is, readable.blocks_few);
          out_room = omega arith;
          counts_room = omega arith;
        }
