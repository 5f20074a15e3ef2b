-- A packet straight from its number is the one that a walk from the start comes to.
-- Assumes nothing.
use Prim.Native.Nat.{ℕ, zero, suc, ◌*◌, ◌-◌, ◌≤◌, ◌<◌}
use mathlib.Core.Path.{◌≡◌, refl, sym, ap, ◌∙◌}
use mathlib.Core.List.{List, []}
use mathlib.Core.Bool.{Bool, true, false}
use native.Mathlib.Omega.{arith}
use borrow.Author.Tests.{eq-eqb, ne_eqb, lt-ltb, le-ltb}
use Rattle.tables.specs.Table.{table}
use Rattle.tables.proofs.Table.{same_table}
use Rattle.blocks.specs.Headers.{swap_of}
use Rattle.refusals.specs.Said.{Said, answers, refuses, onward}
use Rattle.detect.specs.declared.Kind.TheVariants.{Sp}
use Rattle.whole.specs.declared.Recording.{Recording}
use Rattle.whole.specs.Admissions.{announced_by, ds2_admission, stream_in}
use Rattle.packets.specs.Packet.{packet_byte, from}
use Rattle.packets.specs.Walk.{Walk, steps, byte_of, count_at, reach, parity}
use Rattle.packets.proofs.Walk.{steps_none, steps_place, steps_swap, carry_two_before}
use Rattle.sp.specs.Runs.{run_begin}
use Rattle.sp.specs.ReadLists.{ds2_run, ds2_runs}
use Rattle.sp.specs.Readings.{total, walk_at, reading_of}
use Rattle.sp.proofs.Runs.{packets_none, packets_of, stands_first}
use Rattle.sp.proofs.ReadLists.{ds2_packets}
use Rattle.at_once.specs.Straight.{carried_from, carried_to, read_of, straight, of_number, packet_reading}
use Rattle.at_once.specs.Agreement.{OnePacket}

-- an unswapped packet takes no account of what is carried
any_carry : (swap : Bool) (x y : ℕ) (c : ℕ → ℕ) (i : ℕ) → (swap ≡ true → x ≡ y) → packet_byte swap x c i ≡ packet_byte swap y c i
unfolding packet_byte
any_carry true x y c i same = ap (λ (z : ℕ). packet_byte true z c i) (same refl)
any_carry false x y c i same = refl

-- past packet 0 there are two places before a read
pub two_before : (swap : Bool) (k : ℕ) → (k ≡ 0 → ⊥) → 2 ≤ reach swap k
two_before true k some = omega (arith, some)
two_before false k some = omega (arith, some)

-- what is carried, by the tests of the code
pub carried_first : (s : ℕ → ℕ) (swap : Bool) (k : ℕ) → k ≡ 0 → 0 ≡ carried_to s swap k
unfolding carried_to
carried_first s swap k none = rw (eq-eqb k 0 none)

pub carried_later : (s : ℕ → ℕ) (swap : Bool) (k : ℕ) {x q : ℕ} → (k ≡ 0 → ⊥) → q ≡ carried_from swap k → x ≡ s q → x ≡ carried_to s swap k
unfolding carried_to
carried_later s swap k some is e = rw (ne_eqb k 0 some) (e ∙ ap s is)

module _ (s : ℕ → ℕ) (swap : Bool) where
  -- the walk from the start, and the one that stands at packet k
  abbrev start : Walk
  start = record { place = 0; carry = 0; swap = swap }

  abbrev there : ℕ → Walk
  there k = run_begin (carried_to s swap k) (read_of swap k)

  place_is : (k : ℕ) → (steps s start k).place ≡ reach swap k
  place_is k = steps_place s start k ∙ omega arith

  -- what it is given is what is carried that far, where it is swapped
  carried_is : (k : ℕ) → parity swap k ≡ true → carried_to s swap k ≡ (steps s start k).carry
  unfolding carried_to
  carried_is zero swapped = ap (λ (w : Walk). w.carry) (sym (steps_none s start))
  carried_is (suc k) swapped =
      let two : carried_from swap (suc k) ≡ (steps s start (suc k)).place - 2 = omega (arith, place_is (suc k)) in
      rw (ne_eqb (suc k) 0 (λ none. omega arith)) (ap s two ∙ sym (carry_two_before s start k swapped))

  -- so its bytes are the same, and its count
  byte_is : (k i : ℕ) → byte_of s (there k) i ≡ byte_of s (steps s start k) i
  byte_is k i =
      rw (steps_swap s start k, place_is k)
      (any_carry (parity swap k) (carried_to s swap k) (steps s start k).carry (from s (reach swap k)) i (carried_is k))

  count_is : (n k : ℕ) → count_at n (there k) ≡ count_at n (steps s start k)
  count_is n k = cc (steps_swap s start k, place_is k)

module _ (f : List ℕ) (rec : Recording) (k : ℕ) where
  abbrev s : ℕ → ℕ
  s = stream_in f rec

  abbrev flag : Bool
  flag = swap_of f rec.start.0 0

  pub one_alone : total (straight f rec k) ≡ 1
  one_alone = packets_of (read_of flag k) [] ∙ omega (arith, packets_none)

  stands_alone : walk_at (straight f rec k) 0 ≡ run_begin (carried_to s flag k) (read_of flag k)
  stands_alone =
      stands_first s (carried_to s flag k) (read_of flag k) [] 0 (omega arith)
      ∙ steps_none s (run_begin (carried_to s flag k) (read_of flag k))

  pub is_one_packet : k < announced_by f rec → OnePacket (straight f rec k) (reading_of f rec ds2_runs) k
  is_one_packet h =
      let walks = stands_first s 0 (ds2_run f rec.start.0 rec.blocks) [] k h in
      record {
        alone = one_alone;
        there = omega (arith, ds2_packets f rec.start.0 rec.blocks);
        bytes =
            ap (λ (w : Walk). table 42 (byte_of s w)) stands_alone
            ∙ same_table 42 _ _ (λ i l. byte_is s flag k i)
            ∙ ap (λ (w : Walk). table 42 (byte_of s w)) (sym walks);
        count = ap (count_at (506 * rec.blocks)) stands_alone ∙ count_is s flag (506 * rec.blocks) k ∙ ap (count_at (506 * rec.blocks)) (sym walks);
      }

  -- what is said of its number, where the file is admitted
  module _ (is : ds2_admission f Sp ≡ answers rec) where
    asks_number : packet_reading f k ≡ of_number f rec k
    unfolding packet_reading
    asks_number = ap (λ (said : Said Recording). onward said (λ x. of_number f x k)) is

    pub below_total : k < announced_by f rec → packet_reading f k ≡ answers (straight f rec k)
    below_total h = asks_number ∙ simp (lt-ltb k (announced_by f rec) h)

    pub not_below : announced_by f rec ≤ k → packet_reading f k ≡ refuses 18 (announced_by f rec)
    not_below h = asks_number ∙ simp (le-ltb k (announced_by f rec) h)
