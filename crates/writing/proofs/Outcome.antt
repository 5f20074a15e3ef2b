-- What the writer answers, test by test in their order, and what it leaves.
-- Assumes nothing.
use Prim.Native.Nat.{ℕ, ◌+◌, ◌*◌, ◌/◌, ◌≤◌, ◌<◌}
use mathlib.Core.Path.{◌≡◌, refl, sym, ap, ◌∙◌, subst}
use mathlib.Core.List.{List}
use mathlib.Core.Bool.{true, false}
use native.Mathlib.Omega.{arith}
use borrow.Author.Tests.{eq-eqb, ne_eqb, eqb-true, le-leb, lt-leb}
use lib.ListN.{length}
use lib.Dec.{eqb}
use Rattle.tables.proofs.Lent.{leaves_to, leaves_over}
use Rattle.tables.proofs.Cases.{by_equal, never}
use Rattle.tables.proofs.Leading.{Leads, leading_leads, leads_only}
use Rattle.blocks.specs.Places.{limit}
use Rattle.refusals.specs.Said.{Said, answers, refuses, result_says}
use Rattle.packets.specs.Walk.{reach}
use Rattle.laying.specs.Header.{is_header}
use Rattle.laying.specs.Inner.{Holds}
use Rattle.laying.proofs.Admitted.{header_is}
use Rattle.writing.specs.Laying.{many_in, byte_in, sp_laid}
use Rattle.writing.specs.Outcome.{sound_in, size_of, written_size, out_after, Writes}
use Rattle.writing.specs.Inner.{Ready}
use Rattle.std.specs.Prelude.{Result, Ok, Err}
use Rattle.refusals.specs.declared.Refusal.{Refusal}
use Rattle.refusals.specs.declared.Refusal.TheVariants.{Packet, Room, Supplied, TooLong}

-- where packets are first not sound
sound_leads : (packets : List ℕ) → Leads (λ k. eqb (byte_in packets k 40) 0) (many_in packets) (sound_in packets)
unfolding sound_in
sound_leads packets = leading_leads (λ k. eqb (byte_in packets k 40) 0) (many_in packets)

-- the first m packets are sound, and the next is not, if there is one
pub sound_upto : (packets : List ℕ) (m : ℕ) → m ≤ many_in packets → ((k : ℕ) → k < m → byte_in packets k 40 ≡ 0)
    → (m < many_in packets → byte_in packets m 40 ≡ 0 → ⊥) → sound_in packets ≡ m
sound_upto packets m few all next =
    leads_only (sound_leads packets)
    (record {
      within = few;
      before = λ k h. eq-eqb (byte_in packets k 40) 0 (all k h);
      stops = λ h. ne_eqb (byte_in packets m 40) 0 (next h);
    })

pub sound_more : (packets : List ℕ) (k : ℕ) → ((j : ℕ) → j < k → byte_in packets j 40 ≡ 0) → byte_in packets k 40 ≡ 0
    → (j : ℕ) → j < k + 1 → byte_in packets j 40 ≡ 0
sound_more packets k all here j h = by_equal j k (λ same. rw same here) (λ other. all j (omega arith))

pub sound_each : (packets : List ℕ) (k : ℕ) → k < sound_in packets → byte_in packets k 40 ≡ 0
sound_each packets k h = eqb-true (byte_in packets k 40) 0 ((sound_leads packets).before k h)

-- they are as many as there are or fewer, and where they are fewer the next is not sound
pub sound_most : (packets : List ℕ) → sound_in packets ≤ many_in packets
sound_most packets = (sound_leads packets).within

pub sound_not : (packets : List ℕ) → sound_in packets < many_in packets → byte_in packets (sound_in packets) 40 ≡ 0 → ⊥
sound_not packets h zero = never (eq-eqb (byte_in packets (sound_in packets) 40) 0 zero) ((sound_leads packets).stops h)

module _ (header packets out : List ℕ) where
  -- an outcome that is said so
  as_said : {said : Said ℕ} {out' : List ℕ} {answer : Result ℕ Refusal} → result_says answer ≡ said → said ≡ written_size header packets (length out)
      → out' ≡ out_after said header packets out → Writes header packets out out' answer
  as_said is said after =
      record { answer_is = is ∙ said; out_is = after ∙ ap (λ (s : Said ℕ). out_after s header packets out) said }

  pub refused_15 : is_header header ≡ false → Writes header packets out out (Err Supplied)
  unfolding written_size
  refused_15 h = as_said refl said refl
    where
      said : refuses 15 0 ≡ written_size header packets (length out)
      said = simp h

  module _ (good : is_header header ≡ true) (many : ℕ) (is : many ≡ sound_in packets) where
    pub refused_16 : (42 * many ≡ length packets → ⊥) → Writes header packets out out (Err (Packet many))
    unfolding written_size
    refused_16 other = as_said refl said refl
      where
        said : refuses 16 many ≡ written_size header packets (length out)
        said = rw (← is) (simp (good, ne_eqb (42 * many) (length packets) other))

    module _ (all : 42 * many ≡ length packets) where
      -- how long the file is
      many_is : many ≡ many_in packets
      many_is = omega arith

      size_is : 1536 + 512 * ((reach false many + 505) / 506) ≡ size_of packets
      size_is = ap (λ (n : ℕ). 1536 + 512 * ((reach false n + 505) / 506)) many_is

      pub refused_17 : 6470444 < many → Writes header packets out out (Err (TooLong limit))
      unfolding written_size
      refused_17 over = as_said refl said refl
        where
          said : refuses 17 limit ≡ written_size header packets (length out)
          said = rw (← is) (simp (good, eq-eqb (42 * many) (length packets) all, lt-leb (size_of packets) limit (omega (arith, size_is))))

      module _ (few : many ≤ 6470444) (size : ℕ) (so : size ≡ 1536 + 512 * ((reach false many + 505) / 506)) where
        pub refused_8 : length out < size → Writes header packets out out (Err (Room size))
        unfolding written_size
        refused_8 less = as_said refl said refl
          where
            said : refuses 8 size ≡ written_size header packets (length out)
            said =
                rw (← is, so ∙ size_is)
                (simp (good, eq-eqb (42 * many) (length packets) all, le-leb (size_of packets) limit (omega (arith, size_is)), lt-leb (size_of packets) (length out) (omega (arith, so, size_is))))

        module _ (room : size ≤ length out) where
          pub is_ready : Ready header packets many out
          is_ready =
              record {
                supplied = (header_is header good).long;
                all = sym all;
                few = few;
                room = omega (arith, so);
              }

          pub written : (out' : List ℕ) → Holds out header (sp_laid many (byte_in packets)) out' → Writes header packets out out' (Ok size)
          unfolding written_size
          written out' holds = as_said refl said (leaves_over
              (leaves_to (sym (so ∙ size_is)) (subst (λ (n : ℕ). Holds out header (sp_laid n (byte_in packets)) out') many_is holds)))
            where
              said : answers size ≡ written_size header packets (length out)
              said =
                  rw (← is, so ∙ size_is)
                  (simp (good, eq-eqb (42 * many) (length packets) all, le-leb (size_of packets) limit (omega (arith, size_is)), le-leb (size_of packets) (length out) (omega (arith, so, size_is))))
