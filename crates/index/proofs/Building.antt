-- The ways of building: a refusal is passed on, or there is no room, or the index is laid.
-- Assumes nothing.
use Prim.Native.Nat.{ℕ, ◌+◌, ◌*◌, ◌≤◌, ◌<◌}
use mathlib.Core.Path.{◌≡◌, refl, ap, subst}
use mathlib.Core.List.{List}
use mathlib.Core.Bool.{true, false}
use native.Mathlib.Omega.{arith}
use borrow.Author.Tests.{le-leb, lt-leb}
use lib.ListN.{length, set}
use lib.Dec.{leb}
use Rattle.tables.proofs.Lent.{leaves_one, leaves_as, leaves_over}
use Rattle.refusals.specs.Numbers.{numbered}
use Rattle.refusals.specs.Said.{answers, refusal}
use Rattle.whole.specs.declared.Recording.{Recording}
use Rattle.whole.specs.Admissions.{admission}
use Rattle.entries.specs.Words.{word32}
use Rattle.entries.specs.Entries.{Contents, contents_in}
use Rattle.entries.specs.Index.{front_bytes, entries_bytes, edition1, size_of}
use Rattle.entries.specs.Inner.{Lays}
use Rattle.entries.proofs.Laying.{index_long, lays_join}
use Rattle.index.specs.Reading.{contents_of}
use Rattle.index.specs.declared.Size.{Size}
use Rattle.index.specs.Outcome.{in_room, Builds}
use Rattle.std.specs.Prelude.{Result, Ok, Err}
use Rattle.refusals.specs.declared.Refusal.{Refusal}
use Rattle.refusals.specs.Numbers.{in_numbers}
use Rattle.refusals.specs.declared.Refusal.TheVariants.{Room}

-- the front: the length, and the version
pub front_laid : (d e : List ℕ) (entries : ℕ) → 5 ≤ length d → Lays d 0 (word32 (1 + 12 * entries)) e → Lays d 0 (front_bytes edition1 entries) (set e 4 1)
front_laid d e entries room w =
    lays_join (word32 (1 + 12 * entries)) edition1 refl w
    (leaves_as _ (λ k h. let first : k ≡ 0 = omega arith in rw first refl) (leaves_one e 4 1 (omega (arith, w.long))))

module _ (c : Contents) (out : List ℕ) (entries : ℕ) (is : entries ≡ length c.entries) where
  bytes_are : 5 + 12 * entries ≡ size_of c
  bytes_are = omega (arith, index_long edition1 c.entries, is)

  pub no_room : length out < 5 + 12 * entries → Builds (answers c) out out (Err (Room (5 + 12 * entries)))
  unfolding in_room
  no_room h =
      let full : leb (size_of c) (length out) ≡ false = lt-leb (size_of c) (length out) (omega (arith, bytes_are)) in
      record { answer_is = simp full (ap (λ (n : ℕ). refusal (numbered 8 n)) bytes_are); out_is = simp full }

  pub with_room : (out₁ out₂ : List ℕ) → 5 + 12 * entries ≤ length out → Lays out 0 (front_bytes edition1 entries) out₁
      → Lays out₁ 5 (entries_bytes c.entries) out₂
      → Builds (answers c) out out₂ (Ok (record { bytes = 5 + 12 * entries; entries = entries }))
  unfolding in_room
  with_room out₁ out₂ h front rest =
      let fits : leb (size_of c) (length out) ≡ true = le-leb (size_of c) (length out) (omega (arith, bytes_are)) in
      record {
        answer_is = simp fits (cc (bytes_are, is));
        out_is =
            simp fits
            (leaves_over (lays_join (front_bytes edition1 (length c.entries)) (entries_bytes c.entries) refl
            (subst (λ (n : ℕ). Lays out 0 (front_bytes edition1 n) out₁) is front) rest));
      }

-- what was admitted: a refusal is passed on, and of a recording the index is built
module _ (f out : List ℕ) where
  pub not_taken : (why : Refusal) → refusal (in_numbers why) ≡ admission f true false → Builds (contents_of f) out out (Err why)
  unfolding contents_of in_room
  not_taken why e = rw (← e) (record { answer_is = refl; out_is = refl })

  pub taken : (rec : Recording) (out' : List ℕ) (answer : Result Size Refusal) → answers rec ≡ admission f true false
      → Builds (answers (contents_in f rec)) out out' answer → Builds (contents_of f) out out' answer
  unfolding contents_of
  taken rec out' answer e b = rw (← e) b
