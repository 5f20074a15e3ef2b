-- The entries of a recording are as the rules describe them.
-- Assumes nothing.
use Prim.Native.Nat.{ℕ, ◌+◌, ◌<◌}
use mathlib.Core.Path.{◌≡◌, sym, ap, ◌∙◌, subst}
use mathlib.Core.List.{List}
use native.Mathlib.Omega.{arith}
use lib.ListN.{length}
use Rattle.tables.proofs.Cases.{by_order}
use Rattle.blocks.specs.Headers.{count_of, announced_in}
use Rattle.whole.specs.declared.Recording.{Recording}
use Rattle.whole.specs.Admissions.{stream_in}
use Rattle.packets.specs.Walk.{Walk}
use Rattle.packets.proofs.Walk.{steps_none}
use Rattle.sp.specs.Runs.{run_begin}
use Rattle.sp.specs.ReadLists.{dss_run, dss_runs}
use Rattle.sp.specs.Readings.{walk_at, reading_of}
use Rattle.sp.proofs.ReadLists.{dss_stands}
use Rattle.entries.specs.declared.Entry.{Entry}
use Rattle.entries.specs.Entries.{entry_by, entry_of, entries_in, entries_by}
use Rattle.entries.proofs.Entries.{Stands, each_stands, entry_there}
use Rattle.entries.specs.Described.{entry, Described}

module _ (f : List ℕ) (rec : Recording) where
  abbrev a : ℕ
  a = rec.start.0

  abbrev entries : List Entry
  entries = entries_by f rec

  stands : (i : ℕ) → i < length entries → Stands f a rec.blocks i (entry entries i)
  stands i h = each_stands f a rec.blocks (entry_by 0 0 0) i h

  -- an entry by its own number
  number_is : (i : ℕ) (h : i < length entries) → (entry entries i).number ≡ (stands i h).of.block
  number_is i h = ap (λ (e : Entry). e.number) (stands i h).of.is

  itself : (i : ℕ) → i < length entries → entry entries i ≡ entry_of f a (entry entries i).number
  itself i h = (stands i h).of.is ∙ ap (entry_of f a) (sym (number_is i h))

  pub entries_described : Described f rec entries
  entries_described =
      record {
        of_block = λ i h. omega (arith, number_is i h, (stands i h).of.there);
        announces = announces;
        every = every;
        in_order = in_order;
        first_is = first_is;
        place_is = place_is;
      }
    where
      announces : (i : ℕ) → i < length entries → 0 < count_of f a (entry entries i).number
      announces i h = subst (λ (b : ℕ). 0 < count_of f a b) (sym (number_is i h)) (stands i h).of.announces

      every : (b : ℕ) → b < rec.blocks → 0 < count_of f a b → (i : ℕ) × (i < length entries) × ((entry entries i).number ≡ b)
      every b h some =
          let t = entry_there f a b rec.blocks (entry_by 0 0 0) h some in
          (length (entries_in f a b), t.0, ap (λ (e : Entry). e.number) t.1)

      in_order : (i j : ℕ) → i < j → j < length entries → (entry entries i).number < (entry entries j).number
      in_order i j l h =
          let one = stands i (omega arith) in
          let other = stands j h in
          by_order (entry entries i).number (entry entries j).number (λ on. on)
          (λ back.
          by_order other.of.block one.of.block
          (λ before.
          absurd (omega (arith, (entry_there f a other.of.block one.of.block (entry_by 0 0 0) before other.of.announces).0, one.number, other.number)))
          (λ after.
          let same : one.of.block ≡ other.of.block = omega (arith, number_is i (omega arith), number_is j h) in
          absurd (omega (arith, one.number, other.number, ap (λ (b : ℕ). length (entries_in f a b)) same))))

      first_is : (i : ℕ) → i < length entries → (entry entries i).first ≡ announced_in f a (entry entries i).number
      first_is i h = ap (λ (e : Entry). e.first) (itself i h)

      place_is : (i : ℕ) → i < length entries → (entry entries i).place.0 ≡ (walk_at (reading_of f rec dss_runs) (entry entries i).first).place
      place_is i h =
          let s = stream_in f rec in
          let b = (entry entries i).number in
          let number : (entry entries i).first ≡ announced_in f a b + 0 = omega (arith, first_is i h) in
          ap (λ (e : Entry). e.place.0) (itself i h)
          ∙ sym (ap (λ (w : Walk). w.place)
          (ap (walk_at (reading_of f rec dss_runs)) number
          ∙ dss_stands s f a rec.blocks b 0 (omega (arith, number_is i h, (stands i h).of.there)) (announces i h)
          ∙ steps_none s (run_begin _ (dss_run f a b))))
