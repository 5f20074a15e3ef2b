-- The ways of reading: which bytes are accepted, and what each test refuses by.
-- Assumes nothing.
use Prim.Native.Nat.{ℕ, ◌+◌, ◌*◌, ◌≤◌, ◌<◌}
use mathlib.Core.Path.{◌≡◌, sym, ap, ◌∙◌}
use mathlib.Core.List.{List}
use mathlib.Core.Bool.{true, false}
use native.Mathlib.Omega.{arith}
use borrow.Author.Tests.{eq-eqb, ne_eqb, eqb-true}
use lib.ListN.{length, get_or, drop, length-drop}
use lib.Dec.{eqb}
use Rattle.refusals.specs.declared.Numbers.{Numbers}
use Rattle.refusals.specs.Numbers.{numbered}
use Rattle.refusals.specs.Said.{Said, answers, refusal, demand}
use Rattle.refusals.proofs.Said.{passed, onward_refused, onward_answered, went_on}
use Rattle.whole.specs.declared.Recording.{Recording}
use Rattle.whole.specs.Admissions.{admission}
use Rattle.entries.specs.declared.Totals.{Totals}
use Rattle.entries.specs.Entries.{Contents}
use Rattle.entries.specs.Index.{entries_bytes}
use Rattle.entries.specs.Held.{is_rest, first_wrong}
use Rattle.entries.proofs.Laying.{entries_long}
use Rattle.entries.proofs.Held.{same_is, same_if, same_not, wrong_not, all_right}
use Rattle.index.specs.Reading.{framed, held_to, read_to, read_beside, index_read}
use Rattle.index.specs.Outcome.{totals_of, totalled}
use Rattle.index.proofs.Framed.{framed_says}

-- totals by their two numbers
pub by_totals : (totals : Totals) (c : Contents) → totals.entries ≡ length c.entries → totals.packets ≡ c.total → totals ≡ totals_of c
by_totals totals c entries packets =
    let fields : record { entries = totals.entries; packets = totals.packets } ≡ totals_of c = cc (entries, packets) in
    fields

module _ (x : List ℕ) (c : Contents) where
  pub not_framed : framed x ≡ false → refusal (numbered 19 0) ≡ totalled (read_to c x)
  not_framed e = simp e

  module _ (frame : framed x ≡ true) where
    pub other_version : (version : ℕ) → version ≡ get_or x 4 0 → (version ≡ 1 → ⊥) → refusal (numbered 20 version) ≡ totalled (read_to c x)
    other_version version is other =
        let not : get_or x 4 0 ≡ 1 → ⊥ = λ e. other (is ∙ e) in
        rw is (simp (frame, ne_eqb (get_or x 4 0) 1 not))

    module _ (version : get_or x 4 0 ≡ 1) (wrong : ℕ) (is : wrong ≡ first_wrong c.entries (drop 5 x)) where
      not_entries : (drop 5 x ≡ entries_bytes c.entries → ⊥) → refusal (numbered 21 wrong) ≡ totalled (read_to c x)
      not_entries other =
          rw is (simp (frame, eq-eqb (get_or x 4 0) 1 version, same_not (drop 5 x) (entries_bytes c.entries) other))

      pub entry_wrong : wrong < length c.entries → refusal (numbered 21 wrong) ≡ totalled (read_to c x)
      entry_wrong early = not_entries (wrong_not c.entries (drop 5 x) (omega (arith, is)))

      pub too_long : (length x ≡ 5 + 12 * length c.entries → ⊥) → refusal (numbered 21 wrong) ≡ totalled (read_to c x)
      too_long other =
          not_entries
          (λ e.
          let long : length x ≡ 5 + 12 * length c.entries =
          omega (arith, ap length e, length-drop 5 x, entries_long c.entries, (framed_says x frame).0) in
          other long)

      pub accepted : length c.entries ≤ wrong → length x ≡ 5 + 12 * length c.entries → answers (totals_of c) ≡ totalled (read_to c x)
      accepted none long =
          let right =
          all_right c.entries (drop 5 x) (omega (arith, is)) (omega (arith, length-drop 5 x)) in
          simp (frame, eq-eqb (get_or x 4 0) 1 version, same_if (drop 5 x) (entries_bytes c.entries) right)

-- what was accepted: what it should speak of, with the frame, the version and the entries that were asked
pub asked : (x : List ℕ) (c d : Contents) → read_to c x ≡ answers d
    → (c ≡ d) × (framed x ≡ true) × (get_or x 4 0 ≡ 1) × (drop 5 x ≡ entries_bytes c.entries)
asked x c d e =
    let one = passed (framed x) 19 0 (demand (eqb (get_or x 4 0) 1) 20 (get_or x 4 0) (held_to c (drop 5 x))) e in
    let two = passed (eqb (get_or x 4 0) 1) 20 (get_or x 4 0) (held_to c (drop 5 x)) one.1 in
    let three = passed (is_rest c.entries (drop 5 x)) 21 (first_wrong c.entries (drop 5 x)) (answers c) two.1 in
    (cc, one.0, eqb-true (get_or x 4 0) 1 two.0, same_is (drop 5 x) (entries_bytes c.entries) three.0)

-- so that its totals are those that it should have
pub was_held : (x : List ℕ) (c : Contents) (totals : Totals) → answers totals ≡ totalled (read_to c x)
    → (totals ≡ totals_of c) × (read_to c x ≡ answers c) × (drop 5 x ≡ entries_bytes c.entries) × (5 ≤ length x)
was_held x c totals e =
    let w = went_on (read_to c x) (λ d. answers (totals_of d)) (sym e) in
    let v = asked x c w.0 w.1 in
    let told : totals_of w.0 ≡ totals = cc in
    (sym told ∙ ap totals_of (sym v.0), w.1 ∙ ap answers (sym v.0), v.3, (framed_says x v.1).0)

-- what was admitted: a refusal is passed on, and with a recording it goes on so
module _ (f x : List ℕ) where
  pub not_read : (why : Numbers) → refusal why ≡ admission f true false → refusal why ≡ totalled (index_read f x)
  unfolding index_read
  not_read why e = sym (ap totalled (onward_refused (λ rec. read_beside f rec x) e))

  pub is_read : (rec : Recording) (said : Said Totals) → answers rec ≡ admission f true false → said ≡ totalled (read_beside f rec x)
      → said ≡ totalled (index_read f x)
  unfolding index_read
  is_read rec said e is = is ∙ sym (ap totalled (onward_answered (λ rec. read_beside f rec x) e))
