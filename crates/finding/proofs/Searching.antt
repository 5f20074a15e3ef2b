-- An index that was held to its recording can be searched, and a search of it finds the entry.
-- Assumes nothing.
use Prim.Native.Nat.{ℕ, ◌+◌, ◌≤◌, ◌<◌}
use mathlib.Core.Path.{◌≡◌, refl, sym, ap, ◌∙◌, subst}
use mathlib.Core.List.{List}
use mathlib.Core.Bool.{true, false}
use native.Mathlib.Omega.{arith}
use borrow.Author.Tests.{lt-ltb, le-ltb, ltb-true}
use lib.ListN.{length, get_or, drop, length-drop}
use lib.Dec.{ltb}
use Rattle.tables.proofs.Cases.{by_order}
use Rattle.blocks.specs.Headers.{Bytes}
use Rattle.refusals.specs.declared.Numbers.{Numbers}
use Rattle.refusals.specs.Said.{Said, answers, refusal, result_says}
use Rattle.refusals.proofs.Said.{by_said, not_both, passed, onward_refused, onward_answered, went_on}
use Rattle.whole.specs.declared.Recording.{Recording}
use Rattle.whole.specs.Admissions.{admission, Sound}
use Rattle.whole.proofs.Admissions.{few_blocks}
use Rattle.entries.specs.declared.Entry.{Entry}
use Rattle.entries.specs.declared.Totals.{Totals}
use Rattle.entries.specs.Entries.{entry_by, entries_by, Contents, contents_in}
use Rattle.entries.specs.Index.{entries_bytes}
use Rattle.entries.specs.Inner.{entry_at, entry_place}
use Rattle.entries.proofs.Entries.{each_stands, entry_fits}
use Rattle.entries.proofs.Laying.{entries_long}
use Rattle.entries.proofs.Held.{entry_read}
use Rattle.index.specs.Reading.{read_beside}
use Rattle.index.specs.Outcome.{totals_of, totalled}
use Rattle.index.proofs.Reading.{asked, was_held}
use Rattle.finding.specs.Finding.{last_in, found_in, found_beside, entry_found}
use Rattle.finding.specs.Agreement.{HasPacket}
use Rattle.finding.specs.Inner.{first_at, Crosses, Searchable, Searched}
use Rattle.finding.proofs.Last.{last_is, found_at, entries_rise, entries_some, first_begins}
use Rattle.std.specs.Prelude.{Result, Ok, Err}
use Rattle.refusals.specs.declared.Refusal.{Refusal}
use Rattle.refusals.specs.declared.Refusal.TheVariants.{Beyond}

-- the ways of a search
pub searched_past : (x : List ℕ) (front : ℕ) (totals : Totals) (p : ℕ) → totals.packets ≤ p
    → Searched x front totals p (Err (Beyond totals.packets))
searched_past x front totals p h = record { past = λ l. refl; found = λ l. absurd (omega arith) }

pub searched_at : (x : List ℕ) (front : ℕ) (totals : Totals) (p i : ℕ) (entry : Entry) → p < totals.packets → Crosses x front totals.entries p i
    → entry ≡ entry_at x (entry_place front i) → Searched x front totals p (Ok entry)
searched_at x front totals p i entry h w is = record { past = λ l. absurd (omega arith); found = λ l. (i, w, ap answers is) }

-- entries of a recording that stand in an index
module _ (f : List ℕ) (rec : Recording) (x : List ℕ) (front : ℕ) (sound : Sound f rec) (files : Bytes f) (rest : drop front x ≡ entries_bytes (entries_by f rec)) where
  abbrev a : ℕ
  a = rec.start.0

  abbrev none : Entry
  none = entry_by 0 0 0

  abbrev entries : List Entry
  entries = entries_by f rec

  -- are read there
  read_at : (i : ℕ) → i < length entries → entry_at x (entry_place front i) ≡ get_or entries i none
  read_at i h =
      entry_read entries none x front i rest h
      (entry_fits f a rec.blocks _ files (few_blocks f rec sound) (each_stands f a rec.blocks none i h).of)

  first_read : (i : ℕ) → i < length entries → first_at x front i ≡ (get_or entries i none).first
  first_read i h = ap (λ (e : Entry). e.first) (read_at i h)

  -- so that the index can be searched
  searchable : front ≤ length x → Searchable x front (totals_of (contents_in f rec))
  searchable room =
      record {
        there = omega (arith, ap length rest, length-drop front x, entries_long entries);
        begins = λ some.
            let there = entries_some f a rec.blocks some in
            (there, first_read 0 there ∙ first_begins f a rec.blocks none there);
      }

  -- and the entry at which the numbers cross a packet's is the last that begins at or before it
  crossed_is_last : (p i : ℕ) → Crosses x front (length entries) p i → entry_at x (entry_place front i) ≡ last_in p entries
  crossed_is_last p i w =
      read_at i w.inside
      ∙ sym (last_is p none none entries i w.inside (omega (arith, first_read i w.inside, w.begins))
      (λ j l h.
      let next : i + 1 < length entries = omega arith in
      omega (arith, w.next next, first_read (i + 1) next, entries_rise f a rec.blocks none (i + 1) j (omega arith) h)))

-- what was held: a refusal is passed on, and an index that was accepted can be searched and has the entry
module _ (f : List ℕ) (rec : Recording) (x : List ℕ) (p : ℕ) where
  pub not_searched : (why : Numbers) → refusal why ≡ totalled (read_beside f rec x) → refusal why ≡ found_beside f rec x p
  not_searched why e =
      by_said (read_beside f rec x) (λ c is. absurd (not_both (e ∙ ap totalled is)))
      (λ other is. let same : refusal why ≡ refusal other = e ∙ ap totalled is in rw is (cc same))

  module _ (totals : Totals) (e : answers totals ≡ totalled (read_beside f rec x)) (sound : Sound f rec) (files : Bytes f) where
    pub may_search : Searchable x 5 totals
    may_search =
        let w = was_held x (contents_in f rec) totals e in
        subst (Searchable x 5) (sym w.0) (searchable f rec x 5 sound files w.2 w.3)

    pub search_finds : (answer : Result Entry Refusal) → Searched x 5 totals p answer → result_says answer ≡ found_beside f rec x p
    search_finds answer searched =
        let w = was_held x (contents_in f rec) totals e in
        let c = contents_in f rec in
        let s : Searched x 5 (totals_of c) p answer = subst (λ (t : Totals). Searched x 5 t p answer) w.0 searched in
        rw w.1
        (by_order p c.total
        (λ h.
        let k = s.found h in
        simp (lt-ltb p c.total h) (k.2 ∙ ap answers (crossed_is_last f rec x 5 sound files w.2 p k.0 k.1)))
        (λ h. simp (le-ltb p c.total h) (s.past h)))

-- the entry that is found has the packet
pub found_has : (f : List ℕ) (rec : Recording) (x : List ℕ) (p : ℕ) (entry : Entry) → found_beside f rec x p ≡ answers entry → HasPacket f rec p entry
found_has f rec x p entry e =
    let c = contents_in f rec in
    let one = went_on (read_beside f rec x) (found_in p) e in
    let same : c ≡ one.0 = (asked x c one.0 one.1).0 in
    let two = passed (ltb p one.0.total) 18 one.0.total (answers (last_in p one.0.entries)) one.2 in
    let below : p < c.total = omega (arith, ltb-true p one.0.total two.0, ap (λ (d : Contents). d.total) same) in
    let w = found_at f rec.start.0 rec.blocks p below in
    let is : last_in p c.entries ≡ entry = ap (λ (d : Contents). last_in p d.entries) same ∙ cc two.1 in
    subst (HasPacket f rec p) is
    (subst (HasPacket f rec p) (sym w.is) (record { there = w.there; is = refl; from = w.from; below = w.below }))

-- what was admitted: a refusal is passed on, and with a recording it goes on so
module _ (f x : List ℕ) (p : ℕ) where
  pub not_found : (why : Numbers) → refusal why ≡ admission f true false → refusal why ≡ entry_found f x p
  unfolding entry_found
  not_found why e = sym (onward_refused (λ rec. found_beside f rec x p) e)

  pub is_found : (rec : Recording) (said : Said Entry) → answers rec ≡ admission f true false → said ≡ found_beside f rec x p → said ≡ entry_found f x p
  unfolding entry_found
  is_found rec said e is = is ∙ sym (onward_answered (λ rec. found_beside f rec x p) e)
