-- Going through a recording block by block, with the number of the next entry and of the next packet: how many there are, what is laid, and
-- what stands.
-- Assumes nothing.
use Prim.Native.Nat.{ℕ, ◌+◌, ◌*◌, ◌≤◌, ◌<◌, min}
use mathlib.Core.Path.{◌≡◌, ap, sym, ◌∙◌, subst}
use mathlib.Core.List.{List}
use mathlib.Core.Bool.{Bool, true, false}
use native.Mathlib.Omega.{arith}
use lib.ListN.{length, get_or, take, drop}
use Rattle.tables.specs.Entries.{in_turn}
use Rattle.tables.proofs.Cases.{by_order}
use Rattle.tables.proofs.Entries.{in_turn_more}
use Rattle.blocks.specs.Headers.{count_of, announced_in}
use Rattle.blocks.proofs.Headers.{announced_none, announced_more}
use Rattle.entries.specs.declared.Entry.{Entry}
use Rattle.entries.specs.Entries.{entry_by, entry_of, entries_in}
use Rattle.entries.specs.Index.{entry_bytes, entries_bytes}
use Rattle.entries.specs.Held.{same, part, first_wrong}
use Rattle.entries.specs.Inner.{Lays, entry_place}
use Rattle.entries.proofs.Entries.{entries_none, entries_more, entries_same, entries_count, entry_there}
use Rattle.entries.proofs.Laying.{lays_none, lays_join, entries_long}
use Rattle.entries.proofs.Held.{part_is, part_behind, right, wrong_is}

-- before block b of n there are so many entries and so many packets
pub record Before (f : List ℕ) (a n b number first : ℕ) : Type 0 where
  pub within : b ≤ n
  pub number_is : number ≡ length (entries_in f a b)
  pub number_few : number ≤ b
  pub first_is : first ≡ announced_in f a b
  pub first_few : first ≤ 255 * b

module _ (f : List ℕ) (a n : ℕ) where
  pub before_all : Before f a n 0 0 0
  before_all =
      record {
        within = omega arith;
        number_is = sym (ap length (entries_none f a));
        number_few = omega arith;
        first_is = sym (announced_none f a);
        first_few = omega arith;
      }

  -- a block more, which announces something or nothing
  pub before_next : (b number first count some : ℕ) → b < n → (count ≡ count_of f a b) × (count ≤ 255) → some ≡ min count 1
      → Before f a n b number first → Before f a n (b + 1) (number + some) (first + count)
  before_next b number first count some h is one w =
      record {
        within = omega arith;
        number_is = omega (arith, entries_count f a b, w.number_is, is.0);
        number_few = omega (arith, w.number_few);
        first_is = omega (arith, announced_more f a b, w.first_is, is.0);
        first_few = omega (arith, w.first_few, is.1);
      }

  pub before_silent : (b number first count : ℕ) → b < n → (count ≡ count_of f a b) × (count ≤ 255) → count ≡ 0
      → Before f a n b number first → Before f a n (b + 1) number first
  before_silent b number first count h is none w =
      let no_entry : number + 0 ≡ number = omega arith in
      let no_packet : first + count ≡ first = omega arith in
      subst (Before f a n (b + 1) number) no_packet
      (subst (λ (m : ℕ). Before f a n (b + 1) m (first + count)) no_entry (before_next b number first count 0 h is (omega arith) w))

  -- after the last block
  pub before_none : (b number first : ℕ) → n ≤ b → Before f a n b number first
      → (number ≡ length (entries_in f a n)) × (number ≤ n) × (first ≡ announced_in f a n)
  before_none b number first h w =
      let all : b ≡ n = omega (arith, w.within) in (
        w.number_is ∙ ap (λ (m : ℕ). length (entries_in f a m)) all,
        omega (arith, w.number_few),
        w.first_is ∙ ap (announced_in f a) all,
      )

-- the entries of the first b blocks are laid, up to a place
pub record LaidUpto (f : List ℕ) (a n : ℕ) (out : List ℕ) (front b at first : ℕ) (out' : List ℕ) : Type 0 where
  pub number : ℕ
  pub before : Before f a n b number first
  pub at_is : at ≡ entry_place front number
  pub laid : Lays out front (entries_bytes (entries_in f a b)) out'

module _ (f : List ℕ) (a n : ℕ) (out : List ℕ) (front : ℕ) where
  pub laid_none : LaidUpto f a n out front 0 front 0 out
  unfolding in_turn
  laid_none = record { number = 0; before = before_all f a n; at_is = omega arith; laid = rw (entries_none f a) (lays_none out front) }

  -- a block more: a silent one, or one whose entry is laid
  module _ (b at first count : ℕ) (out₁ : List ℕ) (h : b < n) (is : (count ≡ count_of f a b) × (count ≤ 255)) (w : LaidUpto f a n out front b at first out₁) where
    pub laid_silent : count ≡ 0 → LaidUpto f a n out front (b + 1) at first out₁
    laid_silent none =
        record {
          number = w.number;
          before = before_silent f a n b w.number first count h is none w.before;
          at_is = w.at_is;
          laid = rw (entries_same f a b (omega (arith, is.0))) w.laid;
        }

    module _ (some : count ≡ 0 → ⊥) where
      pub laid_next : (out₂ : List ℕ) (entry : Entry) → entry ≡ entry_of f a b → Lays out₁ at (entry_bytes entry) out₂
          → LaidUpto f a n out front (b + 1) (at + 12) (first + count) out₂
      laid_next out₂ entry e put =
          let above : 0 < count_of f a b = omega (arith, is.0) in
          let there : at ≡ front + length (entries_bytes (entries_in f a b)) =
          omega (arith, entries_long (entries_in f a b), w.at_is, w.before.number_is) in
          record {
            number = w.number + 1;
            before = before_next f a n b w.number first count 1 h is (omega arith) w.before;
            at_is = omega (arith, w.at_is);
            laid =
                rw (entries_more f a b above, in_turn_more entry_bytes (entries_in f a b) (entry_of f a b))
                (lays_join (entries_bytes (entries_in f a b)) (entry_bytes (entry_of f a b)) there w.laid
                (subst (λ (x : Entry). Lays out₁ at (entry_bytes x) out₂) e put));
          }

      -- there is room for it where there is room for all
      pub laid_room : entry_place front (length (entries_in f a n)) ≤ length out → at + 12 ≤ length out₁
      laid_room room =
          let above : 0 < count_of f a b = omega (arith, is.0) in
          omega (arith, (entry_there f a b n (entry_by 0 0 0) h above).0, w.before.number_is, w.at_is, w.laid.long)

  pub laid_all : (b at first : ℕ) (out₁ : List ℕ) → n ≤ b → LaidUpto f a n out front b at first out₁
      → Lays out front (entries_bytes (entries_in f a n)) out₁
  laid_all b at first out₁ h w =
      let all : b ≡ n = omega (arith, w.before.within) in
      subst (λ (m : ℕ). Lays out front (entries_bytes (entries_in f a m)) out₁) all w.laid

-- the entries of the first b blocks stand in an index
pub record StandsUpto (f : List ℕ) (a n : ℕ) (x : List ℕ) (front b number first : ℕ) : Type 0 where
  pub before : Before f a n b number first
  pub all : (i : ℕ) → i < number → right (entries_in f a n) (drop front x) i ≡ true

module _ (f : List ℕ) (a n : ℕ) (x : List ℕ) (front : ℕ) where
  pub stands_none : StandsUpto f a n x front 0 0 0
  stands_none = record { before = before_all f a n; all = λ i h. absurd (omega arith) }

  module _ (b number first count : ℕ) (h : b < n) (is : (count ≡ count_of f a b) × (count ≤ 255)) (w : StandsUpto f a n x front b number first) where
    pub stands_silent : count ≡ 0 → StandsUpto f a n x front (b + 1) number first
    stands_silent none = record { before = before_silent f a n b number first count h is none w.before; all = w.all }

    module _ (some : count ≡ 0 → ⊥) (entry : Entry) (e : entry ≡ entry_of f a b) where
      above : 0 < count_of f a b
      above = omega (arith, is.0)

      -- it is the entry of that number
      here : (number < length (entries_in f a n)) × (part number (entries_bytes (entries_in f a n)) ≡ entry_bytes entry)
      here =
          let t = entry_there f a b n (entry_by 0 0 0) h above in
          let inside : number < length (entries_in f a n) = omega (arith, t.0, w.before.number_is) in (
            inside,
            part_is (entries_in f a n) (entry_by 0 0 0) number inside
                ∙ ap entry_bytes (ap (λ (i : ℕ). get_or (entries_in f a n) i (entry_by 0 0 0)) w.before.number_is ∙ t.1 ∙ sym e),
          )

      told : {test : Bool} → test ≡ same (take 12 (drop (entry_place front number) x)) (entry_bytes entry)
          → test ≡ right (entries_in f a n) (drop front x) number
      told t = t ∙ cc (sym (part_behind x front number), sym here.1)

      pub stands_next : same (take 12 (drop (entry_place front number) x)) (entry_bytes entry) ≡ true
          → StandsUpto f a n x front (b + 1) (number + 1) (first + count)
      stands_next held =
          record {
            before = before_next f a n b number first count 1 h is (omega arith) w.before;
            all = λ i l.
                by_order i number (w.all i)
                (λ last. let same : i ≡ number = omega arith in rw same (sym (told (sym held))));
          }

      pub stands_no_more : same (take 12 (drop (entry_place front number) x)) (entry_bytes entry) ≡ false
          → number ≡ first_wrong (entries_in f a n) (drop front x)
      stands_no_more failed =
          wrong_is (entries_in f a n) (drop front x)
          (record { within = omega (arith, here.0); before = w.all; stops = λ l. sym (told (sym failed)) })

  pub stands_all : (b number first : ℕ) → n ≤ b → StandsUpto f a n x front b number first → number ≡ first_wrong (entries_in f a n) (drop front x)
  stands_all b number first h w =
      let many = before_none f a n b number first h w.before in
      wrong_is (entries_in f a n) (drop front x)
      (record { within = omega (arith, many.0); before = w.all; stops = λ l. absurd (omega (arith, many.0)) })
