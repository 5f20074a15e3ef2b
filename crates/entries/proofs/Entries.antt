-- The entries block by block: how many, of which blocks, in which order, and that their numbers fit four bytes.
-- Assumes nothing.
use Prim.Native.Nat.{ℕ, zero, suc, ◌+◌, ◌*◌, ◌-◌, ◌≤◌, ◌<◌, min}
use mathlib.Core.Path.{◌≡◌, refl, sym, ap, ◌∙◌, subst}
use mathlib.Core.List.{List, [], ◌∷◌, ◌++◌, append-nil, append_assoc, map}
use native.Mathlib.Numerals.{add-one}
use native.Mathlib.Omega.{arith}
use borrow.Author.Tests.{lt-ltb, le-ltb}
use lib.ListN.{length, get_or, length-append}
use lib.Seq.{get_or-append_seam}
use Rattle.tables.proofs.Cases.{by_order}
use Rattle.tables.proofs.Table.{place_more}
use Rattle.blocks.specs.Headers.{Bytes, swap_of, first_of, count_of}
use Rattle.blocks.proofs.Headers.{announced_most}
use Rattle.packets.proofs.Start.{start_most}
use Rattle.sp.specs.ReadLists.{announcing}
use Rattle.entries.specs.declared.Entry.{Entry}
use Rattle.entries.specs.Entries.{entry_of, entries_in}
use Rattle.entries.specs.Inner.{Fits}

map_joined : {A B : Type 0} (g : A → B) (xs ys : List A) → map g (xs ++ ys) ≡ map g xs ++ map g ys
map_joined g [] ys = refl
map_joined g (x ∷ xs) ys = ap (λ (l : List _). g x ∷ l) (map_joined g xs ys)

module _ (f : List ℕ) (a : ℕ) where
  pub entries_none : entries_in f a 0 ≡ []
  unfolding announcing
  entries_none = refl

  -- an announcing block adds its entry, a silent one nothing
  pub entries_more : (b : ℕ) → 0 < count_of f a b → entries_in f a (b + 1) ≡ entries_in f a b ++ (entry_of f a b ∷ [])
  unfolding announcing
  entries_more b h =
      ap (entries_in f a) (add-one b) ∙ simp (lt-ltb 0 (count_of f a b) h) (map_joined (entry_of f a) (announcing f a b) (b ∷ []))

  pub entries_same : (b : ℕ) → count_of f a b ≤ 0 → entries_in f a (b + 1) ≡ entries_in f a b
  unfolding announcing
  entries_same b h =
      ap (entries_in f a) (add-one b) ∙ simp (le-ltb 0 (count_of f a b) h) (ap (map (entry_of f a)) (append-nil (announcing f a b)))

  -- how many there are with a block more
  pub entries_count : (b : ℕ) → length (entries_in f a (b + 1)) ≡ length (entries_in f a b) + min 1 (count_of f a b)
  entries_count b =
      by_order 0 (count_of f a b)
      (λ h. ap length (entries_more b h) ∙ length-append (entries_in f a b) (entry_of f a b ∷ []) ∙ omega arith)
      (λ h. ap length (entries_same b h) ∙ omega arith)

  pub entries_few : (n : ℕ) → length (entries_in f a n) ≤ n
  entries_few zero = omega (arith, ap length entries_none)
  entries_few (suc b) = rw (← add-one b) (omega (arith, entries_count b, entries_few b))

  -- the entries of more blocks go on from those of fewer
  entries_go_on : (n k : ℕ) → (rest : List Entry) × (entries_in f a (n + k) ≡ entries_in f a n ++ rest)
  entries_go_on n zero =
      ([], (let front : n + 0 ≡ n = omega arith in ap (entries_in f a) front) ∙ sym (append-nil (entries_in f a n)))
  entries_go_on n (suc k) =
      let before = entries_go_on n k in
      let number : n + suc k ≡ (n + k) + 1 = omega arith in
      rw number
      (by_order 0 (count_of f a (n + k))
      (λ h. (
        before.0 ++ (entry_of f a (n + k) ∷ []),
        entries_more (n + k) h ∙ ap (λ (l : List Entry). l ++ (entry_of f a (n + k) ∷ [])) before.1
            ∙ append_assoc (entries_in f a n) before.0 (entry_of f a (n + k) ∷ []),
      ))
      (λ h. (before.0, entries_same (n + k) h ∙ before.1)))

  -- the entry of an announcing block, in which as many stand before it as the blocks before it have
  pub entry_there : (b n : ℕ) (none : Entry) → b < n → 0 < count_of f a b
      → (length (entries_in f a b) < length (entries_in f a n)) × (get_or (entries_in f a n) (length (entries_in f a b)) none ≡ entry_of f a b)
  entry_there b n none h some =
      let rest = entries_go_on (b + 1) (n - (b + 1)) in
      let blocks : b + 1 + (n - (b + 1)) ≡ n = omega arith in
      let all : entries_in f a n ≡ entries_in f a b ++ (entry_of f a b ∷ rest.0) =
      ap (entries_in f a) (sym blocks) ∙ rest.1
      ∙ ap (λ (l : List Entry). l ++ rest.0) (entries_more b some)
      ∙ append_assoc (entries_in f a b) (entry_of f a b ∷ []) rest.0 in (
        omega (arith, ap length all, length-append (entries_in f a b) (entry_of f a b ∷ rest.0)),
        ap (λ (l : List Entry). get_or l (length (entries_in f a b)) none) all
            ∙ get_or-append_seam (entries_in f a b) (entry_of f a b) rest.0 none,
      )

  -- an entry of one of the first n blocks, which announces something
  pub record OfBlock (n : ℕ) (entry : Entry) : Type 0 where
    pub block : ℕ
    pub there : block < n
    pub announces : 0 < count_of f a block
    pub is : entry ≡ entry_of f a block

  -- every entry is one, and its number that of the entries of the blocks before
  pub record Stands (n : ℕ) (i : ℕ) (entry : Entry) : Type 0 where
    pub of : OfBlock n entry
    pub number : i ≡ length (entries_in f a of.block)

  stands_more : (b i : ℕ) (entry : Entry) → Stands b i entry → Stands (b + 1) i entry
  stands_more b i entry o =
      record {
        of = record { block = o.of.block; there = omega (arith, o.of.there); announces = o.of.announces; is = o.of.is };
        number = o.number;
      }

  abbrev AllStand : ℕ → Entry → List Entry → Type 0
  AllStand n none entries = (i : ℕ) → i < length entries → Stands n i (get_or entries i none)

  pub each_stands : (n : ℕ) (none : Entry) → AllStand n none (entries_in f a n)
  each_stands zero none = λ i h. absurd (omega (arith, ap length entries_none))
  each_stands (suc b) none =
      let before : AllStand (b + 1) none (entries_in f a b) = λ i h. stands_more b i _ (each_stands b none i h) in
      subst (λ (n : ℕ). AllStand n none (entries_in f a n)) (add-one b)
      (by_order 0 (count_of f a b)
      (λ some.
      subst (AllStand (b + 1) none) (sym (entries_more b some))
      (place_more (Stands (b + 1)) (entries_in f a b) (entry_of f a b) none before
      (record { of = record { block = b; there = omega arith; announces = some; is = refl }; number = refl })))
      (λ silent. subst (AllStand (b + 1) none) (sym (entries_same b silent)) before))

  -- numbers of blocks, packets and places are far below 2^32
  entry_small : (n : ℕ) (e : Entry) → Bytes f → n ≤ 524288 → OfBlock n e
      → (e.number < 524288) × (e.first ≤ 133693185) × (e.place.0 ≤ 506 * 524288)
  entry_small n e bytes few o =
      rw o.is (
        omega (arith, o.there),
        omega (arith, o.there, announced_most f a o.block bytes),
        omega (arith, o.there, start_most o.block (first_of f a o.block) (swap_of f a o.block)),
      )

  pub entry_fits : (n : ℕ) (e : Entry) → Bytes f → n ≤ 524288 → OfBlock n e → Fits e
  entry_fits n e bytes few o =
      let small = entry_small n e bytes few o in
      record { number = omega (arith, small.0); first = omega (arith, small.1); place = omega (arith, small.2) }
