-- A writer's steps on what its output holds: silent blocks are the file of no frame; bytes that are put change the stream and nothing
-- else; a frame that is counted is one frame more. Assumes nothing.
use Prim.Native.Nat.{ℕ, ◌+◌, ◌*◌, ◌-◌, ◌/◌, ◌%◌, ◌≤◌, ◌<◌, min}
use mathlib.Core.Path.{◌≡◌, refl, sym, ap, ◌∙◌, subst}
use mathlib.Core.List.{List}
use mathlib.Core.Bool.{Bool, cond}
use native.Mathlib.Nat.{not-suc-le-zero}
use native.Mathlib.Omega.{arith}
use borrow.Author.Tests.{eq-eqb, ne_eqb, lt-ltb, le-ltb}
use lib.ListN.{length, get_or, set, length-set}
use lib.Seq.{get_or-set_same, get_or-set_other}
use lib.Dec.{eqb}
use Rattle.tables.specs.Lent.{Leaves}
use Rattle.tables.specs.Counting.{how_many}
use Rattle.tables.proofs.Lent.{leaves_none, leaves_more, leaves_first, leaves_join, leaves_again, leaves_as, leaves_to, leaves_at, leaves_kept}
use Rattle.tables.proofs.Counting.{none_such}
use Rattle.tables.proofs.Cases.{by_order, by_equal}
use Rattle.blocks.specs.Places.{file_of, block_at}
use Rattle.laying.specs.Laid.{Laid, blocks_for, size_for, block_of, count_in, first_in, flag_byte, place_byte, head_byte, block_byte, file_byte}
use Rattle.laying.specs.Inner.{no_frames, Puts, head_at, count_at, counted, Counts, Holds, streaming, one_more}
use Rattle.laying.proofs.Frames.{first_more, Apart, ascends, first_splits, begins_in}
use Rattle.laying.proofs.Files.{front_is, block_is, head_is, body_is}

-- a place of the file lies in the header, in a block's header or in a payload
by_part : {X : Type 0} (x : ℕ) → (x < 1536 → X) → ((b i : ℕ) → i < 6 → x ≡ block_at 1536 b + i → X) → ((q : ℕ) → x ≡ file_of 1536 q → X) → X
by_part x front head body =
    by_order x 1536 front
    (λ past.
    by_order ((x - 1536) % 512) 6
    (λ small. head ((x - 1536) / 512) ((x - 1536) % 512) small (omega arith))
    (λ large. body (506 * ((x - 1536) / 512) + ((x - 1536) % 512 - 6)) (omega arith)))

-- bytes of a source from a place of it on
abbrev sourced : List ℕ → ℕ → ℕ → ℕ
sourced source from i = get_or source (from + i) 0

-- where bytes lie that were copied by two runs, the first of them up to a block's end
pub put_runs : (source d e e' : List ℕ) (from q n m to next : ℕ) → n ≤ 506 → m ≡ min n (506 - q % 506) → to ≡ file_of 1536 q
    → (m < n → next ≡ block_at 1536 (q / 506) + 518) → Leaves d to m (sourced source from) e → Leaves e next (n - m) (sourced source (from + m)) e'
    → Puts d q n (sourced source from) e'
put_runs source d e e' from q n m to next most is here there one two =
    record {
      long = two.long ∙ one.long;
      put = put;
      kept = λ x none.
          leaves_kept two x (λ low l. none (m + (x - next)) (omega arith) (omega (arith, there (omega arith))))
          ∙ leaves_kept one x (λ low l. none (x - to) (omega arith) (omega arith));
    }
  where
    put : (i : ℕ) → i < n → get_or e' (file_of 1536 (q + i)) 0 ≡ sourced source from i
    put i h =
        by_order i m
        (λ l.
        let at : file_of 1536 (q + i) ≡ to + i = omega arith in
        leaves_kept two (file_of 1536 (q + i)) (λ low past. omega (arith, there (omega arith))) ∙ ap (λ (x : ℕ). get_or e x 0) at ∙ one.new i l)
        (λ l.
        let at : file_of 1536 (q + i) ≡ next + (i - m) = omega (arith, there (omega arith)) in
        let back : from + m + (i - m) ≡ from + i = omega arith in
        ap (λ (x : ℕ). get_or e' x 0) at ∙ two.new (i - m) (omega arith) ∙ ap (λ (x : ℕ). get_or source x 0) back)

-- and by one, where that is all
pub put_run : (source d e : List ℕ) (from q n to : ℕ) → q % 506 + n ≤ 506 → to ≡ file_of 1536 q → Leaves d to n (sourced source from) e
    → Puts d q n (sourced source from) e
put_run source d e from q n to inside here one =
    let none : 0 ≡ n - n = omega arith in
    put_runs source d e e from q n n to 0 (omega arith) (omega arith) here (λ more. omega arith) one
    (leaves_to none (leaves_none e 0 (sourced source (from + n))))

-- no header of a block is touched
pub put_beside : {d e : List ℕ} {q n : ℕ} {f : ℕ → ℕ} → Puts d q n f e → (b i : ℕ) → i < 6
    → get_or e (block_at 1536 b + i) 0 ≡ get_or d (block_at 1536 b + i) 0
put_beside put b i h = put.kept (block_at 1536 b + i) (λ j l same. omega arith)

-- four stores over zeros make a silent block
pub silent_stores : (d e : List ℕ) (at kind : ℕ) → at + 512 ≤ length d → Leaves d at 512 (λ k. 0) e
    → Leaves d at 512 (block_byte (no_frames kind) 0) (set (set (set (set e at 0x0F) (at + 3) 0xFF) (at + 4) kind) (at + 5) 0xFF)
unfolding block_byte head_byte count_in how_many
silent_stores d e at kind room zeros =
    let front : at + 0 ≡ at = omega arith in
    leaves_as (block_byte (no_frames kind) 0) is
    (leaves_again 5 0xFF (omega arith) room
    (leaves_again 4 kind (omega arith) room
    (leaves_again 3 0xFF (omega arith) room
    (subst (λ (j : ℕ). Leaves d at 512 (λ k. cond (eqb k 0) 0x0F 0) (set e j 0x0F)) front (leaves_again 0 0x0F (omega arith) room zeros)))))
  where
    is : (k : ℕ) → k < 512 → cond (eqb k 5) 0xFF (cond (eqb k 4) kind (cond (eqb k 3) 0xFF (cond (eqb k 0) 0x0F 0))) ≡ block_byte (no_frames kind) 0 k
    is k h =
        by_order k 6
        (λ head.
        by_equal k 5 (λ e. rw e refl)
        (λ five.
        by_equal k 4 (λ e. rw e refl)
        (λ four.
        by_equal k 3 (λ e. rw e refl)
        (λ three.
        by_equal k 0 (λ e. rw e refl)
        (λ zero.
        by_equal k 1 (λ e. rw e refl) (λ one. let two : k ≡ 2 = omega arith in rw two refl))))))
        (λ body.
        let five : k ≡ 5 → ⊥ = λ e. omega arith in
        let four : k ≡ 4 → ⊥ = λ e. omega arith in
        let three : k ≡ 3 → ⊥ = λ e. omega arith in
        let zero : k ≡ 0 → ⊥ = λ e. omega arith in
        simp (ne_eqb k 5 five, ne_eqb k 4 four, ne_eqb k 3 three, ne_eqb k 0 zero, le-ltb k 6 body))

-- one silent block more; and the header before them
abbrev pub silent_at : ℕ → ℕ → ℕ
silent_at kind i = block_byte (no_frames kind) 0 (i % 512)

pub silent_more : (d e e' : List ℕ) (kind b to : ℕ) → to ≡ 1536 + 512 * b → Leaves d 1536 (512 * b) (silent_at kind) e
    → Leaves e to 512 (block_byte (no_frames kind) 0) e' → Leaves d 1536 (512 * (b + 1)) (silent_at kind) e'
silent_more d e e' kind b to is so_far next =
    leaves_to (omega arith)
    (leaves_join d 1536 (512 * b) 512 (silent_at kind) (block_byte (no_frames kind) 0) e e' so_far
    (subst (λ (j : ℕ). Leaves e j 512 (block_byte (no_frames kind) 0) e') is next)
    (λ k h. let byte : k ≡ (512 * b + k) % 512 = omega arith in ap (block_byte (no_frames kind) 0) byte))

pub silent_all : (header d e e' : List ℕ) (kind b : ℕ) → Leaves d 0 1536 (λ i. get_or header (0 + i) 0) e
    → Leaves e 1536 (512 * b) (silent_at kind) e' → Leaves d 0 (1536 + 512 * b) (file_byte header (no_frames kind)) e'
unfolding block_byte head_byte count_in first_in how_many
silent_all header d e e' kind b front rest =
    leaves_join d 0 1536 (512 * b) (file_byte header (no_frames kind)) (silent_at kind) e e'
    (leaves_as (file_byte header (no_frames kind))
    (λ k h. let there : 0 + k ≡ k = omega arith in ap (λ (j : ℕ). get_or header j 0) there ∙ sym (front_is header (no_frames kind) k h)) front)
    rest
    (λ k h.
    let there : 1536 + k ≡ block_at 1536 (k / 512) + k % 512 = omega arith in
    any_block kind (k / 512) (k % 512) ∙ sym (ap (file_byte header (no_frames kind)) there ∙ block_is header (no_frames kind) (k / 512) (k % 512) (omega arith)))
  where
    any_block : (kind b i : ℕ) → block_byte (no_frames kind) 0 i ≡ block_byte (no_frames kind) b i
    any_block kind b i = refl

-- a store counts one more frame
pub counts_later : (d : List ℕ) (q head c : ℕ) (swap : Bool) → head ≡ head_at q → head + 3 ≤ length d → c ≡ get_or d (head + 2) 0 → 0 < c
    → Counts d q swap (set d (head + 2) (c + 1))
counts_later d q head c swap is room stood some = rw (stood, is) (at_head (rw is at room) (omega (arith, stood, ap (λ (h : ℕ). get_or d (h + 2) 0) is)))
  where
    at_head : head_at q + 3 ≤ length d → 0 < get_or d (count_at q) 0 → Counts d q swap (set d (count_at q) (get_or d (count_at q) 0 + 1))
    at_head fits more =
        let zero : get_or d (count_at q) 0 ≡ 0 → ⊥ = λ e. omega arith in
        record {
          long = length-set d (count_at q) (get_or d (count_at q) 0 + 1);
          new = λ k h.
              by_equal k 2
              (λ e. rw e (get_or-set_same d (count_at q) (get_or d (count_at q) 0 + 1) 0 (omega arith)))
              (λ e.
              get_or-set_other d (count_at q) (head_at q + k) (get_or d (count_at q) 0 + 1) 0 (omega arith)
              ∙ simp (ne_eqb k 2 e, ne_eqb (get_or d (count_at q) 0) 0 zero));
          low = λ k h. get_or-set_other d (count_at q) k (get_or d (count_at q) 0 + 1) 0 (omega arith);
          high = λ k h. get_or-set_other d (count_at q) k (get_or d (count_at q) 0 + 1) 0 (omega arith);
        }

-- three tell of the first
pub counts_first : (d : List ℕ) (q head flag place : ℕ) (swap : Bool) → head ≡ head_at q → head + 3 ≤ length d → get_or d (head + 2) 0 ≡ 0
    → flag ≡ flag_byte swap → place ≡ place_byte q → Counts d q swap (set (set (set d head flag) (head + 1) place) (head + 2) 1)
counts_first d q head flag place swap is room none f p =
    let stood : get_or d (count_at q) 0 ≡ 0 = ap (λ (h : ℕ). get_or d (h + 2) 0) (sym is) ∙ none in
    subst (λ (h : ℕ). Leaves d h 3 (counted d q swap) (set (set (set d head flag) (head + 1) place) (head + 2) 1)) is
    (leaves_more d head 2 _ _ 1 (omega arith) (sym (ap (λ (c : ℕ). c + 1) stood))
    (leaves_more d head 1 _ _ place (omega arith) (simp (eq-eqb (get_or d (count_at q) 0) 0 stood) p)
    (leaves_first d head _ flag (omega arith) (simp (eq-eqb (get_or d (count_at q) 0) 0 stood) f))))

module _ (header : List ℕ) (l : Laid) where
  -- the file of no frame yet, in whatever blocks
  pub begun_is : l.many ≡ 0 → ((q : ℕ) → l.stream q ≡ 0) → (x : ℕ) → file_byte header (no_frames l.kind) x ≡ file_byte header l x
  unfolding count_in head_byte how_many
  begun_is none zeros x =
      by_part x (λ front. front_is header (no_frames l.kind) x front ∙ sym (front_is header l x front))
      (λ b i small is.
      rw is (head_is header (no_frames l.kind) b i small ∙ sym (head_is header l b i small ∙ simp (silent b))))
      (λ q is. rw is (body_is header (no_frames l.kind) q ∙ sym (body_is header l q ∙ zeros q)))
    where
      silent : (b : ℕ) → count_in l b ≡ 0
      silent b = none_such l.many (λ k. eqb (block_of l k) b) (λ k h. absurd (not-suc-le-zero (let less : k < 0 = omega arith in less)))

  module _ (d e e' : List ℕ) (held : Holds d header l e) where
    -- bytes put into the stream
    pub put_holds : (q n : ℕ) (f s : ℕ → ℕ) → q + n ≤ 506 * blocks_for l → ((i : ℕ) → i < n → s (q + i) ≡ f i)
        → ((x : ℕ) → (q ≤ x → x < q + n → ⊥) → s x ≡ l.stream x) → Puts e q n f e' → Holds d header (streaming l s) e'
    unfolding head_byte count_in first_in
    put_holds q n f s room these others put =
        record {
          long = put.long ∙ held.long;
          new = λ x h. let front : 0 + x ≡ x = omega arith in rw front (new x h);
          low = λ x h. absurd (not-suc-le-zero h);
          high = λ x h. put.kept x (λ i less same. omega arith) ∙ held.high x h;
        }
      where
        new : (x : ℕ) → x < size_for l → get_or e' x 0 ≡ file_byte header (streaming l s) x
        new x h =
            by_part x
            (λ front.
            put.kept x (λ i less same. omega arith)
            ∙ leaves_at held x h
            ∙ front_is header l x front
            ∙ sym (front_is header (streaming l s) x front))
            (λ b i small is.
            put.kept x (λ j less same. omega arith)
            ∙ leaves_at held x h
            ∙ ap (file_byte header l) is
            ∙ head_is header l b i small
            ∙ sym (head_is header (streaming l s) b i small)
            ∙ ap (file_byte header (streaming l s)) (sym is))
            (λ y is.
            let now : file_byte header (streaming l s) x ≡ s y = ap (file_byte header (streaming l s)) is ∙ body_is header (streaming l s) y in
            let outside : ((q ≤ y → y < q + n → ⊥) → get_or e' x 0 ≡ s y) =
            λ out.
            put.kept x (λ i less same. out (omega arith) (omega arith))
            ∙ leaves_at held x h
            ∙ ap (file_byte header l) is
            ∙ body_is header l y
            ∙ sym (others y out) in
            by_order y q (λ before. outside (λ from to. omega arith) ∙ sym now)
            (λ from.
            by_order y (q + n)
            (λ inside.
            let there : x ≡ file_of 1536 (q + (y - q)) = omega arith in
            let back : q + (y - q) ≡ y = omega arith in
            ap (λ (z : ℕ). get_or e' z 0) there ∙ put.put (y - q) (omega arith) ∙ sym (these (y - q) (omega arith)) ∙ ap s back ∙ sym now)
            (λ behind. outside (λ low high. omega arith) ∙ sym now)))

-- one frame more
module _ (l : Laid) (apart : Apart l.at) where
  abbrev here : ℕ
  here = block_of l l.many

  count_here : count_in (one_more l) here ≡ count_in l here + 1
  unfolding count_in how_many
  count_here = simp (eq-eqb here here refl)

  count_other : (b : ℕ) → (here ≡ b → ⊥) → count_in (one_more l) b ≡ count_in l b
  unfolding count_in how_many
  count_other b e = simp (ne_eqb here b e) (omega arith)

  first_upto : (b : ℕ) → b ≤ here → first_in (one_more l) b ≡ first_in l b
  unfolding first_in how_many
  first_upto b h = simp (le-ltb here b h) (omega arith)

  -- so far none begins in a later block
  none_later : (b : ℕ) → here < b → count_in l b ≡ 0
  none_later b h =
      by_order 0 (count_in l b)
      (λ some.
      let there = begins_in l apart b (first_in l b) (omega arith) (omega arith) in
      omega (arith, there, ascends l.at apart (first_in l b) l.many (omega (arith, first_more l b, (first_splits l apart (b + 1)).few))))
      (λ none. omega arith)

  -- if none does in its own, all of them begin before that
  all_before : count_in l here ≡ 0 → first_in l here ≡ l.many
  all_before none =
      by_order (first_in l here) l.many
      (λ less.
      omega (arith, (first_splits l apart (here + 1)).rest (first_in l here) (omega (arith, first_more l here)) less, ascends l.at apart (first_in l here) l.many (omega arith)))
      (λ all. omega (arith, (first_splits l apart here).few))

  -- the header of another block is as it was
  pub head_other : (b i : ℕ) → (here ≡ b → ⊥) → head_byte (one_more l) b i ≡ head_byte l b i
  unfolding head_byte
  head_other b i e =
      by_order here b
      (λ later. simp (count_other b e, none_later b later))
      (λ upto. simp (count_other b e, first_upto b upto))

  -- in that of its own the count is one more
  pub head_count : head_byte (one_more l) here 2 ≡ head_byte l here 2 + 1
  unfolding head_byte
  head_count = count_here

  -- bytes 0 and 1 tell of it if it is the first there
  pub head_first : head_byte l here 2 ≡ 0
      → (head_byte (one_more l) here 0 ≡ flag_byte (l.swap l.many)) × (head_byte (one_more l) here 1 ≡ place_byte (l.at l.many))
  unfolding head_byte
  head_first none =
      let some = lt-ltb 0 (count_in (one_more l) here) (omega (arith, count_here)) in
      let number : first_in (one_more l) here ≡ l.many = first_upto here (omega arith) ∙ all_before none in
      (simp (some, number), simp (some, number))

  -- and are else as they were
  pub head_later : (head_byte l here 2 ≡ 0 → ⊥) → (i : ℕ) → (i ≡ 2 → ⊥) → head_byte (one_more l) here i ≡ head_byte l here i
  unfolding head_byte
  head_later some i other =
      simp (ne_eqb i 2 other, lt-ltb 0 (count_in l here) (omega arith), lt-ltb 0 (count_in (one_more l) here) (omega (arith, count_here)), first_upto here (omega arith))

  -- as is the rest
  pub head_rest : (i : ℕ) → 3 ≤ i → head_byte (one_more l) here i ≡ head_byte l here i
  unfolding head_byte
  head_rest i h =
      let zero : i ≡ 0 → ⊥ = λ e. omega arith in
      let one : i ≡ 1 → ⊥ = λ e. omega arith in
      let two : i ≡ 2 → ⊥ = λ e. omega arith in
      simp (ne_eqb i 0 zero, ne_eqb i 1 one, ne_eqb i 2 two)

  module _ (header d e e' : List ℕ) (held : Holds d header l e) (inside : l.at l.many < 506 * blocks_for l)
      (counts : Counts e (l.at l.many) (l.swap l.many) e') where
    abbrev q : ℕ
    q = l.at l.many

    -- what stood in that header
    was : (i : ℕ) → i < 6 → get_or e (head_at q + i) 0 ≡ head_byte l here i
    was i h = leaves_at held (head_at q + i) (omega arith) ∙ head_is header l here i h

    -- and what stands in it now
    is_now : (i : ℕ) → i < 3 → counted e q (l.swap l.many) i ≡ head_byte (one_more l) here i
    is_now i h =
        by_equal i 2 (λ two. rw two (ap (λ (c : ℕ). c + 1) (was 2 (omega arith)) ∙ sym head_count))
        (λ other.
        by_equal (get_or e (count_at q) 0) 0
        (λ none.
        let first = head_first (sym (was 2 (omega arith)) ∙ none) in
        by_equal i 0 (λ zero. rw (zero, none) (sym first.0))
        (λ next. let one : i ≡ 1 = omega arith in rw (one, none) (sym first.1)))
        (λ some.
        simp (ne_eqb i 2 other, ne_eqb (get_or e (count_at q) 0) 0 some)
        (was i (omega arith) ∙ sym (head_later (λ none. some (was 2 (omega arith) ∙ none)) i other))))

    kept : (x : ℕ) → x < size_for l → (head_at q ≤ x → x < head_at q + 3 → ⊥) → get_or e' x 0 ≡ file_byte header l x
    kept x h outside = leaves_kept counts x outside ∙ leaves_at held x h

    new : (x : ℕ) → x < size_for l → get_or e' x 0 ≡ file_byte header (one_more l) x
    new x h =
        by_part x
        (λ front. kept x h (λ from to. omega arith) ∙ front_is header l x front ∙ sym (front_is header (one_more l) x front))
        (λ b i small is.
        let now : file_byte header (one_more l) x ≡ head_byte (one_more l) b i = ap (file_byte header (one_more l)) is ∙ head_is header (one_more l) b i small in
        let before : file_byte header l x ≡ head_byte l b i = ap (file_byte header l) is ∙ head_is header l b i small in
        by_equal here b
        (λ same.
        by_order i 3
        (λ few.
        let there : x ≡ head_at q + i = omega arith in
        ap (λ (y : ℕ). get_or e' y 0) there ∙ counts.new i few ∙ is_now i few ∙ ap (λ (c : ℕ). head_byte (one_more l) c i) same ∙ sym now)
        (λ rest.
        kept x h (λ from to. omega arith)
        ∙ before
        ∙ sym (ap (λ (c : ℕ). head_byte l c i) same)
        ∙ sym (head_rest i rest)
        ∙ ap (λ (c : ℕ). head_byte (one_more l) c i) same
        ∙ sym now))
        (λ other. kept x h (λ from to. other (omega arith)) ∙ before ∙ sym (head_other b i other) ∙ sym now))
        (λ y is.
        kept x h (λ from to. omega arith)
        ∙ ap (file_byte header l) is
        ∙ body_is header l y
        ∙ sym (body_is header (one_more l) y)
        ∙ ap (file_byte header (one_more l)) (sym is))

    pub count_holds : Holds d header (one_more l) e'
    count_holds =
        record {
          long = counts.long ∙ held.long;
          new = λ x h. let front : 0 + x ≡ x = omega arith in rw front (new x h);
          low = λ x h. absurd (not-suc-le-zero h);
          high = λ x h. leaves_kept counts x (λ from to. omega arith) ∙ held.high x h;
        }
