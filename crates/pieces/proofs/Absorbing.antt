-- The block that is not whole: what a reader keeps of it, and the piece, make its bytes. And the blocks of a piece, one after another.
-- Assumes nothing.
use Prim.Native.Nat.{ℕ, ◌+◌, ◌-◌, ◌≤◌, ◌<◌, min}
use mathlib.Core.Path.{◌≡◌, sym, ap, ◌∙◌, subst}
use mathlib.Core.List.{List}
use mathlib.Core.Bool.{Bool}
use native.Mathlib.Omega.{arith}
use lib.ListN.{length, get_or, get_or-eq_default}
use Rattle.tables.specs.Lent.{Leaves}
use Rattle.tables.proofs.Cases.{by_order}
use Rattle.tables.proofs.Table.{length_table, table_at, is_table}
use Rattle.blocks.specs.Places.{whole_blocks, block_at}
use Rattle.hold.specs.declared.Standing.{Standing}
use Rattle.hold.specs.Ready.{reading_in, ready}
use Rattle.hold.specs.Inner.{PartWritten, brought, Next, Added}
use Rattle.hold.proofs.Front.{fits_each}
use Rattle.hold.proofs.Longer.{ready_grows_in}
use Rattle.hold.proofs.Partwise.{part_none, part_join}
use Rattle.pieces.specs.Joined.{bytes_from}
use Rattle.pieces.specs.Inner.{Joins, Able, Coming, Adding, Absorbed}

-- of the 512 bytes from a place on, `kept` are among those taken, and n more among the piece's, from its place `at` on, up to `end`
record Laid (taken place long kept end at n : ℕ) : Type 0 where
  stands : taken + at ≡ place + kept
  all : kept + n ≡ end
  within : end ≤ 512
  old : 0 < kept → place + kept ≤ taken
  new : 0 < n → at + n ≤ long
  full : end < 512 → taken + long ≤ place + end

laid : (taken place long kept end at n : ℕ) → taken ≤ place + 512 → kept ≡ taken - place → end ≡ min 512 (taken + long - place)
    → at ≡ place - taken → n ≡ end - kept → Laid taken place long kept end at n
laid taken place long kept end at n near kept_is end_is at_is n-is =
    record {
      stands = omega arith;
      all = omega arith;
      within = omega arith;
      old = λ some. omega arith;
      new = λ some. omega arith;
      full = λ less. omega arith;
    }

-- in front stands what was kept, then the piece's bytes, then zeros past the end of the bytes joined
module _ {partial copied cleared piece : List ℕ} {taken place kept end at n : ℕ} (long : length partial ≡ 512)
    (l : Laid taken place (length piece) kept end at n) (copy : Leaves partial kept n (λ k. get_or piece (at + k) 0) copied)
    (clear : Leaves copied end (512 - end) (λ k. 0) cleared) where
  renewed_by : (f : List ℕ) → Joins f partial piece taken place → cleared ≡ bytes_from f place
  unfolding bytes_from
  renewed_by f joins =
      is_table 512 (λ i. get_or f (place + i) 0) cleared (clear.long ∙ copy.long ∙ long)
      (λ k h.
      by_order k kept
      (λ first.
      clear.low k (omega (arith, l.all)) ∙ copy.low k first ∙ joins.old k (omega (arith, l.old (omega arith))))
      (λ after.
      by_order k end
      (λ inside.
      let i : ℕ = k - kept in
      let here : k ≡ kept + i = omega arith in
      let few : i < n = omega (arith, l.all) in
      let there : taken + (at + i) ≡ place + k = omega (arith, l.stands) in
      clear.low k inside
      ∙ ap (λ (j : ℕ). get_or copied j 0) here
      ∙ copy.new i few
      ∙ joins.new (at + i) (omega (arith, l.new (omega arith)))
      ∙ ap (λ (j : ℕ). get_or f j 0) there)
      (λ past.
      let here : k ≡ end + (k - end) = omega arith in
      ap (λ (j : ℕ). get_or cleared j 0) here
      ∙ clear.new (k - end) (omega arith)
      ∙ sym (get_or-eq_default f 0 (omega (arith, joins.long, l.full (omega arith)))))))

pub renewed : (partial copied cleared piece : List ℕ) (taken place kept end at n : ℕ) → length partial ≡ 512 → taken ≤ place + 512
    → kept ≡ taken - place → end ≡ min 512 (taken + length piece - place) → at ≡ place - taken → n ≡ end - kept
    → Leaves partial kept n (λ k. get_or piece (at + k) 0) copied
    → Leaves copied end (512 - end) (λ k. 0) cleared
    → (f : List ℕ) → Joins f partial piece taken place → cleared ≡ bytes_from f place
renewed partial copied cleared piece taken place kept end at n long near kept_is end_is at_is n-is copy clear =
    renewed_by long (laid taken place (length piece) kept end at n near kept_is end_is at_is n-is) copy clear

-- a block's bytes stand in a source
pub record Sourced (f : List ℕ) (place : ℕ) (source : List ℕ) (at : ℕ) : Type 0 where
  pub within : at + 512 ≤ length source
  pub is : (i : ℕ) → i < 512 → get_or source (at + i) 0 ≡ get_or f (place + i) 0

-- the block that comes
module _ {dss : Bool} {f : List ℕ} {a taken : ℕ} {was : Standing} {b number : ℕ} {hold partial waiting piece : List ℕ} {o c : ℕ}
    (g : Coming dss f a taken was b number hold partial waiting piece o c) where
  -- it lies in the piece
  pub in_piece : taken ≤ block_at a b → Sourced f (block_at a b) piece (block_at a b - taken)
  in_piece after =
      record {
        within = omega (arith, g.joins.long, g.there);
        is = λ i h.
            let place : taken + (block_at a b - taken + i) ≡ block_at a b + i = omega arith in
            g.joins.new (block_at a b - taken + i) (omega (arith, g.joins.long, g.there)) ∙ ap (λ (q : ℕ). get_or f q 0) place;
      }

  -- or what was kept is made anew
  pub in_partial : (renewed : List ℕ) → ((h : List ℕ) → Joins h partial piece taken (block_at a b) → renewed ≡ bytes_from h (block_at a b))
      → Sourced f (block_at a b) renewed 0
  unfolding bytes_from
  in_partial renewed made =
      record {
        within = omega (arith, ap length (made f g.joins), length_table 512 (λ i. get_or f (block_at a b + i) 0));
        is = λ i h.
            let front : 0 + i ≡ i = omega arith in
            ap (λ (q : ℕ). get_or renewed q 0) front ∙ ap (λ (l : List ℕ). get_or l i 0) (made f g.joins) ∙ table_at 512 _ i h;
      }

  -- from either it can be added
  pub next_from : {source : List ℕ} {at : ℕ} → Sourced f (block_at a b) source at → Next dss b number hold waiting was source at o c
  next_from s =
      record {
        f = f;
        a = a;
        n = whole_blocks (length f) a;
        bytes = g.bytes;
        whole = omega (arith, g.there);
        few = omega (arith, g.small);
        there = g.there;
        stands = g.stands;
        in_source = s.within;
        block_is = s.is;
        fits = g.fit;
        out_room = g.out_room;
        counts_room = g.counts_room;
      }

  pub added_from : {source : List ℕ} {at : ℕ} (s : Sourced f (block_at a b) source at) (hold' waiting' : List ℕ) (now : Standing)
      (out out' counts counts' : List ℕ)
      → ((n : Next dss b number hold waiting was source at o c)
      → Added dss n.f n.a n.n b number hold' waiting' now out out' counts counts')
      → Added dss f a (whole_blocks (length f) a) b number hold' waiting' now out out' counts counts'
  unfolding next_from
  added_from s hold' waiting' now out out' counts counts' law = law (next_from s)

-- the blocks of a piece, one after another
module _ (dss : Bool) (a taken : ℕ) (was : Standing) (hold partial waiting piece out counts : List ℕ) where
  -- the bytes joined, as far as the call knows them
  abbrev pub May : List ℕ → Type 0
  May f = Able dss f a taken was hold partial waiting piece (length out) (length counts)

  -- when the blocks before b have been added
  pub record Turns (b : ℕ) (hold' partial' waiting' : List ℕ) (now : Standing) (out' counts' : List ℕ) : Type 0 where
    pub begun : whole_blocks taken a ≤ b
    pub within : b ≤ whole_blocks (taken + length piece) a
    pub adding : (f : List ℕ) → May f → Adding dss f a taken b hold' waiting' now out out' counts counts'
    pub joins : (f : List ℕ) → May f → Joins f partial' piece taken (block_at a b)

module _ {dss : Bool} {a taken : ℕ} {was : Standing} {hold partial waiting piece out counts : List ℕ} where
  -- none has been yet
  pub turns_begin : (b : ℕ) → b ≡ whole_blocks taken a
      → Turns dss a taken was hold partial waiting piece out counts b hold partial waiting was out counts
  turns_begin b is =
      rw is
      (record {
        begun = omega arith;
        within = omega arith;
        adding = λ f m.
            let none : ready dss f a (whole_blocks taken a) - ready dss f a (whole_blocks taken a) ≡ 0 = omega arith in
            record {
              stands = record { hold_is = m.hold_is; waiting_is = m.known.waiting_is; numbers_are = m.known.numbers_are };
              written = rw none (part_none _ _ 0 was.carry out counts (ap (λ (s : Standing). s.carry) m.known.numbers_are));
            };
        joins = λ f m. m.known.joins;
      })

  module _ {b : ℕ} {hold' partial' waiting' : List ℕ} {now : Standing} {out' counts' : List ℕ}
      (v : Turns dss a taken was hold partial waiting piece out counts b hold' partial' waiting' now out' counts') where
    -- the lent buffers are as long as they were
    pub lent_long : {f : List ℕ} → May dss a taken was hold partial waiting piece out counts f
        → (length out' ≡ length out) × (length counts' ≡ length counts)
    lent_long {f} m = let w = (v.adding f m).written in (w.packets_are.long, w.counts_are.long)

    -- block b is the next
    module _ (more : b < whole_blocks (taken + length piece) a) {f : List ℕ} (m : May dss a taken was hold partial waiting piece out counts f) where
      had : was.ready ≡ ready dss f a (whole_blocks taken a)
      had = ap (λ (s : Standing). s.ready) m.known.numbers_are

      has : now.ready ≡ ready dss f a b
      has = ap (λ (s : Standing). s.ready) (v.adding f m).stands.numbers_are

      there : b < whole_blocks (length f) a
      there = omega (arith, m.known.joins.long)

      grown : ready dss f a (whole_blocks taken a) ≤ ready dss f a b
      grown = ready_grows_in dss f a (whole_blocks taken a) b (omega (arith, there, v.begun)) v.begun

      brings : ready dss f a b ≤ ready dss f a (b + 1)
      brings = ready_grows_in dss f a b (b + 1) (omega (arith, there)) (omega arith)

      all : ready dss f a (b + 1) ≤ ready dss f a (whole_blocks (length f) a)
      all = ready_grows_in dss f a (b + 1) (whole_blocks (length f) a) (omega (arith, there)) (omega (arith, there))

      pub ready_grown : was.ready ≤ now.ready
      ready_grown = omega (arith, had, has, grown)

      pub comes : Coming dss f a taken now b (now.ready - was.ready) hold' partial' waiting' piece (length out') (length counts')
      comes =
          record {
            joins = v.joins f m;
            bytes = m.known.bytes;
            small = m.known.small;
            there = there;
            near = omega (arith, v.begun);
            stands = (v.adding f m).stands;
            fit = fits_each dss f a (whole_blocks (length f) a) m.all_fit b there;
            out_room = omega (arith, had, has, grown, brings, all, (lent_long m).0, m.out_room);
            counts_room = omega (arith, had, has, grown, brings, all, (lent_long m).1, m.counts_room);
          }

      -- what it brings goes on from what came before
      adds : {hold'' waiting'' out'' counts'' : List ℕ} {next : Standing}
          → Added dss f a (whole_blocks (length f) a) b (now.ready - was.ready) hold'' waiting'' next out' out'' counts' counts''
          → Adding dss f a taken (b + 1) hold'' waiting'' next out out'' counts counts''
      adds {out'' = out''} {counts'' = counts''} {next = next} added =
          let reading = reading_in dss f a (whole_blocks (length f) a) in
          let k = ready dss f a (whole_blocks taken a) in
          let before : ℕ = ready dss f a b - k in
          let on : ready dss f a b ≡ k + before = omega (arith, grown) in
          let sum : ready dss f a (b + 1) - k ≡ before + brought dss f a b = omega (arith, grown, brings) in
          record {
            stands = added.stands;
            written =
                rw sum
                (part_join reading k before (brought dss f a b) 0 (now.ready - was.ready) _ _ _ _ _ _ _ _ (omega (arith, had, has))
                (v.adding f m).written
                (subst (λ (j : ℕ). PartWritten reading j (brought dss f a b) (now.ready - was.ready) out' out'' counts' counts'' next.carry)
                on added.written));
          }

    -- block b has been added
    pub turned : b < whole_blocks (taken + length piece) a → {hold'' partial'' waiting'' out'' counts'' : List ℕ} {next : Standing}
        → ((f : List ℕ) → Coming dss f a taken now b (now.ready - was.ready) hold' partial' waiting' piece (length out') (length counts')
        → Added dss f a (whole_blocks (length f) a) b (now.ready - was.ready) hold'' waiting'' next out' out'' counts' counts'')
        → Turns dss a taken was hold partial waiting piece out counts (b + 1) hold'' partial'' waiting'' next out'' counts''
    turned more added =
        record {
          begun = omega (arith, v.begun);
          within = omega arith;
          adding = λ f m. adds more m (added f (comes more m));
          joins = λ f m.
              record {
                long = m.known.joins.long;
                old = λ i h. absurd (omega (arith, v.begun));
                new = m.known.joins.new;
              };
        }

    -- all have been, and the bytes after them are kept
    pub absorbed : whole_blocks (taken + length piece) a ≤ b → (end : ℕ) → end ≡ whole_blocks (taken + length piece) a → (partial'' : List ℕ)
        → ((f : List ℕ) → Joins f partial' piece taken (block_at a end) → partial'' ≡ bytes_from f (block_at a end))
        → (f : List ℕ) → May dss a taken was hold partial waiting piece out counts f
        → Absorbed dss f a taken hold' partial'' waiting' now out out' counts counts'
    absorbed last end is partial'' kept f m =
        let here : b ≡ whole_blocks (length f) a = omega (arith, v.within, m.known.joins.long) in
        let there : end ≡ b = omega (arith, v.within) in
        record {
          added = subst (λ (n : ℕ). Adding dss f a taken n hold' waiting' now out out' counts counts') here (v.adding f m);
          partial_is =
              kept f (subst (λ (n : ℕ). Joins f partial' piece taken (block_at a n)) (sym there) (v.joins f m))
              ∙ ap (λ (n : ℕ). bytes_from f (block_at a n)) (there ∙ here);
        }
