-- What is filled and what is shown, by what the request says: a frame that can be fetched is shown as the payload stream's bytes.
-- Assumes nothing.
use Prim.Native.Nat.{ℕ, ◌+◌, ◌*◌, ◌%◌, ◌≤◌, ◌<◌}
use mathlib.Core.Path.{◌≡◌, refl, sym, ap, ◌∙◌}
use mathlib.Core.List.{List, []}
use mathlib.Core.Bool.{true, false}
use native.Mathlib.Omega.{arith}
use borrow.Author.Tests.{le-leb, leb-true}
use lib.ListN.{length, get_or, take, drop, length-drop}
use lib.Seq.{length-take-le, get_or-take, get_or-drop}
use Rattle.tables.specs.Table.{table}
use Rattle.tables.specs.Lent.{over}
use Rattle.tables.proofs.Table.{is_table, length_table}
use Rattle.tables.proofs.Lent.{over_long, over_in, over_leaves}
use Rattle.blocks.specs.Places.{file_of, stream_at}
use Rattle.blocks.specs.Stream.{joined}
use Rattle.blocks.proofs.Stream.{stream_part, together}
use Rattle.refusals.specs.declared.Numbers.{Numbers}
use Rattle.refusals.specs.Said.{answers, refusal}
use Rattle.refusals.proofs.Said.{not_both}
use Rattle.whole.specs.declared.Recording.{Recording}
use Rattle.whole.specs.Admissions.{admission}
use Rattle.frames.specs.Fetch.{can_fetch, fetch_from, is_inside, standing, filled_from, filled, shown_from, shown}
use Rattle.frames.specs.Inner.{Fetchable}
use Rattle.tables.proofs.Cases.{by_test}
use Rattle.refusals.proofs.Said.{by_said}
use Rattle.frames.proofs.Fetch.{room_decides, goes_on, fetch_asks, fetched_from, stand_is, filled_long}

-- the stream's bytes from a place on
abbrev stream_from : List ℕ → Recording → ℕ → ℕ → ℕ
stream_from f rec q k = stream_at f rec.start.0 rec.blocks (q + k)

-- a frame of an admitted file that lies in the stream can be fetched
pub can_be_fetched : (f : List ℕ) (rec : Recording) (q size room : ℕ) → admission f false true ≡ answers rec → 0 < size → size ≤ 56
    → q + size ≤ 506 * rec.blocks → 56 ≤ room → fetch_from f q size room ≡ answers rec
can_be_fetched f rec q size room admitted some most there roomy =
    let can : can_fetch rec.blocks q size room ≡ true = sym (room_decides rec.blocks q size room some most there) ∙ le-leb 56 room roomy in
    sym (fetch_asks f q size room rec (sym admitted) (goes_on (answers rec) refl can))

-- where a frame can be fetched
module _ (f : List ℕ) (rec : Recording) (q size : ℕ) (scratch : List ℕ) (c : Fetchable f rec q size (length scratch)) where
  -- inside one block the frame stands in the file
  in_file_shown : is_inside q size ≡ true → take size (drop (file_of rec.start.0 q) f) ≡ table size (stream_from f rec q)
  in_file_shown h =
      let near : q % 506 + size ≤ 506 = leb-true (q % 506 + size) 506 h in
      is_table size (stream_from f rec q) (take size (drop (file_of rec.start.0 q) f))
      (length-take-le size (drop (file_of rec.start.0 q) f) (simp length-drop (omega (arith, c.whole, c.some, c.there))))
      (λ k l.
      get_or-take size (drop (file_of rec.start.0 q) f) k 0 l ∙ get_or-drop (file_of rec.start.0 q) f k 0
      ∙ together f rec.start.0 rec.blocks q k (omega (arith, c.some, c.there)) (omega arith))

  -- across blocks it stands in the scratch
  in_scratch_shown : take size (over size (stream_from f rec q) scratch) ≡ table size (stream_from f rec q)
  in_scratch_shown =
      is_table size (stream_from f rec q) (take size (over size (stream_from f rec q) scratch))
      (length-take-le size (over size (stream_from f rec q) scratch) (omega (arith, over_long size (stream_from f rec q) scratch, c.most, c.roomy)))
      (λ k l.
      get_or-take size (over size (stream_from f rec q) scratch) k 0 l
      ∙ over_in size (stream_from f rec q) scratch k l (omega (arith, c.most, c.roomy)))

  -- filled and then shown, it is the stream's bytes
  filled_then_shown : shown_from f rec q size (filled_from f rec q size scratch) ≡ table size (stream_from f rec q)
  filled_then_shown =
      by_test (is_inside q size) (λ h. simp h (in_file_shown h)) (λ h. simp h in_scratch_shown)

  -- as many bytes are shown, whatever the scratch holds
  pub shown_long : length (shown_from f rec q size scratch) ≡ size
  shown_long =
      by_test (is_inside q size) (λ h. simp h (ap length (in_file_shown h) ∙ length_table size (stream_from f rec q)))
      (λ h. simp h (length-take-le size scratch (omega (arith, c.most, c.roomy))))

  -- the scratch past the frame is as it was
  pub filled_past : (k : ℕ) → size ≤ k → get_or (filled_from f rec q size scratch) k 0 ≡ get_or scratch k 0
  filled_past k past =
      by_test (is_inside q size) (λ h. simp h)
      (λ h. simp h ((over_leaves size (stream_from f rec q) scratch (omega (arith, c.most, c.roomy))).high k (omega arith)))

-- by what the request says
module _ (f : List ℕ) (q size : ℕ) (scratch : List ℕ) where
  filled_as : (rec : Recording) → fetch_from f q size (length scratch) ≡ answers rec → filled f q size scratch ≡ filled_from f rec q size scratch
  unfolding filled
  filled_as rec e = rw e

  filled_not : (why : Numbers) → fetch_from f q size (length scratch) ≡ refusal why → filled f q size scratch ≡ scratch
  unfolding filled
  filled_not why e = rw e

  pub shown_as : (rec : Recording) → fetch_from f q size (length scratch) ≡ answers rec → shown f q size scratch ≡ shown_from f rec q size scratch
  unfolding shown
  shown_as rec e = rw e

  pub shown_not : (why : Numbers) → fetch_from f q size (length scratch) ≡ refusal why → shown f q size scratch ≡ []
  unfolding shown
  shown_not why e = rw e

  -- where the stand is a refusal, nothing is filled
  pub stand_refuses : (why : Numbers) → standing (fetch_from f q size (length scratch)) q size ≡ refusal why → filled f q size scratch ≡ scratch
  stand_refuses why e =
      by_said (fetch_from f q size (length scratch)) (λ rec said. absurd (not_both (sym e ∙ sym (stand_is f q size (length scratch) rec (sym said))))) (λ w said. filled_not w said)

  -- what holds of the filled scratch, if it holds of the two ways
  pub filled_either : (P : List ℕ → Type 0) → P scratch
      → ((rec : Recording) → Fetchable f rec q size (length scratch) → P (filled_from f rec q size scratch)) → P (filled f q size scratch)
  filled_either P kept written =
      by_said (fetch_from f q size (length scratch))
      (λ rec said. rw (filled_as rec said) (written rec (fetched_from f q size (length scratch) rec said).1))
      (λ w said. rw (filled_not w said) kept)

  -- refused or not, the scratch stays as long as it is
  pub filled_keeps : length (filled f q size scratch) ≡ length scratch
  filled_keeps = filled_either (λ (l : List ℕ). length l ≡ length scratch) refl (λ rec c. filled_long f rec q size scratch)

  -- so the second call answers as the first
  asked_again : (rec : Recording) → fetch_from f q size (length scratch) ≡ answers rec
      → fetch_from f q size (length (filled f q size scratch)) ≡ answers rec
  asked_again rec e = rw filled_keeps e

-- what the second call shows after the first, as the stream's bytes and as a part of the payloads joined
module _ (f : List ℕ) (rec : Recording) (q size : ℕ) (scratch : List ℕ) (taken : fetch_from f q size (length scratch) ≡ answers rec) where
  pub fetched_is : shown f q size (filled f q size scratch) ≡ table size (stream_from f rec q)
  fetched_is =
      shown_as f q size (filled f q size scratch) rec (asked_again f q size scratch rec taken)
      ∙ ap (shown_from f rec q size) (filled_as f q size scratch rec taken)
      ∙ filled_then_shown f rec q size scratch (fetched_from f q size (length scratch) rec taken).1

  pub fetched_joined : shown f q size (filled f q size scratch) ≡ take size (drop q (joined f rec.start.0 rec.blocks))
  fetched_joined =
      let c = (fetched_from f q size (length scratch) rec taken).1 in
      fetched_is ∙ stream_part f rec.start.0 rec.blocks q size c.whole c.there
