-- What holds of a segment's frames and of `fill` and `show` for every file and all lent memory, beyond the contracts or drawn from
-- them. Each statement stands under a sentence that says it; the laws that carry them are in the files beside this one. Assumes nothing.
use Prim.Native.Nat.{ℕ, ◌+◌, ◌*◌, ◌-◌, ◌≤◌}
use mathlib.Core.Path.{◌≡◌, refl, sym, ap, ◌∙◌}
use mathlib.Core.List.{List, []}
use mathlib.Core.Bool.{true, false}
use native.Mathlib.Omega.{arith}
use lib.ListN.{length, get_or, take, drop}
use Rattle.tables.specs.Settled.{SettledResult, SettledAs}
use Rattle.tables.specs.Table.{table}
use Rattle.blocks.specs.Places.{stream_at}
use Rattle.blocks.specs.Stream.{joined}
use Rattle.refusals.specs.declared.Numbers.{Numbers}
use Rattle.refusals.specs.Said.{Said, answers, refusal}
use Rattle.refusals.proofs.Said.{only_one}
use Rattle.whole.specs.declared.Recording.{Recording}
use Rattle.whole.specs.Admissions.{admission}
use Rattle.frames.specs.declared.Fetched.{Fetched}
use Rattle.frames.specs.declared.Fetched.TheVariants.{InFile, InScratch}
use Rattle.frames.specs.Fetch.{Stand, in_file, in_scratch, fetch_from, is_inside, fetched_says, shown, Fills}
use Rattle.frames.specs.Cut.{cut, fetched_bytes, fetched_frames}
use Rattle.refusals.proofs.Said.{by_said}
use Rattle.frames.proofs.Fetch.{fetched_from, filled_inside}
use Rattle.frames.proofs.Shown.{fetched_is, fetched_joined, shown_as, shown_not, shown_long, stand_refuses, filled_either, filled_keeps, filled_past}
use Rattle.frames.proofs.Cut.{fetched_cut}
use Rattle.frames.proofs.frame.Kinds as one
use Rattle.frames.proofs.frame.Reads as one-reads
use Rattle.frames.proofs.frame_place.Kinds as place
use Rattle.frames.proofs.frame_place.Reads as place-reads
use Rattle.frames.proofs.fill.Kinds as filling
use Rattle.frames.proofs.fill.Reads as filling-reads
use Rattle.frames.proofs.show.Kinds as part
use Rattle.frames.proofs.show.Reads as part-reads
use Rattle.std.specs.Prelude.{Result, Ok, Err}
use Rattle.refusals.specs.declared.Refusal.{Refusal}
use Rattle.refusals.proofs.Results.{refusal_from, refusal_back}

-- Where a frame can be fetched, `fill` and then `show` give the payload stream's bytes from its place on.
pub fill_then_show : (f : List ℕ) (rec : Recording) (q size : ℕ) (scratch : List ℕ) → fetch_from f q size (length scratch) ≡ answers rec
    → fetched_bytes f q size scratch ≡ table size (λ k. stream_at f rec.start.0 rec.blocks (q + k))
fill_then_show f rec q size scratch taken = fetched_is f rec q size scratch taken

-- These are a part of all payloads joined.
pub fill_then_show_joined : (f : List ℕ) (rec : Recording) (q size : ℕ) (scratch : List ℕ) → fetch_from f q size (length scratch) ≡ answers rec
    → fetched_bytes f q size scratch ≡ take size (drop q (joined f rec.start.0 rec.blocks))
fill_then_show_joined f rec q size scratch taken = fetched_joined f rec q size scratch taken

-- Where a frame can be fetched, `show` shows as many bytes as it has, whatever the scratch holds.
pub shows_its_size : (f : List ℕ) (rec : Recording) (q size : ℕ) (scratch : List ℕ) → fetch_from f q size (length scratch) ≡ answers rec
    → length (shown f q size scratch) ≡ size
shows_its_size f rec q size scratch taken =
    ap length (shown_as f q size scratch rec taken)
    ∙ shown_long f rec q size scratch (fetched_from f q size (length scratch) rec taken).1

-- `show` shows an empty part exactly when it refuses.
pub shows_nothing_exactly : (f : List ℕ) (q size : ℕ) (scratch : List ℕ)
    → ((why : Numbers) → fetch_from f q size (length scratch) ≡ refusal why → shown f q size scratch ≡ [])
    × (shown f q size scratch ≡ [] → (why : Numbers) × (fetch_from f q size (length scratch) ≡ refusal why))
shows_nothing_exactly f q size scratch = (
  (λ why e. shown_not f q size scratch why e),
  (λ empty.
      by_said (fetch_from f q size (length scratch))
      (λ rec said.
      let some = (fetched_from f q size (length scratch) rec said).1.some in
      absurd (omega (arith, some, ap length empty, shows_its_size f rec q size scratch said)))
      (λ why said. (why, said))),
)

module _ (f : List ℕ) (q size : ℕ) (scratch scratch' : List ℕ) (answer : Result Fetched Refusal) (d : Fills f q size scratch scratch' answer) where
  -- A refused `fill` changes nothing.
  pub refused_fill_changes_nothing : (why : Numbers) → fetched_says answer ≡ refusal why → scratch' ≡ scratch
  refused_fill_changes_nothing why e =
      d.scratch_is ∙ stand_refuses f q size scratch why (sym d.answer_is ∙ e)

  -- Nor does a `fill` for a frame inside one block.
  pub inside_fill_changes_nothing : is_inside q size ≡ true → scratch' ≡ scratch
  inside_fill_changes_nothing inside =
      d.scratch_is ∙ filled_either f q size scratch (λ (l : List ℕ). l ≡ scratch) refl (λ rec c. filled_inside f rec q size scratch inside)

  -- No `fill` changes a place of the scratch past the frame's size, nor the scratch's length.
  pub fill_writes_only_the_frame : ((k : ℕ) → size ≤ k → get_or scratch' k 0 ≡ get_or scratch k 0) × (length scratch' ≡ length scratch)
  fill_writes_only_the_frame = (
    (λ k past.
        ap (λ (l : List ℕ). get_or l k 0) d.scratch_is
        ∙ filled_either f q size scratch (λ (l : List ℕ). get_or l k 0 ≡ get_or scratch k 0) refl (λ rec c. filled_past f rec q size scratch c k past)),
    ap length d.scratch_is ∙ filled_keeps f q size scratch,
  )

-- The first n frames of a segment that lies in the stream, each found, filled and shown, are the segment's bytes cut by 56, at most n
-- parts, whatever the scratch holds before each.
pub frames_are_cut : (f : List ℕ) (rec : Recording) (scratch : ℕ → List ℕ) (start long n : ℕ) → admission f false true ≡ answers rec
    → start + long ≤ 506 * rec.blocks → ((k : ℕ) → 56 ≤ length (scratch k))
    → fetched_frames f scratch start long n 0 ≡ cut n (take long (drop start (joined f rec.start.0 rec.blocks)))
frames_are_cut f rec scratch start long n admitted there roomy =
    let size : long - 56 * 0 ≡ long = omega arith in
    let place : start + 56 * 0 ≡ start = omega arith in
    fetched_cut f rec scratch start long admitted there roomy n 0
    ∙ ap (λ (x : ℕ). cut n (take x (drop (start + 56 * 0) (joined f rec.start.0 rec.blocks)))) size
    ∙ ap (λ (x : ℕ). cut n (take long (drop x (joined f rec.start.0 rec.blocks)))) place

-- an answer is read back from what it says
fetched_read : Said Stand → Result Fetched Refusal
fetched_read (answers (in_file at)) = Ok (InFile (record { 0 = at }))
fetched_read (answers in_scratch) = Ok InScratch
fetched_read (refusal why) = Err (refusal_from why)

fetched_back : (x : Result Fetched Refusal) → fetched_read (fetched_says x) ≡ x
unfolding fetched_read
fetched_back (Ok (InFile at)) = refl
fetched_back (Ok InScratch) = refl
fetched_back (Err why) = ap (λ (w : Refusal). Err w) (refusal_back why)

-- Two outcomes of `frame` that its contract allows for the same arguments are equal. The contract is the one in the source, as the
-- check reads it.
pub frame_settled : SettledResult 0 one.ps one.r one-reads.Post
frame_settled κs a x y s t p q = p ∙ sym q

-- And so of `frame_place`.
pub frame_place_settled : SettledResult 1 place.ps place.r place-reads.Post
frame_place_settled κs a x y s t p q = only_one fetched_says fetched_read fetched_back x y _ p q

-- two outcomes of `fill` are the same: its answer and the scratch
pub only_filled : {f : List ℕ} {q size : ℕ} {scratch one' other' : List ℕ} {one other : Result Fetched Refusal} → Fills f q size scratch one' one
    → Fills f q size scratch other' other → ◌≡◌ {A = Result Fetched Refusal × List ℕ} (one, one') (other, other')
only_filled {one = one} {other = other} p q =
    let answer : one ≡ other = only_one fetched_says fetched_read fetched_back one other _ p.answer_is q.answer_is in
    cc (answer, p.scratch_is, q.scratch_is)

-- And so of `fill`: its answer and the scratch.
pub fill_settled : SettledAs 2 filling.ps filling.r (λ κs. Result Fetched Refusal × List ℕ) (λ κs x s. (x, s.1.1.1.0.now)) filling-reads.Post
fill_settled κs a x y s t p q = only_filled p q

-- And so of `show`: the bytes of the part.
pub show_settled : SettledAs 1 part.ps part.r (λ κs. List ℕ) (λ κs x s. x.now) part-reads.Post
show_settled κs a x y s t p q = p ∙ sym q
