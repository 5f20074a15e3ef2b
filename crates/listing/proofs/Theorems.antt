-- What holds of `list_line` for every file and every buffer, beyond the contract or drawn from it. Each statement stands under a sentence
-- that says it; the laws that carry them are in the files beside this one. Assumes nothing.
use Prim.Native.Nat.{ℕ, ◌≤◌, ◌<◌}
use mathlib.Core.Path.{◌≡◌, refl, sym, ap, ◌∙◌}
use mathlib.Core.List.{List, [], ◌∷◌, ◌++◌}
use mathlib.Core.Logic.{⊎_elim, inl, inr}
use borrow.Author.Tests.{ne_eqb}
use lib.ListN.{length}
use Rattle.tables.specs.Settled.{SettledAs}
use Rattle.refusals.specs.declared.Numbers.{Numbers}
use Rattle.refusals.specs.Numbers.{numbered, lacking, OfRecord}
use Rattle.refusals.specs.Said.{answers, refusal, is_among}
use Rattle.magic.specs.Withdrawn.{encrypted}
use Rattle.magic.proofs.Withdrawn.{encrypted_is_none}
use Rattle.tally.specs.declared.FileKind.TheVariants.{Ds2Qp}
use Rattle.tally.specs.Tallies.{tallied}
use Rattle.tally.proofs.Theorems.{no_magic_no_tally}
use Rattle.listing.specs.Decimal.{decimal_in}
use Rattle.listing.specs.Line.{refused_word, spaced_all, line_of, list_line, Lists}
use Rattle.listing.proofs.Text.{too_long, short_enough}
use Rattle.listing.proofs.list_line.Kinds as list-line
use Rattle.listing.proofs.list_line.Reads as list-line-reads

-- Of a file of more than 65,536 bytes the line is `refused 2 65536`, whatever the file holds.
pub longer_is_refused : (f : List ℕ) → 65536 < length f
    → list_line f ≡ refused_word ++ (32 ∷ 50 ∷ 32 ∷ 54 ∷ 53 ∷ 53 ∷ 51 ∷ 54 ∷ 10 ∷ [])
unfolding list_line spaced_all decimal_in is_among
longer_is_refused f h = ap line_of (too_long f h)

-- The figures of the format's own example have the line that stands there: `DS2QP 1536 1 12 10 1 506`.
pub example_line : line_of
    (answers (record { kind = Ds2Qp; start = record { 0 = 1536 }; blocks = 1; announced = 12; out = record { many = 10; short = 1; bytes = 506 } }))
    ≡ 68 ∷ 83 ∷ 50 ∷ 81 ∷ 80 ∷ 32 ∷ 49 ∷ 53 ∷ 51 ∷ 54 ∷ 32 ∷ 49 ∷ 32 ∷ 49 ∷ 50 ∷ 32 ∷ 49 ∷ 48 ∷ 32 ∷ 49 ∷ 32 ∷ 53 ∷ 48 ∷ 54 ∷ 10 ∷ []
unfolding spaced_all decimal_in
example_line = refl

-- The refusals of a record that is cut and of one that is not there have these lines: `refused 5 504 56 54` and `refused 4 506 0 2`.
pub example_refusals : (line_of (refusal (lacking 5 504 56 54))
    ≡ 114 ∷ 101 ∷ 102 ∷ 117 ∷ 115 ∷ 101 ∷ 100 ∷ 32 ∷ 53 ∷ 32 ∷ 53 ∷ 48 ∷ 52 ∷ 32 ∷ 53 ∷ 54 ∷ 32 ∷ 53 ∷ 52 ∷ 10 ∷ [])
    × (line_of (refusal (lacking 4 506 0 2))
    ≡ 114 ∷ 101 ∷ 102 ∷ 117 ∷ 115 ∷ 101 ∷ 100 ∷ 32 ∷ 52 ∷ 32 ∷ 53 ∷ 48 ∷ 54 ∷ 32 ∷ 48 ∷ 32 ∷ 50 ∷ 10 ∷ [])
unfolding spaced_all decimal_in is_among
example_refusals = (refl, refl)

-- The line of a file that the tally refuses by 4 or 5 has four numbers: the refusal's, the place, the record's size and the bytes that are
-- absent. By any other the line has two: the refusal's and the one beside it.
module _ (f : List ℕ) (few : length f ≤ 65536) (why : Numbers) (e : tallied f ≡ refusal why) where
  listed_so : list_line f ≡ line_of (refusal why)
  unfolding list_line
  listed_so = ap line_of (short_enough f few ∙ e)

  pub record_line : OfRecord why.number
      → list_line f ≡ refused_word ++ spaced_all (why.number ∷ why.beside ∷ why.size ∷ why.absent ∷ [])
  unfolding is_among
  record_line of-record = ⊎_elim (λ four. listed_so ∙ rw four) (λ five. listed_so ∙ rw five) of-record

  pub other_line : (OfRecord why.number → ⊥) → list_line f ≡ refused_word ++ spaced_all (why.number ∷ why.beside ∷ [])
  unfolding is_among
  other_line other =
      listed_so ∙ simp (ne_eqb 4 why.number (λ is. other (inl (sym is))), ne_eqb 5 why.number (λ is. other (inr (sym is))))

-- A file of at most 65,536 bytes that begins with 3 and `enc` has the line `refused 1 0`.
pub encrypted_line : (rest : List ℕ) → length (encrypted rest) ≤ 65536 → list_line (encrypted rest) ≡ refused_word ++ (32 ∷ 49 ∷ 32 ∷ 48 ∷ 10 ∷ [])
unfolding spaced_all decimal_in is_among
encrypted_line rest few =
    listed_so (encrypted rest) few (numbered 1 0) (no_magic_no_tally (encrypted rest) (encrypted_is_none rest))

-- what a call answers and leaves
abbrev Seen : Type 0
Seen = ℕ × List ℕ

only_line : {text line one other : List ℕ} {long more : ℕ} → Lists text line one long → Lists text line other more
    → ◌≡◌ {A = Seen} (long, one) (more, other)
only_line x y =
    let longs = x.long_is ∙ sym y.long_is in
    let lines = x.line_is ∙ sym y.line_is in cc

-- Two outcomes of `list_line` that its contract allows for the same arguments are equal, the buffer included. The contract is the one in the
-- source, as the check reads it.
pub list_line_settled : SettledAs 2 list-line.ps list-line.r (λ κs. Seen) (λ κs x s. (x, s.1.0.now)) list-line-reads.Post
list_line_settled κs a x y s t p q = only_line p.0 q.0
