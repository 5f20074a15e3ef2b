-- The line that `list` prints for a file of at most 65,536 bytes, from its tally; in ASCII, the line's end included.
-- Assumes nothing.
use Rattle.std.specs.Prelude.{ℕ, ◌≡◌, List, [], ◌∷◌, ◌++◌, cond, length, leb}
use Rattle.tables.specs.Entries.{fronted}
use Rattle.refusals.specs.declared.Numbers.{Numbers}
use Rattle.refusals.specs.Numbers.{record_refusals}
use Rattle.refusals.specs.Said.{Said, answers, refusal, demand, is_among}
use Rattle.tally.specs.declared.FileKind.{FileKind}
use Rattle.tally.specs.declared.FileKind.TheVariants.{DssSp, Ds2Sp, Ds2Qp, Ds2Qp7}
use Rattle.tally.specs.declared.Figures.{Figures}
use Rattle.tally.specs.Tallies.{tallied}
use Rattle.listing.specs.Decimal.{decimal}

-- DSSSP, DS2SP, DS2QP and DS2QP7
abbrev pub name_of : FileKind → List ℕ
name_of DssSp = 68 ∷ 83 ∷ 83 ∷ 83 ∷ 80 ∷ []
name_of Ds2Sp = 68 ∷ 83 ∷ 50 ∷ 83 ∷ 80 ∷ []
name_of Ds2Qp = 68 ∷ 83 ∷ 50 ∷ 81 ∷ 80 ∷ []
name_of Ds2Qp7 = 68 ∷ 83 ∷ 50 ∷ 81 ∷ 80 ∷ 55 ∷ []

-- refused
abbrev pub refused_word : List ℕ
refused_word = 114 ∷ 101 ∷ 102 ∷ 117 ∷ 115 ∷ 101 ∷ 100 ∷ []

-- a space and a number; and numbers one after another, up to the line's end
abbrev pub spaced : ℕ → List ℕ
spaced n = 32 ∷ decimal n

unfoldable pub spaced_all : List ℕ → List ℕ
spaced_all [] = 10 ∷ []
spaced_all (n ∷ rest) = spaced n ++ spaced_all rest

-- kind, audio start, blocks, announced, handed out, short among them, file bytes handed out
abbrev pub tally_line : Figures → List ℕ
tally_line t =
    name_of t.kind
    ++ spaced_all (t.start.0 ∷ t.blocks ∷ t.announced ∷ t.out.many ∷ t.out.short ∷ t.out.bytes ∷ [])

-- refused, its number, the number beside it; and of a record that cannot be read its size, and how many bytes are absent
abbrev pub lack_of : Numbers → List ℕ
lack_of why = cond (is_among record_refusals why.number) (why.size ∷ why.absent ∷ []) []

abbrev pub refused_line : Numbers → List ℕ
refused_line why = refused_word ++ spaced_all (why.number ∷ why.beside ∷ lack_of why)

abbrev pub line_of : Said Figures → List ℕ
line_of (answers t) = tally_line t
line_of (refusal why) = refused_line why

-- the most bytes that `list` takes, and what it says of any file: longer input is refused before any other check
abbrev pub most : ℕ
most = 65536

abbrev pub listed : List ℕ → Said Figures
listed f = demand (leb (length f) most) 2 most (tallied f)

unfoldable pub list_line : List ℕ → List ℕ
list_line f = line_of (listed f)

-- a whole line stands at the front of the buffer, what lies past it is as it was, and the answer is how long it is
pub record Lists (text line line' : List ℕ) (long : ℕ) : Type 0 where
  pub line_is : line' ≡ fronted text line
  pub long_is : long ≡ length text
