-- Text put after text in a line, up to the equation for the whole line, and how long a line is at most.
-- Assumes nothing.
use Prim.Native.Nat.{ℕ, ◌+◌, ◌*◌, ◌^◌, ◌≤◌, ◌<◌}
use mathlib.Core.Path.{◌≡◌, refl, sym, ap, ◌∙◌, subst}
use mathlib.Core.List.{List, [], ◌∷◌, ◌++◌}
use mathlib.Core.Bool.{Bool, cond}
use native.Mathlib.Omega.{arith}
use borrow.Author.Tests.{le-leb, lt-leb}
use lib.ListN.{length, get_or, set, length-append, length-take, get_or-append}
use lib.Seq.{get_or-append-add}
use Rattle.tables.specs.Lent.{Leaves}
use Rattle.tables.proofs.Cases.{by_test}
use Rattle.tables.proofs.Lent.{leaves_as, leaves_to, leaves_first, leaves_join, leaves_over, over_long}
use Rattle.io.specs.Counts.{IsPrefixLen}
use Rattle.io.specs.Digits.{last_digits, IsDigitCount}
use Rattle.refusals.specs.declared.Numbers.{Numbers}
use Rattle.refusals.specs.Numbers.{record_refusals}
use Rattle.refusals.specs.Said.{Said, answers, refuses, refusal, is_among}
use Rattle.tally.specs.declared.FileKind.{FileKind}
use Rattle.tally.specs.declared.FileKind.TheVariants.{DssSp, Ds2Sp, Ds2Qp, Ds2Qp7}
use Rattle.tally.specs.declared.Figures.{Figures}
use Rattle.tally.specs.Tallies.{tallied}
use Rattle.listing.specs.Line.{name_of, spaced, spaced_all, lack_of, line_of, listed, list_line, Lists}
use Rattle.listing.specs.Inner.{Put}
use Rattle.listing.proofs.Decimal.{decimal_is, decimal_few}

-- text after text
pub put_join : {x y line line' line'' : List ℕ} {at between end : ℕ} → Put x at line line' between → Put y between line' line'' end
    → Put (x ++ y) at line line'' end
put_join {x} {y} {line} {line'} {line''} {at} {between} p q =
    record {
      bytes = leaves_to (sym (length-append x y))
          (leaves_join line at (length x) (length y) (λ k. get_or (x ++ y) k 0) (λ k. get_or y k 0) line' line''
          (leaves_as (λ k. get_or (x ++ y) k 0) (λ k h. sym (get_or-append x y 0 k h)) p.bytes)
          (subst (λ (a : ℕ). Leaves line' a (length y) (λ k. get_or y k 0) line'') p.end_is q.bytes)
          (λ k h. sym (get_or-append-add x y k 0)));
      end_is = simp length-append (omega (arith, p.end_is, q.end_is));
    }

-- numbers up to the line's end, and one more in front of them
pub put_end : {line line' : List ℕ} {at end : ℕ} → Put (10 ∷ []) at line line' end → Put (spaced_all []) at line line' end
unfolding spaced_all
put_end p = p

pub put_more : (n : ℕ) (rest : List ℕ) {line line' line'' : List ℕ} {at between end : ℕ} → Put (spaced n) at line line' between
    → Put (spaced_all rest) between line' line'' end → Put (spaced_all (n ∷ rest)) at line line'' end
unfolding spaced_all
put_more n rest p q = put_join p q

-- the end of a refusal's line, as the test for a record's has told
pub put_told : (why : Numbers) {line line' : List ℕ} {at end : ℕ} {of-record : Bool} → is_among record_refusals why.number ≡ of-record
    → Put (spaced_all (cond of-record (why.size ∷ why.absent ∷ []) [])) at line line' end → Put (spaced_all (lack_of why)) at line line' end
put_told why told p = rw told p

-- a text from the front on is the whole line
pub put_lists : {text line line' : List ℕ} {end : ℕ} → Put text 0 line line' end → Lists text line line' end
put_lists p = record { line_is = leaves_over p.bytes; long_is = p.end_is ∙ omega arith }

-- the room that is left after a text of at most so many bytes
pub room_after : {text line line' : List ℕ} {at end : ℕ} (most room : ℕ) → at + (most + room) ≤ length line
    → Put text at line line' end × (end ≤ at + most) → end + room ≤ length line'
room_after most room enough p = omega (arith, p.0.bytes.long)

-- a line stays as long as it was
pub lists_long : {text line line' : List ℕ} {long : ℕ} → Lists text line line' long → length line' ≡ length line
lists_long {text} {line} w = ap length w.line_is ∙ over_long (length text) _ line

-- a text that is copied
pub put_copied : {text line line' : List ℕ} {at : ℕ} (k : ℕ) → k ≡ length text → Leaves line at k (λ i. get_or text (0 + i) 0) line'
    → Put text at line line' (at + k)
put_copied {text} {at = at} k long w =
    record {
      bytes = leaves_to long
          (leaves_as (λ i. get_or text i 0)
          (λ i h. let front : 0 + i ≡ i = omega arith in ap (λ (j : ℕ). get_or text j 0) front) w);
      end_is = ap (λ (m : ℕ). at + m) long;
    }

-- a space is stored, and after it the digits that io gives are put
pub put_spaced : {text line line' : List ℕ} {at end : ℕ} (n k : ℕ) → at < length line → n < 2 ^ 64 → IsDigitCount 10 1 n k → text ≡ last_digits 10 k n
    → Put text (at + 1) (set line at 32) line' end → Put (spaced n) at line line' end
put_spaced {line = line} {line'} {at} {end} n k room small fewest spelt p =
    let space : Put (32 ∷ []) at line (set line at 32) (at + 1) = record { bytes = leaves_first line at _ 32 room refl; end_is = refl } in
    put_join space (subst (λ (l : List ℕ). Put l (at + 1) (set line at 32) line' end) (spelt ∙ decimal_is n k small fewest) p)

-- a kind's name has at most 6 letters
name_few : (kind : FileKind) → length (name_of kind) ≤ 6
name_few DssSp = omega arith
name_few Ds2Sp = omega arith
name_few Ds2Qp = omega arith
name_few Ds2Qp7 = omega arith

-- the name of the kind that a test told
pub put_named : {kind told : FileKind} {line line' : List ℕ} {end : ℕ} → kind ≡ told → Put (name_of told) 0 line line' end
    → Put (name_of kind) 0 line line' end × (end ≤ 6)
put_named {told = told} is p = (rw is p, omega (arith, p.end_is, name_few told))

-- a number and its space have at most 21 bytes, and the line's end is one
spaced_few : (numbers : List ℕ) → length (spaced_all numbers) ≤ 21 * length numbers + 1
unfolding spaced_all
spaced_few [] = omega arith
spaced_few (n ∷ rest) = simp length-append (omega (arith, decimal_few n, spaced_few rest))

-- a refusal has at most two numbers more
lack_few : (why : Numbers) → length (lack_of why) ≤ 2
lack_few why = by_test (is_among record_refusals why.number) (λ e. simp e (omega arith)) (λ e. simp e (omega arith))

-- a line has at most 133 bytes
said_few : (said : Said Figures) → length (line_of said) ≤ 133
said_few (answers t) =
    let numbers : List ℕ = t.start.0 ∷ t.blocks ∷ t.announced ∷ t.out.many ∷ t.out.short ∷ t.out.bytes ∷ [] in
    simp length-append (omega (arith, name_few t.kind, spaced_few numbers))
said_few (refusal why) = omega (arith, spaced_few (why.number ∷ why.beside ∷ lack_of why), lack_few why)

-- longer input is refused before any other check, and other input is tallied
pub too_long : (f : List ℕ) → 65536 < length f → listed f ≡ refuses 2 65536
too_long f h = simp (lt-leb (length f) 65536 h)

pub short_enough : (f : List ℕ) → length f ≤ 65536 → listed f ≡ tallied f
short_enough f h = simp (le-leb (length f) 65536 h)

-- what is said of a file, as its line in a buffer of 133 bytes
pub listed_as : (f : List ℕ) {line line' : List ℕ} {long : ℕ} {said : Said Figures} → listed f ≡ said → length line ≡ 133 → Lists (line_of said) line line' long
    → Lists (list_line f) line line' long × IsPrefixLen long line'
unfolding list_line
listed_as f {line} {line'} {long} {said} says room w =
    let few : long ≤ length line' = omega (arith, w.long_is, said_few said, lists_long w, room) in
    (subst (λ (said : Said Figures). Lists (line_of said) line line' long) (sym says) w, (few, omega (arith, length-take long line')))
