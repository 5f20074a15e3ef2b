-- Which numbers an admission refuses by: 1, 2 and 3, and 11 where one kind is asked for. So every whole call does.
-- Assumes nothing.
use Prim.Native.Nat.{ℕ, ◌*◌}
use mathlib.Core.Path.{refl}
use mathlib.Core.List.{List, [], ◌∷◌}
use mathlib.Core.Bool.{Bool, true, false}
use lib.ListN.{length, get_or}
use lib.Dec.{leb}
use Rattle.blocks.specs.Places.{limit}
use Rattle.refusals.specs.Said.{is_among, Numbered}
use Rattle.refusals.proofs.Numbered.{answered, refused, asked, goes_on, has_all, wider}
use Rattle.magic.specs.declared.Magic.{Magic}
use Rattle.magic.specs.declared.Magic.TheVariants.{Dss, Ds2, Grundig, Other}
use Rattle.magic.specs.Magics.{magic_of}
use Rattle.detect.specs.declared.Kind.{Kind}
use Rattle.detect.specs.Start.{audio_start}
use Rattle.detect.specs.Kinds.{read_as}
use Rattle.whole.specs.Admissions.{admission_at, admission_by, admission, type_in, of_kind, ds2_admission}

-- the numbers, in the order in which they are decided: not such a file, over the limit, a cut header; and another kind of DS2
abbrev pub file_refusals : List ℕ
file_refusals = 1 ∷ 2 ∷ 3 ∷ []

abbrev pub kind_refusals : List ℕ
kind_refusals = 1 ∷ 2 ∷ 3 ∷ 11 ∷ []

-- any admission
module _ (f : List ℕ) (dss ds2 : Bool) where
  at_start : (a : ℕ) → Numbered file_refusals (admission_at f a)
  unfolding admission_at is_among
  at_start a = asked (leb (length f) limit) 2 limit refl (asked (leb a (length f)) 3 a refl (answered _))

  by_magic : (m : Magic) → Numbered file_refusals (admission_by m f dss ds2)
  unfolding is_among
  by_magic Dss = asked dss 1 0 refl (at_start (512 * get_or f 0 0))
  by_magic Ds2 = asked ds2 1 0 refl (at_start (audio_start f))
  by_magic Grundig = refused 1 0 refl
  by_magic Other = refused 1 0 refl

  pub admitting : Numbered file_refusals (admission f dss ds2)
  unfolding admission
  admitting = by_magic (magic_of f)

-- and one of a kind
pub ds2_admitting : (f : List ℕ) (kind : Kind) → Numbered kind_refusals (ds2_admission f kind)
unfolding ds2_admission is_among has_all
ds2_admitting f kind =
    goes_on _ (of_kind f kind) (wider refl (admitting f false true))
    (λ rec. asked (read_as (type_in f rec) kind) 11 (type_in f rec) refl (answered rec))
