-- What of an admission does not depend on: the first byte, 1 or 3, of a DS2 file; and how long a file grows whose first byte is not 7.
-- Assumes nothing.
use Prim.Native.Nat.{ℕ, zero, suc, ◌+◌, ◌≤◌}
use mathlib.Core.Path.{◌≡◌, refl, sym, ap}
use mathlib.Core.List.{List, ◌∷◌, ◌++◌}
use mathlib.Core.Bool.{Bool, true, false, cond}
use native.Mathlib.Nat.{not-suc-le-zero}
use native.Mathlib.Omega.{arith}
use borrow.Author.Tests.{ne_eqb}
use lib.ListN.{length, get_or, get_or-append}
use lib.Dec.{ltb}
use Rattle.blocks.specs.Places.{whole_blocks}
use Rattle.blocks.proofs.Alike.{AlikeFrom, header_alike}
use Rattle.refusals.specs.Said.{answers, demand}
use Rattle.refusals.proofs.Said.{by_said}
use Rattle.magic.specs.declared.Magic.TheVariants.{Other}
use Rattle.magic.specs.Magics.{spells, dss_by, ds2_by, magic_of}
use Rattle.detect.specs.declared.Kind.{Kind}
use Rattle.detect.specs.Start.{audio_start}
use Rattle.detect.specs.Kinds.{first_type, format_type, read_as}
use Rattle.whole.specs.declared.Recording.{Recording}
use Rattle.whole.specs.Admissions.{admission_at, admission_by, admission, type_in, of_kind, ds2_admission}
use Rattle.whole.proofs.Admissions.{ds2_recording}

-- after the first byte two files that differ only in it are alike
pub after_first : (x y : ℕ) (rest : List ℕ) (a : ℕ) → 1 ≤ a → AlikeFrom a (x ∷ rest) (y ∷ rest)
after_first x y rest a past zero h = let never : 1 ≤ zero = omega arith in absurd (not-suc-le-zero never)
after_first x y rest a past (suc i) h = refl

-- alike from the audio start on, and equally long: the same type, and the same kind
module _ (a : ℕ) (f g : List ℕ) (alike : AlikeFrom a f g) where
  first_type_alike : (n b : ℕ) → first_type f a n b ≡ first_type g a n b
  unfolding first_type
  first_type_alike zero b = refl
  first_type_alike (suc n) b = cc (header_alike a f g alike b 2, header_alike a f g alike b 4, first_type_alike n (b + 1))

  type_alike : length f ≡ length g → (rec : Recording) → rec.start.0 ≡ a → type_in f rec ≡ type_in g rec
  unfolding format_type
  type_alike long rec start = rw (long, start) (first_type_alike (whole_blocks (length g) a) 0)

  pub kind_alike : length f ≡ length g → (kind : Kind) (n : ℕ)
      → of_kind f kind (record { start = record { 0 = a }; blocks = n }) ≡ of_kind g kind (record { start = record { 0 = a }; blocks = n })
  unfolding format_type
  kind_alike long kind n = rw long (cc (first_type_alike (whole_blocks (length g) a) 0))

-- a file that begins with 1 and one that begins with 3 are both admitted as DS2 files, or both refused
by_tests : (short dss ds2 : Bool) (rest : List ℕ)
    → admission_by (cond short Other (cond dss (dss_by 1) (cond ds2 (ds2_by 1) Other))) (1 ∷ rest) false true
    ≡ admission_by (cond short Other (cond dss (dss_by 3) (cond ds2 (ds2_by 3) Other))) (3 ∷ rest) false true
unfolding dss_by ds2_by audio_start admission_at
by_tests true dss ds2 rest = refl
by_tests false true ds2 rest = refl
by_tests false false true rest = refl
by_tests false false false rest = refl

pub admitted_alike : (rest : List ℕ) → admission (1 ∷ rest) false true ≡ admission (3 ∷ rest) false true
unfolding admission magic_of spells
admitted_alike rest =
    let f : List ℕ = 1 ∷ rest in
    by_tests (ltb (length f) 4) (spells f 100 115 115) (spells f 100 115 50) rest

-- and so they are by the reading of a kind
pub ds2_alike : (rest : List ℕ) (kind : Kind) → ds2_admission (1 ∷ rest) kind ≡ ds2_admission (3 ∷ rest) kind
unfolding ds2_admission audio_start
ds2_alike rest kind =
    by_said (admission (1 ∷ rest) false true)
    (λ rec e.
    let start : 0x600 ≡ rec.start.0 = ap (λ (r : Recording). r.start.0) (ds2_recording (1 ∷ rest) rec e) in
    let same = type_alike 0x600 (1 ∷ rest) (3 ∷ rest) (after_first 1 3 rest 0x600 (omega arith)) refl rec (sym start) in
    rw (← admitted_alike rest, e) (ap (λ (t : ℕ). demand (read_as t kind) 11 t (answers rec)) same))
    (λ why e. rw (← admitted_alike rest, e))

-- a DS2 file whose first byte is not 7 has the same audio start however long it grows
pub start_stays : (f p : List ℕ) → 1 ≤ length f → (get_or f 0 0 ≡ 7 → ⊥) → audio_start f ≡ audio_start (f ++ p)
unfolding audio_start
start_stays f p some not-7 =
    let first : get_or (f ++ p) 0 0 ≡ get_or f 0 0 = get_or-append f p 0 0 (omega arith) in
    rw first (simp (ne_eqb (get_or f 0 0) 7 not-7))
