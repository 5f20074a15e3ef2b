-- The ways of a detected format; which files are named by four bytes alone, and that a file of the encrypted recorders has no name.
-- Assumes nothing.
use Prim.Native.Nat.{ℕ, ◌+◌, ◌≤◌, ◌<◌}
use mathlib.Core.Path.{◌≡◌}
use mathlib.Core.List.{List}
use mathlib.Core.Bool.{and-false}
use borrow.Author.Tests.{lt-ltb, le-ltb}
use lib.ListN.{length}
use Rattle.magic.specs.declared.Magic.TheVariants.{Ds2}
use Rattle.detect.specs.declared.AudioFormat.TheVariants.{None, DssSp, GrundigSp}
use Rattle.detect.specs.Start.{audio_start}
use Rattle.detect.specs.Kinds.{format_type, format_of}
use Rattle.magic.specs.Beginnings.{dss_file}
use Rattle.magic.specs.Withdrawn.{encrypted}
use Rattle.magic.proofs.Beginnings.{dss_magics}
use Rattle.magic.proofs.Withdrawn.{encrypted_is_none}
use Rattle.detect.specs.Format.{format_by, detected}

-- DSS and Grundig files are named by their four bytes alone, whatever follows.
pub named_by_four : (rest : List ℕ)
    → (detected (dss_file 2 rest) ≡ DssSp) × (detected (dss_file 3 rest) ≡ DssSp) × (detected (dss_file 6 rest) ≡ GrundigSp)
unfolding detected format_by
named_by_four rest = let m = dss_magics rest in (rw m.0, rw m.1, rw m.2)

-- A file that begins with 3 and `enc` is not named, whatever follows and however much.
pub encrypted_unnamed : (rest : List ℕ) → detected (encrypted rest) ≡ None
unfolding detected format_by
encrypted_unnamed rest = rw (encrypted_is_none rest)

-- the ways of a DS2 file
module _ (f : List ℕ) where
  pub ds2_short : length f ≤ 0x604 → None ≡ format_by Ds2 f
  unfolding format_by
  ds2_short h = simp (le-ltb 0x604 (length f) h)

  pub ds2_cut : (a : ℕ) → a ≡ audio_start f → length f ≤ a + 4 → None ≡ format_by Ds2 f
  unfolding format_by
  ds2_cut a e h = simp (le-ltb (audio_start f + 4) (length f) (rw e at h), and-false)

  pub ds2_typed : (a t : ℕ) → 0x604 < length f → a ≡ audio_start f → a + 4 < length f → t ≡ format_type f a → format_of t ≡ format_by Ds2 f
  unfolding format_by
  ds2_typed a t h e l q =
      let type_is : t ≡ format_type f (audio_start f) = rw e at q in
      simp (type_is, lt-ltb 0x604 (length f) h, lt-ltb (audio_start f + 4) (length f) (rw e at l))
