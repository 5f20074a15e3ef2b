-- Where reading in pieces is to agree with the whole reading: the bytes joined carry the kind's magic, a full header, and for DS2 a first
-- byte of 1 or 3 and a type below 6. Assumes nothing.
use Rattle.std.specs.Prelude.{ℕ, ◌≤◌, ◌<◌, ◌≡◌, List, true, false, cond, length, get_or}
use Rattle.magic.specs.declared.Magic.TheVariants.{Dss, Ds2}
use Rattle.magic.specs.Magics.{magic_of}
use Rattle.refusals.specs.Said.{Said}
use Rattle.detect.specs.Kinds.{format_type}
use Rattle.sp.specs.Readings.{Reading, dss_reading, ds2_reading}
use Rattle.reader.specs.State.{is_dss, start_of}

-- the whole reading of a file as a kind
abbrev pub whole_reading : ℕ → List ℕ → Said Reading
whole_reading kind f = cond (is_dss kind) (dss_reading f) (ds2_reading f)

-- f is read as this kind; of DS2's first bytes 1, 3 and 7 the last is not among them
pub record Agrees (kind : ℕ) (f : List ℕ) : Type 0 where
  pub full : start_of kind ≤ length f
  pub dss : is_dss kind ≡ true → (magic_of f ≡ Dss) × (get_or f 0 0 ≡ kind)
  pub ds2 : is_dss kind ≡ false → (magic_of f ≡ Ds2) × (get_or f 0 0 < 7) × (format_type f 1536 < 6)
