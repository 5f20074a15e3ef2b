-- A file laid out is admitted, whatever was laid: its magic and audio start are the header's, and its blocks are those laid.
-- Assumes nothing.
use Prim.Native.Nat.{ℕ, ◌≤◌, ◌<◌}
use mathlib.Core.Path.{◌≡◌, refl, sym, ap, ◌∙◌}
use mathlib.Core.List.{List}
use mathlib.Core.Bool.{Bool, true, false, ◌||◌}
use mathlib.Core.Logic.{◌⊎◌, inl, inr, ⊎_elim}
use native.Mathlib.Omega.{arith}
use borrow.Author.Tests.{eqb-true, eq-eqb, ne_eqb, le-ltb}
use lib.ListN.{length, get_or}
use lib.Dec.{eqb}
use Rattle.tables.proofs.Tests.{both_hold}
use Rattle.blocks.specs.Places.{limit}
use Rattle.magic.specs.declared.Magic.TheVariants.{Ds2}
use Rattle.magic.specs.Magics.{magic_of, spells, ds2_by}
use Rattle.magic.proofs.Names.{ds2_spelt}
use Rattle.refusals.specs.Said.{answers}
use Rattle.detect.specs.Start.{audio_start}
use Rattle.detect.specs.Kinds.{read_as}
use Rattle.detect.specs.declared.Kind.{Kind}
use Rattle.whole.specs.declared.Recording.{Recording}
use Rattle.whole.specs.Admissions.{admission, admission_at, ds2_admission, type_in}
use Rattle.whole.proofs.Admissions.{admitted, ds2_at, ds2_taken}
use Rattle.laying.specs.Header.{is_header, Header}
use Rattle.laying.specs.Laid.{Laid, blocks_for, size_for, laid_file}
use Rattle.laying.proofs.Files.{file_long, header_at}

-- the recording that a file laid out has
abbrev pub recording_of : Laid → Recording
recording_of l = record { start = record { 0 = 1536 }; blocks = blocks_for l }

-- the first four bytes decide the magic
magic_kept : (f g : List ℕ) → 4 ≤ length f → 4 ≤ length g → ((i : ℕ) → i < 4 → get_or f i 0 ≡ get_or g i 0) → magic_of f ≡ magic_of g
unfolding magic_of spells
magic_kept f g one other same =
    let e₀ : get_or f 0 0 ≡ get_or g 0 0 = same 0 (omega arith) in
    let e₁ : get_or f 1 0 ≡ get_or g 1 0 = same 1 (omega arith) in
    let e₂ : get_or f 2 0 ≡ get_or g 2 0 = same 2 (omega arith) in
    let e₃ : get_or f 3 0 ≡ get_or g 3 0 = same 3 (omega arith) in
    rw (e₀, e₁, e₂, e₃) (simp (le-ltb (length f) 4 one, le-ltb (length g) 4 other))

one_holds : (a b : Bool) → (a || b) ≡ true → (a ≡ true) ⊎ (b ≡ true)
one_holds true b e = inl refl
one_holds false b e = inr e

begins : (header : List ℕ) (x : ℕ) → length header ≡ 1536 → get_or header 0 0 ≡ x → spells header 100 115 50 ≡ true → ds2_by x ≡ Ds2
    → x < 7 → Header header
unfolding magic_of spells
begins header x long first spelt by small =
    let three = both_hold _ _ spelt in
    let two = both_hold (eqb (get_or header 1 0) 100) _ three.0 in
    let e₁ : get_or header 1 0 ≡ 100 = eqb-true (get_or header 1 0) 100 two.0 in
    let e₂ : get_or header 2 0 ≡ 115 = eqb-true (get_or header 2 0) 115 two.1 in
    let e₃ : get_or header 3 0 ≡ 50 = eqb-true (get_or header 3 0) 50 three.1 in
    record { long = long; magic = rw (e₁, e₂, e₃, first, long) by; fixed = omega arith }

-- a header that a caller may supply is such
pub header_is : (header : List ℕ) → is_header header ≡ true → Header header
unfolding is_header ds2_by
header_is header is =
    let three = both_hold _ _ is in
    let two = both_hold (eqb (length header) 1536) _ three.0 in
    let long : length header ≡ 1536 = eqb-true (length header) 1536 two.0 in
    ⊎_elim (λ one. begins header 1 long (eqb-true (get_or header 0 0) 1 one) three.1 refl (omega arith))
    (λ other. begins header 3 long (eqb-true (get_or header 0 0) 3 other) three.1 refl (omega arith))
    (one_holds (eqb (get_or header 0 0) 1) (eqb (get_or header 0 0) 3) two.1)

-- and no other header is
first_is : (x : ℕ) → x < 7 → (eqb x 1 || eqb x 3 || eqb x 7) ≡ true → (eqb x 1 || eqb x 3) ≡ true
first_is x small is =
    ⊎_elim (λ one. one) (λ seven. absurd (omega (arith, eqb-true x 7 seven))) (one_holds (eqb x 1 || eqb x 3) (eqb x 7) is)

pub header_if : (header : List ℕ) → Header header → is_header header ≡ true
unfolding is_header
header_if header h =
    let spelt = ds2_spelt header h.magic in
    simp (eq-eqb (length header) 1536 h.long, first_is (get_or header 0 0) h.fixed spelt.1, spelt.0)

module _ (header : List ℕ) (l : Laid) (good : Header header) (small : size_for l ≤ limit) where
  pub magic_is : magic_of (laid_file header l) ≡ Ds2
  magic_is =
      magic_kept (laid_file header l) header (omega (arith, file_long header l)) (omega (arith, good.long))
      (λ i h. header_at header l i (omega arith))
      ∙ good.magic

  start_is : audio_start (laid_file header l) ≡ 1536
  unfolding audio_start
  start_is = simp (ne_eqb (get_or (laid_file header l) 0 0) 7 (λ e. omega (arith, good.fixed, header_at header l 0 (omega arith))))

  pub laid_admitted : admission (laid_file header l) false true ≡ answers (recording_of l)
  laid_admitted =
      ds2_at (laid_file header l) magic_is
      ∙ ap (admission_at (laid_file header l)) start_is
      ∙ sym (admitted (laid_file header l) true 1536 refl (omega (arith, file_long header l)) (omega (arith, file_long header l)) (blocks_for l) (omega (arith, file_long header l)))

  -- and taken by the reading of its kind
  pub laid_taken : (kind : Kind) → l.kind ≡ type_in (laid_file header l) (recording_of l) → read_as l.kind kind ≡ true
      → ds2_admission (laid_file header l) kind ≡ answers (recording_of l)
  laid_taken kind is read = ds2_taken (laid_file header l) kind (recording_of l) laid_admitted l.kind is read
