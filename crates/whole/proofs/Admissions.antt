-- The ways of an admission, and what holds of a recording that was taken.
-- Assumes nothing.
use Prim.Native.Nat.{ℕ, ◌*◌, ◌≤◌, ◌<◌}
use mathlib.Core.Path.{◌≡◌, refl, ap, ◌∙◌, subst, sym}
use mathlib.Core.List.{List}
use mathlib.Core.Bool.{Bool, true, false}
use mathlib.Core.Logic.{◌⊎◌, inl, inr, ⊎_elim}
use native.Mathlib.Omega.{arith}
use borrow.Author.Tests.{leb-true, le-leb, lt-leb, lt-ltb}
use lib.ListN.{length, get_or}
use lib.Dec.{leb}
use Rattle.tables.proofs.Cases.{by_order}
use Rattle.blocks.specs.Places.{limit, whole_blocks}
use Rattle.refusals.specs.declared.Numbers.{Numbers}
use Rattle.refusals.specs.Said.{answers, refuses, demand, refusal}
use Rattle.refusals.proofs.Said.{passed, not_both, went_on}
use Rattle.detect.specs.declared.Kind.{Kind}
use Rattle.detect.specs.Kinds.{format_type, kind_of, read_as}
use Rattle.detect.specs.declared.Kind.TheVariants.{Sp}
use Rattle.detect.proofs.Types.{type_none}
use Rattle.magic.specs.declared.Magic.{Magic}
use Rattle.magic.specs.declared.Magic.TheVariants.{Dss, Ds2, Grundig, Other}
use Rattle.whole.specs.declared.Recording.{Recording}
use Rattle.magic.specs.Magics.{magic_of}
use Rattle.detect.specs.Start.{audio_start}
use Rattle.whole.specs.Admissions.{recording_at, admission_at, admission_by, admission, type_in, of_kind, ds2_admission, Sound}

-- the ways of an admission
module _ (f : List ℕ) (takes : Bool) (a : ℕ) where
  pub refused_1 : takes ≡ false → refuses 1 0 ≡ demand takes 1 0 (admission_at f a)
  refused_1 h = simp h

  pub refused_2 : takes ≡ true → limit < length f → refuses 2 limit ≡ demand takes 1 0 (admission_at f a)
  unfolding admission_at
  refused_2 h l = simp (h, lt-leb _ _ l)

  pub refused_3 : takes ≡ true → length f ≤ limit → length f < a → refuses 3 a ≡ demand takes 1 0 (admission_at f a)
  unfolding admission_at
  refused_3 h l s = simp (h, le-leb _ _ l, lt-leb _ _ s)

  pub admitted : takes ≡ true → length f ≤ limit → a ≤ length f → (n : ℕ) → n ≡ whole_blocks (length f) a
      → answers (record { start = record { 0 = a }; blocks = n }) ≡ demand takes 1 0 (admission_at f a)
  unfolding admission_at
  admitted h l s n e = simp (h, le-leb _ _ l, le-leb _ _ s, e)

-- a bare header is an empty recording, a cut one is refused
pub bare_header : (f : List ℕ) (a : ℕ) → length f ≤ limit → length f ≡ a
    → admission_at f a ≡ answers (record { start = record { 0 = a }; blocks = 0 })
bare_header f a few bare = sym (admitted f true a refl few (omega arith) 0 (omega arith))

pub cut_header : (f : List ℕ) (a : ℕ) → length f ≤ limit → length f < a → admission_at f a ≡ refuses 3 a
cut_header f a few cut = sym (refused_3 f true a refl few cut)

-- the recording is the one at the audio start, and its header is whole
recorded : (f : List ℕ) (a : ℕ) (rec : Recording) → admission_at f a ≡ answers rec
    → (recording_at f a ≡ rec) × (length f ≤ limit) × (a ≤ length f)
unfolding admission_at
recorded f a rec e =
    let under = passed (leb (length f) limit) 2 limit (demand (leb a (length f)) 3 a (answers (recording_at f a))) e in
    let header = passed (leb a (length f)) 3 a (answers (recording_at f a)) under.1 in
    (cc, leb-true (length f) limit under.0, leb-true a (length f) header.0)

sound_at : (f : List ℕ) (a : ℕ) (rec : Recording) → admission_at f a ≡ answers rec → Sound f rec
sound_at f a rec e =
    let r = recorded f a rec e in
    subst (Sound f) r.0 (record { whole = omega (arith, r.2); all = refl; within = r.1 })

-- a recording was admitted at DSS's start by a call that takes DSS, or at DS2's by one that takes DS2
admitted_by : (m : Magic) (f : List ℕ) (dss ds2 : Bool) (rec : Recording) → admission_by m f dss ds2 ≡ answers rec
    → ((dss ≡ true) × (admission_at f (512 * get_or f 0 0) ≡ answers rec)) ⊎ ((ds2 ≡ true) × (admission_at f (audio_start f) ≡ answers rec))
admitted_by Dss f dss ds2 rec e = inl (passed dss _ _ _ e)
admitted_by Ds2 f dss ds2 rec e = inr (passed ds2 _ _ _ e)
admitted_by Grundig f dss ds2 rec e = absurd (not_both e)
admitted_by Other f dss ds2 rec e = absurd (not_both e)

not_taken : false ≡ true → ⊥
not_taken e = let never : ◌≡◌ {A = ℕ} 0 1 = cc in omega arith

pub sound : (f : List ℕ) (dss ds2 : Bool) (rec : Recording) → admission f dss ds2 ≡ answers rec → Sound f rec
unfolding admission
sound f dss ds2 rec e =
    ⊎_elim (λ w. sound_at f _ rec w.1) (λ w. sound_at f _ rec w.1) (admitted_by (magic_of f) f dss ds2 rec e)

-- it has at most as many blocks as the limit allows
pub few_blocks : (f : List ℕ) (rec : Recording) → Sound f rec → rec.blocks ≤ 524288
few_blocks f rec s = omega (arith, s.all, s.within)

-- a file of a magic that the call takes
pub dss_at : (f : List ℕ) → magic_of f ≡ Dss → admission f true false ≡ admission_at f (512 * get_or f 0 0)
unfolding admission
dss_at f e = rw e

pub ds2_at : (f : List ℕ) → magic_of f ≡ Ds2 → admission f false true ≡ admission_at f (audio_start f)
unfolding admission
ds2_at f e = rw e

-- a file without a magic is refused by 1, whatever the call takes
pub no_magic : (f : List ℕ) (dss ds2 : Bool) → magic_of f ≡ Other → admission f dss ds2 ≡ refuses 1 0
unfolding admission
no_magic f dss ds2 e = rw e

-- where the audio of a recording starts
pub dss_recording : (f : List ℕ) (rec : Recording) → admission f true false ≡ answers rec → recording_at f (512 * get_or f 0 0) ≡ rec
unfolding admission
dss_recording f rec e =
    ⊎_elim (λ w. (recorded f _ rec w.1).0) (λ w. absurd (not_taken w.0)) (admitted_by (magic_of f) f true false rec e)

pub ds2_recording : (f : List ℕ) (rec : Recording) → admission f false true ≡ answers rec → recording_at f (audio_start f) ≡ rec
unfolding admission
ds2_recording f rec e =
    ⊎_elim (λ w. absurd (not_taken w.0)) (λ w. (recorded f _ rec w.1).0) (admitted_by (magic_of f) f false true rec e)

-- under 4 bytes nothing is taken
pub four_bytes : (f : List ℕ) (dss ds2 : Bool) (rec : Recording) → admission f dss ds2 ≡ answers rec → 4 ≤ length f
unfolding admission magic_of
four_bytes f dss ds2 rec e =
    by_order (length f) 4 (λ h. absurd (not_both {A = Recording} (none h))) (λ h. h)
  where
    none : length f < 4 → refuses 1 0 ≡ answers rec
    none h = let other : magic_of f ≡ Other = simp (lt-ltb (length f) 4 h) in ap (λ (m : Magic). admission_by m f dss ds2) (sym other) ∙ e

-- the ways of an admission to a DS2 reading of one kind
module _ (f : List ℕ) (kind : Kind) where
  pub ds2_refused : {why : Numbers} → refusal why ≡ admission f false true → refusal why ≡ ds2_admission f kind
  unfolding ds2_admission
  ds2_refused e = rw (← e)

  pub ds2_goes_on : (rec : Recording) → answers rec ≡ admission f false true → of_kind f kind rec ≡ ds2_admission f kind
  unfolding ds2_admission
  ds2_goes_on rec e = rw (← e)

  module _ (rec : Recording) (byte : ℕ) (read : byte ≡ type_in f rec) where
    pub of_that_kind : read_as byte kind ≡ true → answers rec ≡ of_kind f kind rec
    of_that_kind h = rw (← read) (simp h)

    pub of_another : read_as byte kind ≡ false → refuses 11 byte ≡ of_kind f kind rec
    of_another h = rw (← read) (simp h)

  -- a recording that was admitted is taken, if its type is read as that kind
  pub ds2_taken : (rec : Recording) → admission f false true ≡ answers rec → (byte : ℕ) → byte ≡ type_in f rec → read_as byte kind ≡ true
      → ds2_admission f kind ≡ answers rec
  ds2_taken rec taken byte read is = sym (ds2_goes_on rec (sym taken)) ∙ sym (of_that_kind rec byte read is)

  -- a recording that was taken was admitted, its type is of that kind, and it is sound
  pub ds2_admitted : (rec : Recording) → ds2_admission f kind ≡ answers rec
      → (admission f false true ≡ answers rec) × (read_as (type_in f rec) kind ≡ true) × Sound f rec
  unfolding ds2_admission
  ds2_admitted rec e =
      let w = went_on (admission f false true) (of_kind f kind) e in
      let test = passed (read_as (type_in f w.0) kind) 11 (type_in f w.0) (answers w.0) w.2 in
      let same : w.0 ≡ rec = cc in
      (rw (← same) w.1, rw (← same) test.0, sound f false true rec (rw (← same) w.1))

-- a file with no block is of type 0, and so of kind SP
pub empty_is_sp : (f : List ℕ) (rec : Recording) → admission f false true ≡ answers rec → rec.blocks ≡ 0 → ds2_admission f Sp ≡ answers rec
unfolding format_type kind_of
empty_is_sp f rec taken none =
    let silent : whole_blocks (length f) rec.start.0 ≡ 0 = sym (sound f false true rec taken).all ∙ none in
    let zero : type_in f rec ≡ 0 = type_none f rec.start.0 (whole_blocks (length f) rec.start.0) 0 silent in
    ds2_taken f Sp rec taken 0 (sym zero) refl
