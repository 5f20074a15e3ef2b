-- A DS2 file that begins with 1 and one that begins with 3 are read alike: nothing of a reading depends on the first byte otherwise.
-- Assumes nothing.
use Prim.Native.Nat.{ℕ}
use mathlib.Core.Path.{◌≡◌, refl, ap, ◌∙◌}
use mathlib.Core.List.{List, ◌∷◌}
use native.Mathlib.Omega.{arith}
use Rattle.blocks.proofs.Alike.{AlikeFrom, header_alike, announced_alike, stream_alike}
use Rattle.refusals.specs.Said.{Said, answers, refusal}
use Rattle.whole.specs.declared.Recording.{Recording}
use Rattle.detect.specs.declared.Kind.TheVariants.{Sp}
use Rattle.detect.specs.Start.{audio_start}
use Rattle.whole.specs.Admissions.{ds2_admission}
use Rattle.whole.proofs.Admissions.{ds2_recording, ds2_admitted}
use Rattle.whole.proofs.Alike.{after_first, ds2_alike}
use Rattle.sp.specs.ReadLists.{ds2_runs}
use Rattle.sp.specs.Readings.{reading_of, read_by, ds2_reading}

-- files that are alike from the audio start on have the same reading
reading_alike : (a : ℕ) (f g : List ℕ) → AlikeFrom a f g → (n : ℕ)
    → reading_of f (record { start = record { 0 = a }; blocks = n }) ds2_runs ≡ reading_of g (record { start = record { 0 = a }; blocks = n }) ds2_runs
reading_alike a f g alike n = cc (stream_alike a f g alike n, announced_alike a f g alike n, header_alike a f g alike 0 0)

read_alike : (rest : List ℕ) (said : Said Recording) → ds2_admission (1 ∷ rest) Sp ≡ said → read_by (1 ∷ rest) said ds2_runs ≡ read_by (3 ∷ rest) said ds2_runs
unfolding audio_start
read_alike rest (refusal why) e = refl
read_alike rest (answers rec) e =
    let start : 0x600 ≡ rec.start.0 = ap (λ (r : Recording). r.start.0) (ds2_recording (1 ∷ rest) rec (ds2_admitted (1 ∷ rest) Sp rec e).0) in
    let alike = after_first 1 3 rest rec.start.0 (omega (arith, start)) in
    ap answers (reading_alike rec.start.0 (1 ∷ rest) (3 ∷ rest) alike rec.blocks)

-- Two files that differ only in their first byte, 1 and 3, have the same DS2 SP reading, refusals included.
pub one_and_three_alike : (rest : List ℕ) → ds2_reading (1 ∷ rest) ≡ ds2_reading (3 ∷ rest)
unfolding ds2_reading
one_and_three_alike rest =
    read_alike rest (ds2_admission (1 ∷ rest) Sp) refl ∙ ap (λ (said : Said Recording). read_by (3 ∷ rest) said ds2_runs) (ds2_alike rest Sp)
