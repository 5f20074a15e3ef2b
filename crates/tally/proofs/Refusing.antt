-- Which numbers the tally refuses by: those of its admission and of the walk over QP7 records, 1 to 5.
-- Assumes nothing.
use Prim.Native.Nat.{ℕ}
use mathlib.Core.Path.{refl}
use mathlib.Core.List.{List}
use mathlib.Core.Bool.{not}
use Rattle.refusals.specs.Said.{is_among, Numbered}
use Rattle.refusals.proofs.Numbered.{answered, goes_on, has_all, wider}
use Rattle.magic.specs.Magics.{names_dss}
use Rattle.whole.specs.declared.Recording.{Recording}
use Rattle.whole.specs.Admissions.{admission}
use Rattle.whole.proofs.Refusing.{admitting}
use Rattle.qp7.specs.Walk.{gathered_from}
use Rattle.qp7.proofs.Refusing.{gathering_all}
use Rattle.tally.specs.declared.FileKind.{FileKind}
use Rattle.tally.specs.declared.FileKind.TheVariants.{DssSp, Ds2Sp, Ds2Qp, Ds2Qp7}
use Rattle.tally.specs.Tallies.{handed_by, counted_as, kind_in, tallied, tally_refusals}

handing_out : (kind : FileKind) (f : List ℕ) (rec : Recording) → Numbered tally_refusals (handed_by kind f rec)
unfolding is_among has_all
handing_out DssSp f rec = answered _
handing_out Ds2Sp f rec = answered _
handing_out Ds2Qp f rec = answered _
handing_out Ds2Qp7 f rec = goes_on (gathered_from f rec) _ (wider refl (gathering_all f rec)) (λ g. answered _)

pub tallying : (f : List ℕ) → Numbered tally_refusals (tallied f)
unfolding tallied is_among has_all
tallying f =
    goes_on (admission f (names_dss f) (not (names_dss f))) (λ rec. counted_as (kind_in (names_dss f) f rec) f rec)
    (wider refl (admitting f (names_dss f) (not (names_dss f))))
    (λ rec. goes_on (handed_by (kind_in (names_dss f) f rec) f rec) _ (handing_out (kind_in (names_dss f) f rec) f rec) (λ out. answered _))
