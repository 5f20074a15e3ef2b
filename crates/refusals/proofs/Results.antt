-- A refusal is known by its numbers, and so a call's answer by what it says: two that say the same are the same.
-- Assumes nothing.
use Rattle.std.specs.Prelude.{ℕ, ◌≡◌, List, true, false, cond, eqb, Result, Ok, Err}
use Rattle.std.specs.Result.{is_ok}
use Rattle.tables.proofs.Cases.{never}
use mathlib.Core.Path.{refl, ap, sym}
use Rattle.refusals.specs.declared.Refusal.{Refusal}
use Rattle.refusals.specs.declared.Refusal.TheVariants.{Magic, Limit, Header, Selector, Record, Ended, Overflow, Room, Segments, Kind, OtherKind, Absent, Inside, Owed, Supplied, Packet, TooLong, Beyond, Index, IndexVersion, IndexEntry, Choice}
use Rattle.refusals.specs.declared.Numbers.{Numbers}
use Rattle.refusals.specs.Numbers.{in_numbers}
use Rattle.refusals.specs.Said.{Said, answers, refusal, result_says}
use Rattle.refusals.proofs.Said.{only_one, only_outcome_of}

-- the refusal of some numbers
abbrev pub refusal_from : Numbers → Refusal
refusal_from why =
    cond (eqb why.number 1) Magic
    (cond (eqb why.number 2) (Limit why.beside)
    (cond (eqb why.number 3) (Header (record { 0 = why.beside }))
    (cond (eqb why.number 4) (Selector (record { 0 = why.beside }) why.absent)
    (cond (eqb why.number 5) (Record (record { 0 = why.beside }) why.size why.absent)
    (cond (eqb why.number 6) Ended
    (cond (eqb why.number 7) (Overflow why.beside)
    (cond (eqb why.number 8) (Room why.beside)
    (cond (eqb why.number 9) (Segments why.beside)
    (cond (eqb why.number 10) (Kind why.beside)
    (cond (eqb why.number 11) (OtherKind why.beside)
    (cond (eqb why.number 12) Absent
    (cond (eqb why.number 13) (Inside why.beside)
    (cond (eqb why.number 14) (Owed why.beside)
    (cond (eqb why.number 15) Supplied
    (cond (eqb why.number 16) (Packet why.beside)
    (cond (eqb why.number 17) (TooLong why.beside)
    (cond (eqb why.number 18) (Beyond why.beside)
    (cond (eqb why.number 19) Index
    (cond (eqb why.number 20) (IndexVersion why.beside)
    (cond (eqb why.number 21) (IndexEntry why.beside)
    Choice))))))))))))))))))))

pub refusal_back : (why : Refusal) → refusal_from (in_numbers why) ≡ why
refusal_back Magic = refl
refusal_back (Limit limit) = refl
refusal_back (Header start) = refl
refusal_back (Selector at absent) = refl
refusal_back (Record at size absent) = refl
refusal_back Ended = refl
refusal_back (Overflow hold) = refl
refusal_back (Room needed) = refl
refusal_back (Segments needed) = refl
refusal_back (Kind kind) = refl
refusal_back (OtherKind byte) = refl
refusal_back Absent = refl
refusal_back (Inside bytes) = refl
refusal_back (Owed frames) = refl
refusal_back Supplied = refl
refusal_back (Packet number) = refl
refusal_back (TooLong limit) = refl
refusal_back (Beyond total) = refl
refusal_back Index = refl
refusal_back (IndexVersion byte) = refl
refusal_back (IndexEntry number) = refl
refusal_back Choice = refl

-- the answer that says so
abbrev pub result_from : {A : Type 0} → Said A → Result A Refusal
result_from (answers a) = Ok a
result_from (refusal why) = Err (refusal_from why)

pub result_back : {A : Type 0} (x : Result A Refusal) → result_from (result_says x) ≡ x
result_back (Ok a) = refl
result_back (Err why) = ap (λ (w : Refusal). Err w) (refusal_back why)

pub only_result : {A : Type 0} (x y : Result A Refusal) (said : Said A) → result_says x ≡ said → result_says y ≡ said → x ≡ y
only_result x y said p q = only_one result_says result_from result_back x y said p q

pub only_result_with : {A : Type 0} {x y : Result A Refusal} {said : Said A} {a a' b b' m n : List ℕ} → result_says x ≡ said
    → result_says y ≡ said → a ≡ m → a' ≡ m → b ≡ n → b' ≡ n → ◌≡◌ {A = Result A Refusal × List ℕ × List ℕ} (x, a, b) (y, a', b')
only_result_with p q a a' b b' = only_outcome_of result_says result_from result_back p q a a' b b'

-- an `Ok` answers, and an `Err` refuses
pub ok_says : {A : Type 0} (x : Result A Refusal) → true ≡ is_ok x → (a : A) × (result_says x ≡ answers a)
ok_says (Ok a) e = (a, refl)
ok_says (Err why) e = absurd (never (sym e) refl)

pub err_says : {A : Type 0} (x : Result A Refusal) → false ≡ is_ok x → (why : Numbers) × (result_says x ≡ refusal why)
err_says (Ok a) e = absurd (never refl (sym e))
err_says (Err why) e = (in_numbers why, refl)
