-- Which numbers a call refuses by, and that only a record lacks something, from its parts: an answer, a refusal, a test, and what goes on.
-- Assumes nothing.
use Prim.Native.Nat.{ℕ}
use mathlib.Core.Path.{◌≡◌, refl, sym, ap, subst}
use mathlib.Core.List.{List, [], ◌∷◌}
use mathlib.Core.Bool.{Bool, true, false, cond}
use mathlib.Core.Logic.{⊎_elim}
use borrow.Author.Tests.{eqb-true}
use lib.Dec.{eqb}
use Rattle.tables.proofs.Cases.{by_test, never}
use Rattle.refusals.specs.declared.Numbers.{Numbers}
use Rattle.refusals.specs.Numbers.{numbered, OfRecord, OnlyRecordsLack}
use Rattle.refusals.specs.Said.{Said, answers, refuses, refusal, demand, demand_by, onward, is_among, Numbered}
use Rattle.refusals.proofs.Said.{not_both}

module _ {A : Type 0} {numbers : List ℕ} where
  pub answered : (a : A) → Numbered numbers (answers a)
  answered a = record { among = λ why e. absurd (not_both (sym e)); only_records_lack = λ why e. absurd (not_both (sym e)) }

  pub refused_so : (why : Numbers) → is_among numbers why.number ≡ true → OnlyRecordsLack why → Numbered {A = A} numbers (refusal why)
  refused_so why there lacks =
      record {
        among = λ other e. let same : why ≡ other = cc in subst (λ (w : Numbers). is_among numbers w.number ≡ true) same there;
        only_records_lack = λ other e. let same : why ≡ other = cc in subst OnlyRecordsLack same lacks;
      }

  pub refused : (number beside : ℕ) → is_among numbers number ≡ true → Numbered {A = A} numbers (refuses number beside)
  refused number beside there = refused_so (numbered number beside) there (λ other. (refl, refl))

  pub asked_by : (test : Bool) (why : Numbers) {rest : Said A} → is_among numbers why.number ≡ true → OnlyRecordsLack why → Numbered numbers rest
      → Numbered numbers (demand_by test why rest)
  asked_by true why there lacks then = then
  asked_by false why there lacks then = refused_so why there lacks

  pub asked : (test : Bool) (number beside : ℕ) {rest : Said A} → is_among numbers number ≡ true → Numbered numbers rest
      → Numbered numbers (demand test number beside rest)
  asked test number beside there then = asked_by test (numbered number beside) there (λ other. (refl, refl)) then

pub goes_on : {A B : Type 0} {numbers : List ℕ} (said : Said A) (rest : A → Said B) → Numbered numbers said
    → ((a : A) → Numbered numbers (rest a)) → Numbered numbers (onward said rest)
goes_on (answers a) rest first then = then a
goes_on (refusal why) rest first then =
    record {
      among = λ other e. let same : why ≡ other = cc in first.among other (ap refusal same);
      only_records_lack = λ other e. let same : why ≡ other = cc in first.only_records_lack other (ap refusal same);
    }

-- what refuses neither by 4 nor by 5 refuses no record
pub not_of_record : {A : Type 0} {numbers : List ℕ} {said : Said A} {why : Numbers} → Numbered numbers said → is_among numbers 4 ≡ false
    → is_among numbers 5 ≡ false → said ≡ refusal why → OfRecord why.number → ⊥
not_of_record {numbers = numbers} {why = why} is no-four no-five e =
    ⊎_elim (λ four. never (listed four) no-four) (λ five. never (listed five) no-five)
  where
    listed : {number : ℕ} → why.number ≡ number → is_among numbers number ≡ true
    listed same = subst (λ (n : ℕ). is_among numbers n ≡ true) same (is.among why e)

-- a list that has all of another's numbers
unfoldable pub has_all : List ℕ → List ℕ → Bool
has_all numbers [] = true
has_all numbers (one ∷ rest) = cond (is_among numbers one) (has_all numbers rest) false

has_each : (numbers some : List ℕ) → has_all numbers some ≡ true → (n : ℕ) → is_among some n ≡ true → is_among numbers n ≡ true
unfolding has_all is_among
has_each numbers [] all n there = absurd (never there refl)
has_each numbers (one ∷ rest) all n there =
    by_test (is_among numbers one)
    (λ has.
    by_test (eqb one n) (λ e. subst (λ (m : ℕ). is_among numbers m ≡ true) (eqb-true one n e) has)
    (λ e. has_each numbers rest (rw has at all) n (rw e at there)))
    (λ lacks. absurd (never all (rw lacks)))

-- what refuses by some numbers refuses by more
pub wider : {A : Type 0} {some numbers : List ℕ} {said : Said A} → has_all numbers some ≡ true → Numbered some said → Numbered numbers said
wider {some = some} {numbers = numbers} all is =
    record { among = λ why e. has_each numbers some all why.number (is.among why e); only_records_lack = is.only_records_lack }
