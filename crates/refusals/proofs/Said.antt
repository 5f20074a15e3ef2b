-- What is said when a test holds or fails; and that two values that say the same are the same.
-- Assumes nothing.
use Prim.Native.Nat.{ℕ}
use mathlib.Core.Path.{◌≡◌, refl, sym, ap, ◌∙◌, subst}
use mathlib.Core.List.{List}
use mathlib.Core.Bool.{Bool, true, false}
use native.Mathlib.Omega.{arith}
use Rattle.refusals.specs.declared.Numbers.{Numbers}
use Rattle.refusals.specs.Numbers.{lacking, numbered}
use Rattle.refusals.specs.Said.{Said, demand, demand_by, answers, onward, refusal, refuses}

-- a call that refuses does not answer
pub not_both : {A : Type 0} {a : A} {why : Numbers} → refusal why ≡ answers a → ⊥
not_both e = let z : ◌≡◌ {A = ℕ} 0 1 = cc in omega arith

-- what holds of an answer holds of any that is said to be the same
pub for_the_answer : {A : Type 0} (P : A → Type 0) {a b : A} → answers a ≡ answers b → P a → P b
for_the_answer {A} P {a} {b} e h = let same : a ≡ b = cc in subst P same h

-- what is answered after a test has passed it
pub passed_by : {A : Type 0} {a : A} (test : Bool) (why : Numbers) (rest : Said A) → demand_by test why rest ≡ answers a
    → (test ≡ true) × (rest ≡ answers a)
passed_by true why rest e = (refl, e)
passed_by false why rest e = absurd (not_both e)

pub passed : {A : Type 0} {a : A} (test : Bool) (number beside : ℕ) (rest : Said A) → demand test number beside rest ≡ answers a
    → (test ≡ true) × (rest ≡ answers a)
passed test number beside rest e = passed_by test (numbered number beside) rest e

-- what is refused at a test failed it, with that refusal, or is refused after it
pub by_refusal : {A X : Type 0} (test : Bool) {why other : Numbers} {rest : Said A} → demand_by test why rest ≡ refusal other
    → (test ≡ true → rest ≡ refusal other → X) → (test ≡ false → why ≡ other → X) → X
by_refusal true e after here = after refl e
by_refusal false {why} {other} e after here = let same : why ≡ other = cc in here refl same

pub by_demand : {A X : Type 0} (test : Bool) {number beside m n : ℕ} {rest : Said A} → demand test number beside rest ≡ refuses m n
    → (test ≡ true → rest ≡ refuses m n → X) → (test ≡ false → number ≡ m → beside ≡ n → X) → X
by_demand test e after here =
    by_refusal test e after (λ failed same. here failed (ap (λ (why : Numbers). why.number) same) (ap (λ (why : Numbers). why.beside) same))

-- a refusal by its four numbers
pub by_numbers : (why : Numbers) {number beside size absent : ℕ} → why.number ≡ number → why.beside ≡ beside → why.size ≡ size
    → why.absent ≡ absent → why ≡ lacking number beside size absent
by_numbers why {number} {beside} {size} {absent} a b c d =
    let same : lacking why.number why.beside why.size why.absent ≡ lacking number beside size absent = cc (a, b, c, d) in same

-- a call answers or refuses: what a proof by cases goes by
pub by_said : {A X : Type 0} (said : Said A) → ((a : A) → said ≡ answers a → X)
    → ((why : Numbers) → said ≡ refusal why → X) → X
by_said (answers a) answered refused = answered a refl
by_said (refusal why) answered refused = refused why refl

-- where what an enum's value says can be read back, two values that say the same are the same
pub only_one : {E A : Type 0} (says : E → Said A) (read : Said A → E) → ((x : E) → read (says x) ≡ x)
    → (x y : E) (said : Said A) → says x ≡ said → says y ≡ said → x ≡ y
only_one says read back x y said p q = sym (back x) ∙ ap read (p ∙ sym q) ∙ back y

-- and so are two outcomes, which leave two buffers too, where each buffer is settled
pub only_outcome_of : {E A : Type 0} (says : E → Said A) (read : Said A → E) → ((x : E) → read (says x) ≡ x)
    → {x y : E} {said : Said A} {a a' b b' m n : List ℕ} → says x ≡ said → says y ≡ said → a ≡ m → a' ≡ m → b ≡ n → b' ≡ n
    → ◌≡◌ {A = E × List ℕ × List ℕ} (x, a, b) (y, a', b')
only_outcome_of says read back {x} {y} {said} p q a a' b b' =
    let answer : x ≡ y = only_one says read back x y said p q in
    cc (answer, a, a', b, b')

-- what is answered after a test of the answer itself was answered before, and has passed the test
pub asked_of : {A : Type 0} (said : Said A) (test : A → Bool) (number : ℕ) (beside : A → ℕ) (a : A)
    → onward said (λ x. demand (test x) number (beside x) (answers x)) ≡ answers a → (said ≡ answers a) × (test a ≡ true)
asked_of (answers x) test number beside a e =
    let p = passed (test x) number (beside x) (answers x) e in
    (p.1, for_the_answer (λ y. test y ≡ true) p.1 p.0)
asked_of (refusal why) test number beside a e = absurd (not_both e)

-- an enum's value read from what it says: by its case for answers and its case for refusals
abbrev pub read_from : {A E : Type 0} → (A → E) → (Numbers → E) → Said A → E
read_from answer refuse (answers a) = answer a
read_from answer refuse (refusal why) = refuse why

-- what was refused in the end was refused at first, or answered and then refused
pub by_onward : {A B X : Type 0} (said : Said A) (rest : A → Said B) {why : Numbers} → onward said rest ≡ refusal why
    → (said ≡ refusal why → X) → ((a : A) → said ≡ answers a → rest a ≡ refusal why → X) → X
by_onward (answers a) rest e first then = then a refl e
by_onward (refusal other) rest {why} e first then = let same : other ≡ why = cc in first (ap refusal same)

-- what goes on from a refusal, and from an answer
pub onward_refused : {A B : Type 0} {said : Said A} {why : Numbers} (rest : A → Said B) → refusal why ≡ said → onward said rest ≡ refusal why
onward_refused rest e = rw (← e)

pub onward_answered : {A B : Type 0} {said : Said A} {a : A} (rest : A → Said B) → answers a ≡ said → onward said rest ≡ rest a
onward_answered rest e = rw (← e)

-- going on twice
pub onward_twice : {A B C : Type 0} (said : Said A) (rest : A → Said B) (more : B → Said C)
    → onward said (λ a. onward (rest a) more) ≡ onward (onward said rest) more
onward_twice (answers a) rest more = refl
onward_twice (refusal why) rest more = refl

-- what was answered in the end was first answered, and then gone on with
pub went_on : {A B : Type 0} {b : B} (said : Said A) (rest : A → Said B) → onward said rest ≡ answers b
    → (a : A) × (said ≡ answers a) × (rest a ≡ answers b)
went_on (answers a) rest e = (a, refl, e)
went_on (refusal why) rest e = absurd (not_both e)
