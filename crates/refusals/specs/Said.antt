-- What a call says: its answer, or a refusal in numbers. Contracts of calls that may refuse speak of this.
-- Assumes nothing.
use Rattle.std.specs.Prelude.{ℕ, ◌≡◌, List, [], ◌∷◌, Bool, true, false, cond, eqb, Result, Ok, Err}
use Rattle.refusals.specs.declared.Refusal.{Refusal}
use Rattle.refusals.specs.declared.Numbers.{Numbers}
use Rattle.refusals.specs.Numbers.{numbered, in_numbers, OnlyRecordsLack}

pub data Said (A : Type 0) : Type 0 where
  answers : A → Said A
  refusal : Numbers → Said A

-- what the code's `Result` says: its value, or the numbers of its refusal
abbrev pub result_says : {A : Type 0} → Result A Refusal → Said A
result_says (Ok a) = answers a
result_says (Err why) = refusal (in_numbers why)

-- a refusal by its number and the number beside it
abbrev pub refuses : {A : Type 0} → ℕ → ℕ → Said A
refuses number beside = refusal (numbered number beside)

-- go on where the test holds, and refuse so where it does not: with all numbers of the refusal, or with its number and the one beside it
abbrev pub demand_by : {A : Type 0} → Bool → Numbers → Said A → Said A
demand_by true why rest = rest
demand_by false why rest = refusal why

abbrev pub demand : {A : Type 0} → Bool → ℕ → ℕ → Said A → Said A
demand test number beside rest = demand_by test (numbered number beside) rest

-- go on with an answer, and pass a refusal on
abbrev pub onward : {A B : Type 0} → Said A → (A → Said B) → Said B
onward (answers a) rest = rest a
onward (refusal why) rest = refusal why

-- n is in a list
unfoldable pub is_among : List ℕ → ℕ → Bool
is_among [] n = false
is_among (one ∷ rest) n = cond (eqb one n) true (is_among rest n)

-- whatever refusal is said has one of these numbers; and unless it is of a record, it tells no size and nothing absent
pub record Numbered {A : Type 0} (numbers : List ℕ) (said : Said A) : Type 0 where
  pub among : (why : Numbers) → said ≡ refusal why → is_among numbers why.number ≡ true
  pub only_records_lack : (why : Numbers) → said ≡ refusal why → OnlyRecordsLack why
