-- When a contract settles its call: two outcomes that it allows for the same arguments are equal. A contract is here what the
-- check reads from the source, a claim about the arguments, the result and what was lent, at exit. Assumes nothing.
use Rattle.std.specs.Prelude.{ℕ, ◌≡◌, List}
use contract.Lifetimes.{Lfts}
use borrow.Fn.Kinds.{ParamKind, ResultKind, Dens, Out, res_t, ended_of}
use denote.Triple.Clauses.{AtExit}

-- what `see` sees of the result and of what was lent is settled
abbrev pub SettledAs : (n : ℕ) (ps : List (ParamKind n)) (r : ResultKind n) (Seen : Lfts n → Type 0)
    → ((κs : Lfts n) → (res_t r κs).Denot → AtExit (ended_of n ps r) κs → Seen κs) → Out n ps r → Type 0
SettledAs n ps r Seen see Post =
    (κs : Lfts n) (a : Dens κs ps) (x y : (res_t r κs).Denot) (s t : AtExit (ended_of n ps r) κs) → Post κs a x s → Post κs a y t
    → see κs x s ≡ see κs y t

-- the whole result is settled: for a call that is lent nothing to write, its whole outcome
abbrev pub SettledResult : (n : ℕ) (ps : List (ParamKind n)) (r : ResultKind n) → Out n ps r → Type 0
SettledResult n ps r Post = SettledAs n ps r (λ κs. (res_t r κs).Denot) (λ κs x s. x) Post

-- the same where the call's own demand holds: for a call that has one
abbrev pub SettledWhere : (n : ℕ) (ps : List (ParamKind n)) (r : ResultKind n) (Seen : Lfts n → Type 0)
    → ((κs : Lfts n) → (res_t r κs).Denot → AtExit (ended_of n ps r) κs → Seen κs) → ((κs : Lfts n) → Dens κs ps → Type 0) → Out n ps r → Type 0
SettledWhere n ps r Seen see Pre Post =
    (κs : Lfts n) (a : Dens κs ps) (x y : (res_t r κs).Denot) (s t : AtExit (ended_of n ps r) κs) → Pre κs a → Post κs a x s → Post κs a y t
    → see κs x s ≡ see κs y t
