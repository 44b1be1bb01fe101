-- A contract that leaves one outcome. `post` is what a function's `ensures` says: of the arguments, the result, and the arguments at exit.
use Rattle.std.specs.Prelude.{◌≡◌, List, ℕ}
use borrow.Fn.Kinds.{ParamKind, ResultKind, Dens, res_t, ended_of, Out}
use contract.Lifetimes.{Lfts}
use denote.Triple.Clauses.{AtExit}

-- one result: of a function that writes nothing that it is lent
abbrev pub Sole : (n : ℕ) (ps : List (ParamKind n)) (r : ResultKind n) → Out n ps r → Type 0
Sole n ps r post =
    (κs : Lfts n) (a : Dens κs ps) (x y : (res_t r κs).Denot) (s t : AtExit (ended_of n ps r) κs) → post κs a x s → post κs a y t → x ≡ y

-- one result and one content at exit: of a function that writes what it is lent. `lent` is what its caller can then read there. What is
-- lent only to be read, or passed by value, gives the caller nothing back
abbrev pub Whole : (n : ℕ) (ps : List (ParamKind n)) (r : ResultKind n) → Out n ps r → {A : Type 0} → ((κs : Lfts n) → AtExit (ended_of n ps r) κs → A) → Type 0
Whole n ps r post lent =
    (κs : Lfts n) (a : Dens κs ps) (x y : (res_t r κs).Denot) (s t : AtExit (ended_of n ps r) κs) → post κs a x s → post κs a y t → (x ≡ y) × (lent κs s ≡ lent κs t)

-- one that gives the result as this function of the arguments
abbrev pub Gives : (n : ℕ) (ps : List (ParamKind n)) (r : ResultKind n) → Out n ps r → ((κs : Lfts n) → Dens κs ps → (res_t r κs).Denot) → Type 0
Gives n ps r post given =
    (κs : Lfts n) (a : Dens κs ps) (x : (res_t r κs).Denot) (s : AtExit (ended_of n ps r) κs) → post κs a x s → x ≡ given κs a

-- and one that asks nothing of the caller; `pre` is what a function's `requires` says
abbrev pub AsksNothing : (n : ℕ) (ps : List (ParamKind n)) → ((κs : Lfts n) → Dens κs ps → Type 0) → Type 0
AsksNothing n ps pre = (κs : Lfts n) (a : Dens κs ps) → pre κs a
