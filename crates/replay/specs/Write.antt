-- The code's own: the last write of a list of work, and the nearest of these on the way up. No public promise speaks of it.
use Rattle.std.specs.Prelude.{ℕ, Bool, true, false, cond, List, [], ◌∷◌, eqb, Option, Some, None}
use Rattle.below.specs.Climb.{climb}
use Rattle.kinds.specs.declared.register.RegisterOperation.{RegisterOperation}
use Rattle.kinds.specs.declared.register.RegisterOperation.TheVariants.{Read, Write}
use Rattle.kinds.specs.Kinds.{on_register}
use Rattle.columns.specs.Column.{at}
use Rattle.kinds.specs.declared.Operation.{Operation}

abbrev pub puts : RegisterOperation → Bool
puts Read = false
puts (Write n) = true

-- whether it is a write
abbrev pub is_write : Option Operation → Bool
is_write (Some o) = on_register o false puts
is_write None = false

-- the first of the two that is not 0
abbrev pub or_else : ℕ → ℕ → ℕ
or_else m n = cond (eqb m 0) n m

-- the last access of a list that asks a write; 0 is none
unfoldable pub last_write : (ℕ → Option Operation) → List ℕ → ℕ
last_write asked [] = 0
last_write asked (x ∷ l) = or_else (last_write asked l) (cond (is_write (asked x)) x 0)

-- of the last writes, one for each transaction, the nearest from t up to the root; 0 is none
abbrev pub nearest_in : List ℕ → List ℕ → ℕ → ℕ
nearest_in parent last t = climb (at parent) (at last 0) (λ u above. or_else (at last u) above) t

-- the access that stands, if it is not 0
abbrev pub noted : ℕ → Option ℕ
noted m = cond (eqb m 0) None (Some m)
