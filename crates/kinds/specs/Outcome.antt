-- An outcome's numbers, there and back. Source: document 01, "Calls, answers and their order", code 0 of respond and the form rules; request Q-1: a signed b.
use Rattle.std.specs.Prelude.{ℕ, cond, ℤ, pos, eqb, Option, Some, None}
use Rattle.kinds.specs.declared.outcome.Outcome.{Outcome}
use Rattle.kinds.specs.declared.outcome.Outcome.TheVariants.{Ok, Fail, Value}
use Rattle.kinds.specs.declared.outcome.Numbers.{Numbers}
use Rattle.kinds.specs.declared.outcome.Shape.{Shape}
use Rattle.kinds.specs.declared.outcome.Shape.TheVariants.{Done, DoneOrFailed, Between}
use Rattle.kinds.specs.Range.{in_range, in_signed}

-- a is 1 for OK, 0 for FAIL, 2 for a value
abbrev pub ok : ℕ
ok = 1

abbrev pub fail : ℕ
fail = 0

abbrev pub value : ℕ
value = 2

-- b is the value, else 0
abbrev pub numbers_of : Outcome → Numbers
numbers_of Ok = record { a = ok; b = pos 0 }
numbers_of Fail = record { a = fail; b = pos 0 }
numbers_of (Value v) = record { a = value; b = v }

-- the outcome with this b: a value from low to high, or one that has no value
abbrev pub with_value : ℤ → ℤ → ℤ → Option Outcome
with_value b low high = in_signed b low high (λ v. Some (Value v)) None

abbrev pub without_value : Outcome → ℤ → Option Outcome
without_value outcome b = in_range b 0 0 (λ n. Some outcome) None

-- the outcome with these numbers, if it is of the shape: OK alone, OK or FAIL, or a value from low to high
abbrev pub recalled : Shape → ℕ → ℤ → Option Outcome
recalled Done a b = cond (eqb a ok) (without_value Ok b) None
recalled DoneOrFailed a b = cond (eqb a ok) (without_value Ok b) (cond (eqb a fail) (without_value Fail b) None)
recalled (Between low high) a b = cond (eqb a value) (with_value b low high) None
