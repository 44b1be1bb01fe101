-- What the row of an access says: what it asks, and the answer on record. Source: document 01, "Objects and numbers" and the form rules.
use Rattle.std.specs.Prelude.{ℕ, ◌-◌, cond, List, ℤ, eqb, Option, Some, None}
use Rattle.kinds.specs.declared.Kind.{Kind}
use Rattle.kinds.specs.declared.Operation.{Operation}
use Rattle.kinds.specs.Kinds.{decode_of, recall_of}
use Rattle.columns.specs.Column.{at, at_z}
use Rattle.kinds.specs.declared.outcome.Outcome.{Outcome}
use Rattle.kinds.specs.declared.Answered.{Answered}

-- what access x asks of an object of the kind
abbrev pub asked_of : Kind → List ℕ → List ℤ → ℕ → Option Operation
asked_of kind operation argument x = decode_of kind (at operation x) (at_z argument x)

-- an operation with its result, if it has a shape that the operation allows
abbrev pub answered_as : Operation → Option Outcome → Option Answered
answered_as o (Some r) = Some (record { operation = o; outcome = r })
answered_as o None = None

-- the answer that the numbers on record stand for: 0 is none yet, and else one more than a, with b
abbrev pub recorded_of : Option Operation → ℕ → ℤ → Option Answered
recorded_of None outcome value = None
recorded_of (Some o) outcome value = cond (eqb outcome 0) None (answered_as o (recall_of o (outcome - 1) value))

-- the answer on record of access x, on an object of the kind
abbrev pub record_in : Kind → List ℕ → List ℤ → List ℕ → List ℤ → ℕ → Option Answered
record_in kind operation argument outcome value x = recorded_of (asked_of kind operation argument x) (at outcome x) (at_z value x)
