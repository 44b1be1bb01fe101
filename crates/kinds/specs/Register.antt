-- R, register. Source: document 01, "Objects and numbers" and "The conflict table"; request Q-2.
use Rattle.std.specs.Prelude.{ℕ, cond, List, [], ◌∷◌, ℤ, pos, eqb, Option, Some, None}
use Rattle.kinds.specs.declared.register.Register.{Register}
use Rattle.kinds.specs.declared.register.RegisterOperation.{RegisterOperation}
use Rattle.kinds.specs.declared.register.RegisterOperation.TheVariants.{Read, Write}
use Rattle.kinds.specs.declared.State.{State}
use Rattle.kinds.specs.declared.State.TheVariants as S
use Rattle.kinds.specs.declared.Operation.TheVariants as O
use Rattle.kinds.specs.declared.outcome.Outcome.{Outcome}
use Rattle.kinds.specs.declared.outcome.Outcome.TheVariants.{Ok, Fail, Value}
use Rattle.kinds.specs.declared.Stepped.{Stepped}
use Rattle.kinds.specs.declared.outcome.Shape.{Shape}
use Rattle.kinds.specs.declared.outcome.Shape.TheVariants.{Done, Between}
use Rattle.kinds.specs.declared.table.Class.{Class}
use Rattle.kinds.specs.declared.table.Rule.{Rule}
use Rattle.kinds.specs.declared.table.Rule.TheVariants.{Pass, UnlessEqual}
use Rattle.kinds.specs.Range.{in_range}
use Rattle.kinds.specs.declared.Operation.{Operation}
use Rattle.kinds.specs.Table.{in_row}

-- the register with this value
abbrev pub register_of : ℕ → State
register_of n = S.Register (record { value = n })

-- opened with, written and read: 0 to 1,000,000,000
abbrev pub value_most : ℕ
value_most = 1_000_000_000

abbrev pub opened_of : ℤ → Option State
opened_of opening = in_range opening 0 value_most (λ n. Some (register_of n)) None

-- 4 read (argument 0), 5 write (argument 0 to 1,000,000,000)
abbrev pub decode_of : ℕ → ℤ → Option Operation
decode_of operation argument =
    cond (eqb operation 4) (in_range argument 0 0 (λ n. Some (O.Register Read)) None)
    (cond (eqb operation 5) (in_range argument 0 value_most (λ n. Some (O.Register (Write n))) None) None)

abbrev pub step_of : Register → RegisterOperation → Stepped
step_of register Read = record { state = S.Register register; outcome = Value (pos register.value) }
step_of register (Write n) = record { state = register_of n; outcome = Ok }

-- the results that an operation allows
abbrev pub shape_of : RegisterOperation → Shape
shape_of Read = Between (pos 0) (pos value_most)
shape_of (Write n) = Done

-- the row of each class of answer: read, write; its key is the value
abbrev pub class_of : RegisterOperation → Outcome → Option Class
class_of Read (Value v) = in_row 0 v
class_of Read Ok = None
class_of Read Fail = None
class_of (Write n) Ok = in_row 1 (pos n)
class_of (Write n) Fail = None
class_of (Write n) (Value v) = None

-- request Q-2: read v and write w conflict unless v equals w, two writes unless they put the same value
abbrev pub table : List (List Rule)
table =
    (Pass ∷ UnlessEqual ∷ []) ∷
    (UnlessEqual ∷ UnlessEqual ∷ []) ∷ []
