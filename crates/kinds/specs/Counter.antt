-- K, counter. Source: request Q-1.
use Rattle.std.specs.Prelude.{ℕ, ◌<◌, ◌^◌, cond, List, [], ◌∷◌, ℤ, pos, neg_ℤ, nat_abs, ◌+ℤ◌, eqb, Option, Some, None}
use Rattle.kinds.specs.declared.counter.Counter.{Counter}
use Rattle.kinds.specs.declared.counter.CounterOperation.{CounterOperation}
use Rattle.kinds.specs.declared.counter.CounterOperation.TheVariants.{Adjust, Count}
use Rattle.kinds.specs.declared.State.{State}
use Rattle.kinds.specs.declared.State.TheVariants as S
use Rattle.kinds.specs.declared.Operation.TheVariants as O
use Rattle.kinds.specs.declared.outcome.Outcome.{Outcome}
use Rattle.kinds.specs.declared.outcome.Outcome.TheVariants.{Ok, Fail, Value}
use Rattle.kinds.specs.declared.Stepped.{Stepped}
use Rattle.kinds.specs.declared.outcome.Shape.{Shape}
use Rattle.kinds.specs.declared.outcome.Shape.TheVariants.{Done, Between}
use Rattle.kinds.specs.declared.table.Class.{Class}
use Rattle.kinds.specs.declared.table.Rule.{Rule}
use Rattle.kinds.specs.declared.table.Rule.TheVariants.{Pass, UnlessEqual}
use Rattle.kinds.specs.Range.{in_range, either_side}
use Rattle.kinds.specs.declared.Operation.{Operation}
use Rattle.kinds.specs.Table.{in_row}

-- the counter with this count
abbrev pub counter_of : ℤ → State
counter_of z = S.Counter (record { count = z })

-- openings from -1,000,000,000 to 1,000,000,000, adjustments from -1,000,000 to 1,000,000
abbrev pub opening_most : ℕ
opening_most = 1_000_000_000

abbrev pub adjustment_most : ℕ
adjustment_most = 1_000_000

-- the count stays within 2,024,000,000 either side of zero
abbrev pub count_bound : ℕ
count_bound = 2_024_000_000

abbrev pub opened_of : ℤ → Option State
opened_of opening = either_side opening opening_most (λ z. Some (counter_of z)) None

-- 6 adjusts by -1,000,000 to 1,000,000, 7 (argument 0) counts
abbrev pub decode_of : ℕ → ℤ → Option Operation
decode_of operation argument =
    cond (eqb operation 6) (either_side argument adjustment_most (λ z. Some (O.Counter (Adjust z))) None)
    (cond (eqb operation 7) (in_range argument 0 0 (λ n. Some (O.Counter Count)) None) None)

abbrev pub step_of : Counter → CounterOperation → Stepped
step_of counter (Adjust z) = record { state = counter_of (counter.count +ℤ z); outcome = Ok }
step_of counter Count = record { state = S.Counter counter; outcome = Value counter.count }

-- an adjustment leaves a count less than 2 ^ 31 from zero, which 32 bits hold
abbrev pub Room : Counter → CounterOperation → Type 0
Room counter (Adjust z) = nat_abs (counter.count +ℤ z) < 2 ^ 31
Room counter Count = Unit {0}

-- the results that an operation allows
abbrev pub shape_of : CounterOperation → Shape
shape_of (Adjust z) = Done
shape_of Count = Between (neg_ℤ (pos count_bound)) (pos count_bound)

-- the row of each class of answer: adjustment, count; its key is what it adds, and a count adds nothing
abbrev pub class_of : CounterOperation → Outcome → Option Class
class_of (Adjust z) Ok = in_row 0 z
class_of (Adjust z) Fail = None
class_of (Adjust z) (Value v) = None
class_of Count (Value v) = in_row 1 (pos 0)
class_of Count Ok = None
class_of Count Fail = None

abbrev pub table : List (List Rule)
table =
    (Pass ∷ UnlessEqual ∷ []) ∷
    (UnlessEqual ∷ Pass ∷ []) ∷ []
