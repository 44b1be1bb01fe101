-- S, bin of serial-numbered parts. Source: request Q-3.
use Rattle.std.specs.Prelude.{ℕ, zero, suc, ◌+◌, ◌-◌, ◌/◌, ◌%◌, ◌^◌, ◌≤◌, Bool, cond, List, [], ◌∷◌, ℤ, pos, negsuc, eqb, Option, Some, None}
use Rattle.kinds.specs.declared.bin.Bin.{Bin}
use Rattle.kinds.specs.declared.bin.BinOperation.{BinOperation}
use Rattle.kinds.specs.declared.bin.BinOperation.TheVariants.{Put, Take, Look}
use Rattle.kinds.specs.declared.State.{State}
use Rattle.kinds.specs.declared.State.TheVariants as S
use Rattle.kinds.specs.declared.Operation.TheVariants as O
use Rattle.kinds.specs.declared.outcome.Outcome.{Outcome}
use Rattle.kinds.specs.declared.outcome.Outcome.TheVariants.{Ok, Fail, Value}
use Rattle.kinds.specs.declared.Stepped.{Stepped}
use Rattle.kinds.specs.declared.outcome.Shape.{Shape}
use Rattle.kinds.specs.declared.outcome.Shape.TheVariants.{DoneOrFailed, Between}
use Rattle.kinds.specs.declared.table.Class.{Class}
use Rattle.kinds.specs.declared.table.Rule.{Rule}
use Rattle.kinds.specs.declared.table.Rule.TheVariants.{Pass, IfEqual}
use Rattle.kinds.specs.Range.{in_range}
use Rattle.kinds.specs.declared.Operation.{Operation}
use Rattle.kinds.specs.Table.{in_row}

-- the bin that has the parts which the binary digits of n say
abbrev pub bin_of : ℕ → State
bin_of n = S.Bin (record { parts = n })

-- part i is in where the digit of 2 ^ i is 1, and out where it is 0
abbrev pub is_in : ℕ → ℕ → Bool
is_in n i = eqb (n / 2 ^ i % 2) 1

-- openings 0 to 4,294,967,295, parts 0 to 31
abbrev pub opening_most : ℕ
opening_most = 4_294_967_295

abbrev pub part_most : ℕ
part_most = 31

abbrev pub opened_of : ℤ → Option State
opened_of opening = in_range opening 0 opening_most (λ n. Some (bin_of n)) None

-- 8 put, 9 take and 10 look, each with a part as its argument
abbrev pub operation_on : ℕ → ℕ → Option Operation
operation_on operation i =
    cond (eqb operation 8) (Some (O.Bin (Put i))) (cond (eqb operation 9) (Some (O.Bin (Take i))) (cond (eqb operation 10) (Some (O.Bin (Look i))) None))

abbrev pub decode_of : ℕ → ℤ → Option Operation
decode_of operation argument = in_range argument 0 part_most (operation_on operation) None

-- a put answers OK if the part was out, and puts it in, and FAIL if it was in; a take the reverse; a look answers 1 if it is in, 0 if it is out
abbrev pub step_of : Bin → BinOperation → Stepped
step_of bin (Put i) =
    cond (is_in bin.parts i) (record { state = S.Bin bin; outcome = Fail })
    (record { state = bin_of (bin.parts + 2 ^ i); outcome = Ok })
step_of bin (Take i) =
    cond (is_in bin.parts i) (record { state = bin_of (bin.parts - 2 ^ i); outcome = Ok })
    (record { state = S.Bin bin; outcome = Fail })
step_of bin (Look i) = record { state = S.Bin bin; outcome = Value (cond (is_in bin.parts i) (pos 1) (pos 0)) }

abbrev pub part_of : BinOperation → ℕ
part_of (Put i) = i
part_of (Take i) = i
part_of (Look i) = i

-- the part has a digit among the 32
abbrev pub Room : BinOperation → Type 0
Room o = part_of o ≤ part_most

-- the results that an operation allows
abbrev pub shape_of : BinOperation → Shape
shape_of (Put i) = DoneOrFailed
shape_of (Take i) = DoneOrFailed
shape_of (Look i) = Between (pos 0) (pos 1)

-- the row of each class of answer: the part was out and is put in, was in and is taken out, was in and stays, was out and stays; its key is the part
abbrev pub class_of : BinOperation → Outcome → Option Class
class_of (Put i) Ok = in_row 0 (pos i)
class_of (Put i) Fail = in_row 2 (pos i)
class_of (Put i) (Value v) = None
class_of (Take i) Ok = in_row 1 (pos i)
class_of (Take i) Fail = in_row 3 (pos i)
class_of (Take i) (Value v) = None
class_of (Look i) (Value (pos zero)) = in_row 3 (pos i)
class_of (Look i) (Value (pos (suc zero))) = in_row 2 (pos i)
class_of (Look i) (Value (pos (suc (suc n)))) = None
class_of (Look i) (Value (negsuc n)) = None
class_of (Look i) Ok = None
class_of (Look i) Fail = None

-- two answers conflict exactly when they are on the same part, need the same earlier presence, and at least one changes it
abbrev pub table : List (List Rule)
table =
    (IfEqual ∷ Pass ∷ Pass ∷ IfEqual ∷ []) ∷
    (Pass ∷ IfEqual ∷ IfEqual ∷ Pass ∷ []) ∷
    (Pass ∷ IfEqual ∷ Pass ∷ Pass ∷ []) ∷
    (IfEqual ∷ Pass ∷ Pass ∷ Pass ∷ []) ∷ []
