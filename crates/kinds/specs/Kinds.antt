-- The serial objects over all kinds. Source: document 01, "Objects and numbers", "Calls, answers and their order" and "The conflict table"; requests Q-1 to Q-3.
use Rattle.std.specs.Prelude.{ℕ, ◌≤◌, Bool, true, false, cond, List, [], ℤ, nat_abs, eqb, Option, Some, None}
use Rattle.kinds.specs.declared.Kind.{Kind}
use Rattle.kinds.specs.declared.Kind.TheVariants.{Account, Register, Counter, Bin, Unknown}
use Rattle.kinds.specs.declared.State.{State}
use Rattle.kinds.specs.declared.State.TheVariants as S
use Rattle.kinds.specs.declared.Operation.{Operation}
use Rattle.kinds.specs.declared.Operation.TheVariants as O
use Rattle.kinds.specs.declared.account.AccountOperation.{AccountOperation}
use Rattle.kinds.specs.declared.register.RegisterOperation.{RegisterOperation}
use Rattle.kinds.specs.declared.counter.CounterOperation.{CounterOperation}
use Rattle.kinds.specs.declared.bin.BinOperation.{BinOperation}
use Rattle.kinds.specs.declared.outcome.Outcome.{Outcome}
use Rattle.kinds.specs.declared.outcome.Outcome.TheVariants.{Fail}
use Rattle.kinds.specs.declared.Answered.{Answered}
use Rattle.kinds.specs.declared.Stepped.{Stepped}
use Rattle.kinds.specs.declared.outcome.Shape.{Shape}
use Rattle.kinds.specs.declared.table.Class.{Class}
use Rattle.kinds.specs.declared.table.Rule.{Rule}
use Rattle.kinds.specs.Outcome.{recalled}
use Rattle.kinds.specs.Account as A
use Rattle.kinds.specs.Register as R
use Rattle.kinds.specs.Counter as K
use Rattle.kinds.specs.Bin as B
use Rattle.kinds.specs.Table.{verdict}

-- A, account; R, register; K, counter; S, bin of serial-numbered parts
unfoldable pub kind_of : ℕ → Kind
kind_of letter =
    cond (eqb letter 65) Account (cond (eqb letter 82) Register (cond (eqb letter 75) Counter (cond (eqb letter 83) Bin Unknown)))

abbrev pub opened_of : Kind → ℤ → Option State
opened_of Account opening = A.opened_of opening
opened_of Register opening = R.opened_of opening
opened_of Counter opening = K.opened_of opening
opened_of Bin opening = B.opened_of opening
opened_of Unknown opening = None

abbrev pub opens : Option State → Bool
opens (Some s) = true
opens None = false

-- the state that it opens with; what does not open, which no form allows, counts as an account of 0
abbrev pub start_of : Option State → State
start_of (Some s) = s
start_of None = A.account_of 0

-- code 7 where it is not fit: the operation is unknown, not of this kind, or its argument outside its range
abbrev pub decode_of : Kind → ℕ → ℤ → Option Operation
decode_of Account operation argument = A.decode_of operation argument
decode_of Register operation argument = R.decode_of operation argument
decode_of Counter operation argument = K.decode_of operation argument
decode_of Bin operation argument = B.decode_of operation argument
decode_of Unknown operation argument = None

-- what f makes of an operation of the kind; of one of another kind, the other
abbrev pub on_account {ℓ} : {B : Type ℓ} → Operation → B → (AccountOperation → B) → B
on_account (O.Account o) other f = f o
on_account (O.Register o) other f = other
on_account (O.Counter o) other f = other
on_account (O.Bin o) other f = other

abbrev pub on_register {ℓ} : {B : Type ℓ} → Operation → B → (RegisterOperation → B) → B
on_register (O.Account o) other f = other
on_register (O.Register o) other f = f o
on_register (O.Counter o) other f = other
on_register (O.Bin o) other f = other

abbrev pub on_counter {ℓ} : {B : Type ℓ} → Operation → B → (CounterOperation → B) → B
on_counter (O.Account o) other f = other
on_counter (O.Register o) other f = other
on_counter (O.Counter o) other f = f o
on_counter (O.Bin o) other f = other

abbrev pub on_bin {ℓ} : {B : Type ℓ} → Operation → B → (BinOperation → B) → B
on_bin (O.Account o) other f = other
on_bin (O.Register o) other f = other
on_bin (O.Counter o) other f = other
on_bin (O.Bin o) other f = f o

-- FAIL, and the state as it was
abbrev pub idle : State → Stepped
idle s = record { state = s; outcome = Fail }

-- what the object does; an operation of another kind, which `decode_of` never gives it, fails and changes nothing
abbrev pub step_of : State → Operation → Stepped
step_of (S.Account account) o = on_account o (idle (S.Account account)) (A.step_of account)
step_of (S.Register register) o = on_register o (idle (S.Register register)) (R.step_of register)
step_of (S.Counter counter) o = on_counter o (idle (S.Counter counter)) (K.step_of counter)
step_of (S.Bin bin) o = on_bin o (idle (S.Bin bin)) (B.step_of bin)

-- no sum wraps, and a part has a digit
abbrev pub Room : State → Operation → Type 0
Room (S.Account account) o = on_account o (Unit {0}) (A.Room account)
Room (S.Register register) o = Unit {0}
Room (S.Counter counter) o = on_counter o (Unit {0}) (K.Room counter)
Room (S.Bin bin) o = on_bin o (Unit {0}) B.Room

-- a balance is at most 2,024,000,000, a register's value at most 1,000,000,000, a count at most 2,024,000,000 from zero; a bin has no parts but 0 to 31
abbrev pub Bounded : State → Type 0
Bounded (S.Account account) = account.balance ≤ A.balance_most
Bounded (S.Register register) = register.value ≤ R.value_most
Bounded (S.Counter counter) = nat_abs counter.count ≤ K.count_bound
Bounded (S.Bin bin) = bin.parts ≤ B.opening_most

-- the results that an operation allows
abbrev pub shape_of : Operation → Shape
shape_of (O.Account o) = A.shape_of o
shape_of (O.Register o) = R.shape_of o
shape_of (O.Counter o) = K.shape_of o
shape_of (O.Bin o) = B.shape_of o

-- the outcome with these numbers, if its shape is one that the operation allows
abbrev pub recall_of : Operation → ℕ → ℤ → Option Outcome
recall_of o a b = recalled (shape_of o) a b

-- the class of an answer in the table of the kind
abbrev pub class_of : Kind → Operation → Outcome → Option Class
class_of Account o r = on_account o None (λ p. A.class_of p r)
class_of Register o r = on_register o None (λ p. R.class_of p r)
class_of Counter o r = on_counter o None (λ p. K.class_of p r)
class_of Bin o r = on_bin o None (λ p. B.class_of p r)
class_of Unknown o r = None

abbrev pub table_of : Kind → List (List Rule)
table_of Account = A.table
table_of Register = R.table
table_of Counter = K.table
table_of Bin = B.table
table_of Unknown = []

abbrev pub conflict_of : Kind → Answered → Answered → Bool
conflict_of kind p q = verdict (table_of kind) (class_of kind p.operation p.outcome) (class_of kind q.operation q.outcome)
