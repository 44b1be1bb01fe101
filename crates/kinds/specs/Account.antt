-- A, account. Source: document 01, "Objects and numbers" and "The conflict table"; request Q-2.
use Rattle.std.specs.Prelude.{ℕ, ◌+◌, ◌-◌, ◌<◌, ◌^◌, cond, List, [], ◌∷◌, ℤ, pos, leb, eqb, Option, Some, None}
use Rattle.kinds.specs.declared.account.Account.{Account}
use Rattle.kinds.specs.declared.account.AccountOperation.{AccountOperation}
use Rattle.kinds.specs.declared.account.AccountOperation.TheVariants.{Balance, Deposit, Withdraw}
use Rattle.kinds.specs.declared.State.{State}
use Rattle.kinds.specs.declared.State.TheVariants as S
use Rattle.kinds.specs.declared.Operation.TheVariants as O
use Rattle.kinds.specs.declared.outcome.Outcome.{Outcome}
use Rattle.kinds.specs.declared.outcome.Outcome.TheVariants.{Ok, Fail, Value}
use Rattle.kinds.specs.declared.Stepped.{Stepped}
use Rattle.kinds.specs.declared.outcome.Shape.{Shape}
use Rattle.kinds.specs.declared.outcome.Shape.TheVariants.{Done, DoneOrFailed, Between}
use Rattle.kinds.specs.declared.table.Class.{Class}
use Rattle.kinds.specs.declared.table.Rule.{Rule}
use Rattle.kinds.specs.declared.table.Rule.TheVariants.{Pass, Conflict, IfAtLeast, IfAtMost}
use Rattle.kinds.specs.Range.{in_range}
use Rattle.kinds.specs.declared.Operation.{Operation}
use Rattle.kinds.specs.Table.{in_row}

-- the account with this balance
abbrev pub account_of : ℕ → State
account_of n = S.Account (record { balance = n })

-- openings 0 to 1,000,000,000, amounts 1 to 1,000,000
abbrev pub opening_most : ℕ
opening_most = 1_000_000_000

abbrev pub amount_least : ℕ
amount_least = 1

abbrev pub amount_most : ℕ
amount_most = 1_000_000

-- no balance can exceed the largest opening and 1,024 deposits of the largest size
abbrev pub balance_most : ℕ
balance_most = 2_024_000_000

abbrev pub opened_of : ℤ → Option State
opened_of opening = in_range opening 0 opening_most (λ n. Some (account_of n)) None

-- 1 balance (argument 0), 2 deposit and 3 withdraw (argument 1 to 1,000,000)
abbrev pub decode_of : ℕ → ℤ → Option Operation
decode_of operation argument =
    cond (eqb operation 1) (in_range argument 0 0 (λ n. Some (O.Account Balance)) None)
    (cond (eqb operation 2) (in_range argument amount_least amount_most (λ n. Some (O.Account (Deposit n))) None)
    (cond (eqb operation 3) (in_range argument amount_least amount_most (λ n. Some (O.Account (Withdraw n))) None) None))

-- a withdrawal succeeds if the balance is at least the amount; otherwise it answers FAIL and changes nothing
abbrev pub step_of : Account → AccountOperation → Stepped
step_of account Balance = record { state = S.Account account; outcome = Value (pos account.balance) }
step_of account (Deposit n) = record { state = account_of (account.balance + n); outcome = Ok }
step_of account (Withdraw n) =
    cond (leb n account.balance) (record { state = account_of (account.balance - n); outcome = Ok })
    (record { state = S.Account account; outcome = Fail })

-- a deposit leaves a balance that 32 bits hold
abbrev pub Room : Account → AccountOperation → Type 0
Room account Balance = Unit {0}
Room account (Deposit n) = account.balance + n < 2 ^ 32
Room account (Withdraw n) = Unit {0}

-- the results that an operation allows
abbrev pub shape_of : AccountOperation → Shape
shape_of Balance = Between (pos 0) (pos balance_most)
shape_of (Deposit n) = Done
shape_of (Withdraw n) = DoneOrFailed

-- the row of each class of answer: balance, deposit, withdraw OK, withdraw FAIL; its key is the balance or the amount
abbrev pub class_of : AccountOperation → Outcome → Option Class
class_of Balance (Value v) = in_row 0 v
class_of Balance Ok = None
class_of Balance Fail = None
class_of (Deposit n) Ok = in_row 1 (pos n)
class_of (Deposit n) Fail = None
class_of (Deposit n) (Value v) = None
class_of (Withdraw n) Ok = in_row 2 (pos n)
class_of (Withdraw n) Fail = in_row 3 (pos n)
class_of (Withdraw n) (Value v) = None

-- request Q-2: balance v and a successful withdrawal of b conflict exactly when v is at least b
abbrev pub table : List (List Rule)
table =
    (Pass ∷ Conflict ∷ IfAtLeast ∷ Pass ∷ []) ∷
    (Conflict ∷ Pass ∷ Pass ∷ Conflict ∷ []) ∷
    (IfAtMost ∷ Pass ∷ Conflict ∷ Pass ∷ []) ∷
    (Pass ∷ Conflict ∷ Pass ∷ Pass ∷ []) ∷ []
