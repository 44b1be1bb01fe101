-- The smallest cause of a conflict, as it is computed. `conflict_caused` (Claims) says that it is one wherever two possible answers conflict, so how it is
-- found need not be believed; elsewhere it says nothing. Source: requests Q-2, Q-3 and Q-5.
use Rattle.std.specs.Prelude.{ℕ, ◌-◌, ◌^◌, max, Bool, not, cond, ℤ, pos, nat_abs, eqb}
use Rattle.kinds.specs.declared.Kind.{Kind}
use Rattle.kinds.specs.declared.Kind.TheVariants.{Account, Register, Counter, Bin, Unknown}
use Rattle.kinds.specs.declared.State.{State}
use Rattle.kinds.specs.declared.account.AccountOperation.{AccountOperation}
use Rattle.kinds.specs.declared.account.AccountOperation.TheVariants.{Balance, Deposit, Withdraw}
use Rattle.kinds.specs.declared.register.RegisterOperation.{RegisterOperation}
use Rattle.kinds.specs.declared.counter.CounterOperation.{CounterOperation}
use Rattle.kinds.specs.declared.bin.BinOperation.{BinOperation}
use Rattle.kinds.specs.declared.bin.BinOperation.TheVariants.{Put, Take, Look}
use Rattle.kinds.specs.declared.outcome.Outcome.{Outcome}
use Rattle.kinds.specs.declared.outcome.Outcome.TheVariants.{Ok, Fail, Value}
use Rattle.kinds.specs.declared.Answered.{Answered}
use Rattle.kinds.specs.Kinds.{on_account, on_register, on_counter, on_bin}
use Rattle.kinds.specs.Outcome.{ok, numbers_of}
use Rattle.kinds.specs.Account as A
use Rattle.kinds.specs.Register as R
use Rattle.kinds.specs.Counter as K
use Rattle.kinds.specs.Bin as B

-- the value that the outcome shows, else the other; a balance, a read or a count is right in no other state than that
abbrev pub shown : Outcome → ℤ → ℤ
shown (Value v) other = v
shown Ok other = other
shown Fail other = other

-- the least balance that covers each withdrawal alone, or from which the deposit makes the withdrawal covered
abbrev covering : AccountOperation → AccountOperation → ℕ
covering (Withdraw n) (Withdraw m) = max n m
covering (Withdraw n) (Deposit m) = n - m
covering (Withdraw n) Balance = 0
covering (Deposit n) (Withdraw m) = m - n
covering (Deposit n) (Deposit m) = 0
covering (Deposit n) Balance = 0
covering Balance o = 0

abbrev pub balance_for : AccountOperation → Outcome → AccountOperation → Outcome → ℕ
balance_for o r o' r' = nat_abs (shown r (shown r' (pos (covering o o'))))

abbrev pub value_for : RegisterOperation → Outcome → RegisterOperation → Outcome → ℕ
value_for o r o' r' = nat_abs (shown r (shown r' (pos 0)))

abbrev pub count_for : CounterOperation → Outcome → CounterOperation → Outcome → ℤ
count_for o r o' r' = shown r (shown r' (pos 0))

abbrev pub is_ok : Outcome → Bool
is_ok r = eqb (numbers_of r).a ok

-- whether the answer needs its part in
abbrev pub was_in : BinOperation → Outcome → Bool
was_in (Put i) r = not (is_ok r)
was_in (Take i) r = is_ok r
was_in (Look i) r = eqb (nat_abs (shown r (pos 0))) 1

-- the part alone, or nothing
abbrev pub parts_for : BinOperation → Outcome → BinOperation → Outcome → ℕ
parts_for o r o' r' = cond (was_in o r) (2 ^ B.part_of o) 0

-- where an operation is of another kind, 0
abbrev pub witness_of : Kind → Answered → Answered → State
witness_of Account p q = A.account_of (on_account p.operation 0 (λ o. on_account q.operation 0 (λ o'. balance_for o p.outcome o' q.outcome)))
witness_of Register p q = R.register_of (on_register p.operation 0 (λ o. on_register q.operation 0 (λ o'. value_for o p.outcome o' q.outcome)))
witness_of Counter p q = K.counter_of (on_counter p.operation (pos 0) (λ o. on_counter q.operation (pos 0) (λ o'. count_for o p.outcome o' q.outcome)))
witness_of Bin p q = B.bin_of (on_bin p.operation 0 (λ o. on_bin q.operation 0 (λ o'. parts_for o p.outcome o' q.outcome)))
witness_of Unknown p q = A.account_of 0
