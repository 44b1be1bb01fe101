-- Every answer that the form lets stand is possible: some state of the kind gives it.
use Rattle.std.specs.Prelude.{Option, Some, None}
use mathlib.Core.Path.{◌≡◌, refl, ap}
use mathlib.Core.Bool.{true}
use Prim.Native.Nat.{ℕ, zero, suc, ◌^◌, ◌≤◌}
use native.Mathlib.Omega.{arith}
use lib.IntN.{ℤ, pos, negsuc, neg_ℤ, nat_abs}
use lib.Signed.{le_z}
use lib.Dec.{eqb}
use borrow.Author.Tests.{leb-true, le-leb, lt-leb}
use Rattle.std.proofs.lemmas.Int.{ints}
use Rattle.theory.specs.Serial.{Right}
use Rattle.kinds.specs.Outcome.{ok, fail, value, without_value, recalled}
use Rattle.kinds.specs.Kinds.{recall_of}
use Rattle.kinds.specs.Account as A
use Rattle.kinds.specs.Register as R
use Rattle.kinds.specs.Counter as K
use Rattle.kinds.specs.Bin as B
use Rattle.kinds.specs.Object.{StateOf, account, register, counter, bin, object_of}
use Rattle.kinds.specs.declared.Kind.{Kind}
use Rattle.kinds.specs.declared.Kind.TheVariants.{Account, Register, Counter, Bin}
use Rattle.kinds.specs.declared.account.AccountOperation.TheVariants.{Balance, Deposit, Withdraw}
use Rattle.kinds.specs.declared.register.RegisterOperation.TheVariants.{Read, Write}
use Rattle.kinds.specs.declared.counter.CounterOperation.TheVariants.{Adjust, Count}
use Rattle.kinds.specs.declared.bin.BinOperation.{BinOperation}
use Rattle.kinds.specs.declared.bin.BinOperation.TheVariants.{Put, Take, Look}
use Rattle.kinds.specs.declared.State.{State}
use Rattle.kinds.specs.declared.Operation.{Operation}
use Rattle.kinds.specs.declared.Operation.TheVariants as O
use Rattle.kinds.specs.declared.outcome.Outcome.{Outcome}
use Rattle.kinds.specs.declared.outcome.Outcome.TheVariants.{Ok, Fail, Value}
use Rattle.kinds.specs.declared.outcome.Shape.TheVariants.{Done, DoneOrFailed, Between}
use Rattle.kinds.proofs.Within.{ranged, ranged_signed, either}
use Rattle.kinds.proofs.Digits.{none_in, one_in, power_most}
use Rattle.kinds.proofs.Takes.{Takes, balance, deposit, withdraw, read, write, adjust, count, put, take, look}

abbrev pub Gives : Kind → Operation → Outcome → Type 0
Gives kind o r = (s : State) × StateOf kind s × Right (object_of kind) s (record { ask = o; reply = r })

abbrev GivesIf : Kind → Operation → Option Outcome → Type 0
GivesIf kind o (Some r) = Gives kind o r
GivesIf kind o None = Unit {0}

-- an outcome that has no value
plain : (kind : Kind) (o : Operation) (r : Outcome) (b : ℤ) → Gives kind o r → GivesIf kind o (without_value r b)
plain kind o r b g = ranged (GivesIf kind o) (λ n. Some r) None b 0 0 (λ n l h. g) tt

-- each shape, from a state for each of its outcomes
module _ (kind : Kind) (o : Operation) (a : ℕ) (b : ℤ) where
  done : Gives kind o Ok → GivesIf kind o (recalled Done a b)
  done ok_at = either (GivesIf kind o) (eqb a ok) _ _ (plain kind o Ok b ok_at) tt

  done_or_failed : Gives kind o Ok → Gives kind o Fail → GivesIf kind o (recalled DoneOrFailed a b)
  done_or_failed ok_at fail-at =
      either (GivesIf kind o) (eqb a ok) _ _ (plain kind o Ok b ok_at) (either (GivesIf kind o) (eqb a fail) _ _ (plain kind o Fail b fail-at) tt)

  between : (low high : ℤ) → (le_z low b ≡ true → le_z b high ≡ true → Gives kind o (Value b)) → GivesIf kind o (recalled (Between low high) a b)
  between low high at = either (GivesIf kind o) (eqb a value) _ _ (ranged_signed (GivesIf kind o) (λ v. Some (Value v)) None b low high at tt) tt

-- a value from 0
from_zero : (b : ℤ) → le_z (pos 0) b ≡ true → pos (nat_abs b) ≡ b
from_zero b e = grind (arith, ints)

at_most : (b : ℤ) (n : ℕ) → le_z (pos 0) b ≡ true → le_z b (pos n) ≡ true → nat_abs b ≤ n
at_most b n l h = grind (arith, ints)

-- from an empty bin, and from one with a part alone
empty : (o : BinOperation) (r : Outcome) → Right (object_of Bin) (B.bin_of 0) (record { ask = O.Bin o; reply = r }) → Gives Bin (O.Bin o) r
empty o r right = (B.bin_of 0, bin {n = 0} (omega arith), right)

alone : (i : ℕ) → i ≤ B.part_most → (o : BinOperation) (r : Outcome) → Right (object_of Bin) (B.bin_of (2 ^ i)) (record { ask = O.Bin o; reply = r }) → Gives Bin (O.Bin o) r
alone i h o r right = (B.bin_of (2 ^ i), bin (power_most i h), right)

seen : (b : ℤ) (i : ℕ) → i ≤ B.part_most → le_z (pos 0) b ≡ true → le_z b (pos 1) ≡ true → Gives Bin (O.Bin (Look i)) (Value b)
seen (pos zero) i h l r = empty (Look i) (Value (pos 0)) (rw (none_in i) refl)
seen (pos (suc zero)) i h l r = alone i h (Look i) (Value (pos 1)) (rw (one_in i) refl)
seen (pos (suc (suc n))) i h l r = absurd (omega (arith, leb-true (suc (suc n)) 1 r))
seen (negsuc n) i h l r = cc

gives_if : (kind : Kind) (o : Operation) (a : ℕ) (b : ℤ) → Takes kind o → GivesIf kind o (recall_of o a b)
gives_if kind o a b balance =
    between Account (O.Account Balance) a b (pos 0) (pos A.balance_most) (λ l h. (A.account_of (nat_abs b), account, ap Value (from_zero b l)))
gives_if kind o a b (deposit {n} l h) = done Account (O.Account (Deposit n)) a b (A.account_of 0, account, refl)
gives_if kind o a b (withdraw {n} l h) =
    done_or_failed Account (O.Account (Withdraw n)) a b (A.account_of n, account, rw (le-leb n n (omega arith))) (A.account_of 0, account, rw (lt-leb n 0 (omega arith)))
gives_if kind o a b read =
    between Register (O.Register Read) a b (pos 0) (pos R.value_most)
    (λ l h. (R.register_of (nat_abs b), register (at_most b R.value_most l h), ap Value (from_zero b l)))
gives_if kind o a b (write {n} h) = done Register (O.Register (Write n)) a b (R.register_of 0, register (omega arith), refl)
gives_if kind o a b (adjust {z} h) = done Counter (O.Counter (Adjust z)) a b (K.counter_of (pos 0), counter, refl)
gives_if kind o a b count = between Counter (O.Counter Count) a b (neg_ℤ (pos K.count_bound)) (pos K.count_bound) (λ l h. (K.counter_of b, counter, refl))
gives_if kind o a b (put {i} h) =
    done_or_failed Bin (O.Bin (Put i)) a b (empty (Put i) Ok (rw (none_in i) refl)) (alone i h (Put i) Fail (rw (one_in i) refl))
gives_if kind o a b (take {i} h) =
    done_or_failed Bin (O.Bin (Take i)) a b (alone i h (Take i) Ok (rw (one_in i) refl)) (empty (Take i) Fail (rw (none_in i) refl))
gives_if kind o a b (look {i} h) = between Bin (O.Bin (Look i)) a b (pos 0) (pos 1) (seen b i h)

pub recalled_gives : (kind : Kind) (o : Operation) (a : ℕ) (b : ℤ) (r : Outcome) → Takes kind o → recall_of o a b ≡ Some r → Gives kind o r
recalled_gives kind o a b r t e = rw e at (gives_if kind o a b t)
