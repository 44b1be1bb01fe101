-- What `decode` lets through: the operations of the kind with their arguments in range. So no sum wraps, and every answer is one that the form allows.
use Rattle.std.specs.Prelude.{Option, Some, None}
use mathlib.Core.Path.{◌≡◌, refl}
use mathlib.Core.Bool.{true}
use mathlib.Core.Logic.{⊎_elim}
use Prim.Native.Nat.{ℕ, suc, ◌+◌, ◌-◌, ◌^◌, ◌≤◌}
use mathlib.Core.List.{List, [], ◌∷◌}
use lib.ListN.{length}
use native.Mathlib.Nat.{add-zero}
use native.Mathlib.Omega.{arith}
use lib.IntN.{ℤ, pos, neg_ℤ, nat_abs, ◌+ℤ◌}
use lib.Signed.{le_z}
use lib.Dec.{eqb}
use borrow.Author.Tests.{le-leb, lt-leb}
use Rattle.below.proofs.Tests.{le_or}
use Rattle.theory.specs.Serial.{Op, run}
use Rattle.kinds.specs.Kinds.{opened_of, decode_of, step_of, Room, Bounded, recall_of}
use Rattle.kinds.specs.Outcome.{numbers_of, with_value}
use Rattle.kinds.specs.Account as A
use Rattle.kinds.specs.Register as R
use Rattle.kinds.specs.Counter as K
use Rattle.kinds.specs.Bin as B
use Rattle.kinds.specs.Object.{StateOf, account, register, counter, bin, object_of, AllFit, Grown, upto, kept, aside, within}
use Rattle.kinds.specs.declared.Kind.{Kind}
use Rattle.kinds.specs.declared.Kind.TheVariants.{Account, Register, Counter, Bin, Unknown}
use Rattle.kinds.specs.declared.account.AccountOperation.TheVariants.{Balance, Deposit, Withdraw}
use Rattle.kinds.specs.declared.register.RegisterOperation.TheVariants.{Read, Write}
use Rattle.kinds.specs.declared.counter.CounterOperation.TheVariants.{Adjust, Count}
use Rattle.kinds.specs.declared.bin.BinOperation.{BinOperation}
use Rattle.kinds.specs.declared.bin.BinOperation.TheVariants.{Put, Take, Look}
use Rattle.kinds.specs.declared.State.{State}
use Rattle.kinds.specs.declared.State.TheVariants as S
use Rattle.kinds.specs.declared.Operation.{Operation}
use Rattle.kinds.specs.declared.Operation.TheVariants as O
use Rattle.kinds.specs.declared.outcome.Outcome.TheVariants.{Value}
use Rattle.kinds.proofs.Within.{ranged, either}
use Rattle.kinds.proofs.Digits.{by_part, put_fits}
use Rattle.kinds.proofs.Sizes.{sum_size, above_least, below_most, either_sided}

pub data Takes : Kind → Operation → Type 0 where
  balance : Takes Account (O.Account Balance)
  deposit : {n : ℕ} → A.amount_least ≤ n → n ≤ A.amount_most → Takes Account (O.Account (Deposit n))
  withdraw : {n : ℕ} → A.amount_least ≤ n → n ≤ A.amount_most → Takes Account (O.Account (Withdraw n))
  read : Takes Register (O.Register Read)
  write : {n : ℕ} → n ≤ R.value_most → Takes Register (O.Register (Write n))
  adjust : {z : ℤ} → nat_abs z ≤ K.adjustment_most → Takes Counter (O.Counter (Adjust z))
  count : Takes Counter (O.Counter Count)
  put : {i : ℕ} → i ≤ B.part_most → Takes Bin (O.Bin (Put i))
  take : {i : ℕ} → i ≤ B.part_most → Takes Bin (O.Bin (Take i))
  look : {i : ℕ} → i ≤ B.part_most → Takes Bin (O.Bin (Look i))

abbrev TakesIf : Kind → Option Operation → Type 0
TakesIf kind (Some o) = Takes kind o
TakesIf kind None = Unit {0}

takes_if : (kind : Kind) (k : ℕ) (x : ℤ) → TakesIf kind (decode_of kind k x)
takes_if Account k x =
    either (TakesIf Account) (eqb k 1) _ _ (ranged (TakesIf Account) (λ n. Some (O.Account Balance)) None x 0 0 (λ n l h. balance) tt)
    (either (TakesIf Account) (eqb k 2) _ _ (ranged (TakesIf Account) (λ n. Some (O.Account (Deposit n))) None x A.amount_least A.amount_most (λ n l h. deposit l h) tt)
    (either (TakesIf Account) (eqb k 3) _ _ (ranged (TakesIf Account) (λ n. Some (O.Account (Withdraw n))) None x A.amount_least A.amount_most (λ n l h. withdraw l h) tt) tt))
takes_if Register k x =
    either (TakesIf Register) (eqb k 4) _ _ (ranged (TakesIf Register) (λ n. Some (O.Register Read)) None x 0 0 (λ n l h. read) tt)
    (either (TakesIf Register) (eqb k 5) _ _ (ranged (TakesIf Register) (λ n. Some (O.Register (Write n))) None x 0 R.value_most (λ n l h. write h) tt) tt)
takes_if Counter k x =
    either (TakesIf Counter) (eqb k 6) _ _ (either_sided (TakesIf Counter) (λ z. Some (O.Counter (Adjust z))) None x K.adjustment_most (λ h. adjust {z = x} h) tt)
    (either (TakesIf Counter) (eqb k 7) _ _ (ranged (TakesIf Counter) (λ n. Some (O.Counter Count)) None x 0 0 (λ n l h. count) tt) tt)
takes_if Bin k x =
    ranged (TakesIf Bin) (B.operation_on k) None x 0 B.part_most
    (λ i l h. either (TakesIf Bin) (eqb k 8) _ _ (put h) (either (TakesIf Bin) (eqb k 9) _ _ (take h) (either (TakesIf Bin) (eqb k 10) _ _ (look h) tt))) tt
takes_if Unknown k x = tt

pub decoded_takes : (kind : Kind) (k : ℕ) (x : ℤ) (o : Operation) → decode_of kind k x ≡ Some o → Takes kind o
decoded_takes kind k x o e = rw e at (takes_if kind k x)

-- a deposit or an adjustment that is let through fits, and a part that is has its digit
deposit_most : {kind : Kind} {n : ℕ} → Takes kind (O.Account (Deposit n)) → n ≤ A.amount_most
deposit_most (deposit l h) = h

adjustment_most_lem : {kind : Kind} {z : ℤ} → Takes kind (O.Counter (Adjust z)) → nat_abs z ≤ K.adjustment_most
adjustment_most_lem (adjust h) = h

pub part_most_lem : {kind : Kind} {o : BinOperation} → Takes kind (O.Bin o) → B.Room o
part_most_lem (put h) = h
part_most_lem (take h) = h
part_most_lem (look h) = h

pub takes_room : (kind : Kind) (o : Operation) (s : State) → Takes kind o → Bounded s → Room s o
takes_room kind (O.Account Balance) (S.Account a) t h = tt
takes_room kind (O.Account (Deposit n)) (S.Account a) t h = omega (arith, deposit_most t)
takes_room kind (O.Account (Withdraw n)) (S.Account a) t h = tt
takes_room kind (O.Register o) (S.Account a) t h = tt
takes_room kind (O.Counter o) (S.Account a) t h = tt
takes_room kind (O.Bin o) (S.Account a) t h = tt
takes_room kind o (S.Register v) t h = tt
takes_room kind (O.Account o) (S.Counter c) t h = tt
takes_room kind (O.Register o) (S.Counter c) t h = tt
takes_room kind (O.Counter (Adjust z)) (S.Counter c) t h = omega (arith, sum_size c.count z, adjustment_most_lem t)
takes_room kind (O.Counter Count) (S.Counter c) t h = tt
takes_room kind (O.Bin o) (S.Counter c) t h = tt
takes_room kind (O.Account o) (S.Bin b) t h = tt
takes_room kind (O.Register o) (S.Bin b) t h = tt
takes_room kind (O.Counter o) (S.Bin b) t h = tt
takes_room kind (O.Bin o) (S.Bin b) t h = part_most_lem t

-- a value in its range is read back
value_recalled : (v low high : ℤ) → le_z low v ≡ true → le_z v high ≡ true → with_value v low high ≡ Some (Value v)
value_recalled v low high l h = rw (l, h)

-- the answer's numbers are read back as that answer
pub takes_recalled : (kind : Kind) (o : Operation) (s : State) → StateOf kind s → Takes kind o → Bounded s
    → recall_of o (numbers_of (step_of s o).outcome).a (numbers_of (step_of s o).outcome).b ≡ Some (step_of s o).outcome
takes_recalled kind o s (account {n}) balance h = value_recalled (pos n) (pos 0) (pos A.balance_most) (le-leb 0 n (omega arith)) (le-leb n A.balance_most h)
takes_recalled kind o s account (deposit l m) h = refl
takes_recalled kind o s (account {n}) (withdraw {n = m} l k) h = ⊎_elim (λ e. rw (le-leb m n e)) (λ e. rw (lt-leb m n e)) (le_or m n)
takes_recalled kind o s (register {n} b) read h = value_recalled (pos n) (pos 0) (pos R.value_most) (le-leb 0 n (omega arith)) (le-leb n R.value_most h)
takes_recalled kind o s (register b) (write m) h = refl
takes_recalled kind o s counter (adjust m) h = refl
takes_recalled kind o s (counter {z}) count h = value_recalled z (neg_ℤ (pos K.count_bound)) (pos K.count_bound) (above_least z K.count_bound h) (below_most z K.count_bound h)
takes_recalled kind o s (bin {n} b) (put {i} m) h = by_part n i (λ e. rw e) (λ e. rw e)
takes_recalled kind o s (bin {n} b) (take {i} m) h = by_part n i (λ e. rw e) (λ e. rw e)
takes_recalled kind o s (bin {n} b) (look {i} m) h = by_part n i (λ e. rw e) (λ e. rw e)

-- what has grown by at most k has by at most one more
pub grown_more : (kind : Kind) (k : ℕ) (s : State) → Grown kind k s → Grown kind (suc k) s
grown_more kind i s (upto n k h) = upto n (suc k) (omega arith)
grown_more kind i s (kept n k h) = kept n (suc k) h
grown_more kind i s (aside z k h) = aside z (suc k) (omega arith)
grown_more kind i s (within n k h) = within n (suc k) h

-- a step keeps the kind's states, and grows by one deposit or adjustment at most
pub takes_grown : (kind : Kind) (o : Operation) (s : State) (k : ℕ) → Grown kind k s → Takes kind o → Grown kind (suc k) (step_of s o).state
takes_grown kind o s i (upto n k h) balance = grown_more kind k (A.account_of n) (upto n k h)
takes_grown kind o s i (upto n k h) (deposit {n = m} l r) = upto (n + m) (suc k) (omega arith)
takes_grown kind o s i (upto n k h) (withdraw {n = m} l r) =
    ⊎_elim (λ e. rw (le-leb m n e) (upto (n - m) (suc k) (omega arith))) (λ e. rw (lt-leb m n e) (upto n (suc k) (omega arith))) (le_or m n)
takes_grown kind o s i (kept n k h) read = grown_more kind k (R.register_of n) (kept n k h)
takes_grown kind o s i (kept n k h) (write {n = m} r) = kept m (suc k) r
takes_grown kind o s i (aside z k h) (adjust {z = y} m) = aside (z +ℤ y) (suc k) (omega (arith, sum_size z y))
takes_grown kind o s i (aside z k h) count = grown_more kind k (K.counter_of z) (aside z k h)
takes_grown kind o s j (within n k h) (put {i} m) =
    by_part n i (λ e. rw e (within n (suc k) h)) (λ e. rw e (within (n + 2 ^ i) (suc k) (omega (arith, put_fits n i 32 e (omega arith) (omega arith)))))
takes_grown kind o s j (within n k h) (take {i} m) =
    by_part n i (λ e. rw e (within (n - 2 ^ i) (suc k) (omega arith))) (λ e. rw e (within n (suc k) h))
takes_grown kind o s j (within n k h) (look m) = within n (suc k) h

pub grown_has : (kind : Kind) (k : ℕ) (s : State) → Grown kind k s → k ≤ 1024 → StateOf kind s × Bounded s
grown_has kind i s (upto n k h) l = (account, omega arith)
grown_has kind i s (kept n k h) l = (register h, h)
grown_has kind i s (aside z k h) l = (counter, omega arith)
grown_has kind i s (within n k h) l = (bin h, h)

-- an opening has grown by nothing
abbrev GrownIf : Kind → Option State → Type 0
GrownIf kind (Some s) = Grown kind 0 s
GrownIf kind None = Unit {0}

opens_grown : (kind : Kind) (x : ℤ) → GrownIf kind (opened_of kind x)
opens_grown Account x = ranged (GrownIf Account) (λ n. Some (A.account_of n)) None x 0 A.opening_most (λ n l h. upto n 0 (omega arith)) tt
opens_grown Register x = ranged (GrownIf Register) (λ n. Some (R.register_of n)) None x 0 R.value_most (λ n l h. kept n 0 h) tt
opens_grown Counter x = either_sided (GrownIf Counter) (λ z. Some (K.counter_of z)) None x K.opening_most (λ h. aside x 0 (omega arith)) tt
opens_grown Bin x = ranged (GrownIf Bin) (λ n. Some (B.bin_of n)) None x 0 B.opening_most (λ n l h. within n 0 h) tt
opens_grown Unknown x = tt

pub opened_grown : (kind : Kind) (x : ℤ) (s : State) → opened_of kind x ≡ Some s → Grown kind 0 s
opened_grown kind x s e = rw e at (opens_grown kind x)

pub run_grown : (kind : Kind) (l : List (Op (object_of kind))) (s : State) (k : ℕ) → AllFit kind l → Grown kind k s → Grown kind (k + length l) (run (object_of kind) s l)
run_grown kind [] s k fit g = rw add-zero g
run_grown kind (p ∷ l) s k fit g =
    let e : k + suc (length l) ≡ suc k + length l = omega arith in
    let t = decoded_takes kind fit.0.0 fit.0.1 p.ask fit.0.2 in
    rw e (run_grown kind l (step_of s p.ask).state (suc k) fit.1 (takes_grown kind p.ask s k g t))
