-- What is proved of the serial objects, besides each function's own contract.
use Rattle.std.specs.Prelude.{Some}
use mathlib.Core.Path.{◌≡◌, refl, sym, ap}
use mathlib.Core.Bool.{true, false}
use mathlib.Core.Logic.{◌↔◌, ⊎_elim}
use mathlib.Core.List.{List}
use Prim.Native.Nat.{ℕ, ◌+◌, ◌*◌, ◌≤◌}
use native.Mathlib.Nat.{zero-add}
use lib.IntN.{ℤ, pos, nat_abs}
use lib.ListN.{length}
use borrow.Author.Tests.{leb-true, le-leb}
use Rattle.below.proofs.Tests.{bool_or}
use Rattle.theory.specs.Serial.{Op, Right, Swaps, Commute, AlikeIsSame, run}
use Rattle.kinds.specs.Kinds.{opened_of, decode_of, step_of, Room, Bounded, recall_of, table_of, class_of, conflict_of}
use Rattle.kinds.specs.Cause.{Possible, SmallestCause, value_of}
use Rattle.kinds.specs.Witness.{witness_of}
use Rattle.kinds.specs.Outcome.{numbers_of}
use Rattle.kinds.specs.Table.{entry}
use Rattle.kinds.specs.Account as A
use Rattle.kinds.specs.Register as R
use Rattle.kinds.specs.Counter as K
use Rattle.kinds.specs.Bin as B
use Rattle.kinds.specs.Object.{StateOf, account, register, counter, bin, object_of, op_of, AllFit}
use Rattle.kinds.specs.declared.Kind.{Kind}
use Rattle.kinds.specs.declared.Kind.TheVariants.{Account, Register, Counter, Bin, Unknown}
use Rattle.kinds.specs.declared.account.AccountOperation.TheVariants.{Balance, Withdraw}
use Rattle.kinds.specs.declared.register.RegisterOperation.TheVariants.{Read, Write}
use Rattle.kinds.specs.declared.counter.CounterOperation.TheVariants.{Adjust, Count}
use Rattle.kinds.specs.declared.State.{State}
use Rattle.kinds.specs.declared.Operation.{Operation}
use Rattle.kinds.specs.declared.Operation.TheVariants as O
use Rattle.kinds.specs.declared.outcome.Outcome.{Outcome}
use Rattle.kinds.specs.declared.outcome.Outcome.TheVariants.{Ok, Value}
use Rattle.kinds.specs.declared.Answered.{Answered}
use Rattle.kinds.proofs.Keys.{equal_keys, not_below_itself, at_most_each}
use Rattle.kinds.proofs.Entries.{size, sized, mirror, verdict_sym}
use Rattle.kinds.proofs.Takes.{decoded_takes, takes_room, takes_recalled, opened_grown, run_grown, grown_has}
use Rattle.kinds.proofs.Gives.{recalled_gives}
use Rattle.kinds.proofs.Exactly.{Exact}
use Rattle.kinds.proofs.account.Exact as account-exact
use Rattle.kinds.proofs.register.Exact as register-exact
use Rattle.kinds.proofs.counter.Exact as counter-exact
use Rattle.kinds.proofs.bin.Exact as bin-exact

exact : (kind : Kind) → Exact kind
exact Account = account-exact.exact
exact Register = register-exact.exact
exact Counter = counter-exact.exact
exact Bin = bin-exact.exact
exact Unknown = record { passes = λ p q e. cc; caused = λ p q e hp hq. let none = hp.fits.2 in cc }

-- What the table passes swaps in any state at all, those that the kind does not have among them.
pub passes_swap : (kind : Kind) (p q : Answered) → conflict_of kind p q ≡ false → (s : State)
    → Right (object_of kind) s (op_of kind p) → Right (object_of kind) s (op_of kind q) → Swaps (object_of kind) (op_of kind p) (op_of kind q) s
passes_swap kind = (exact kind).passes

-- Where it says conflict of possible answers there is a cause, and the witness is the smallest.
pub conflict_caused : (kind : Kind) (p q : Answered) → conflict_of kind p q ≡ true → Possible kind p → Possible kind q
    → SmallestCause kind p q (witness_of kind p q)
conflict_caused kind = (exact kind).caused

-- There is no other smallest cause.
same_value : {kind : Kind} {s t : State} → StateOf kind s → StateOf kind t → value_of s ≡ value_of t → s ≡ t
same_value account account e = ap (λ z. A.account_of (nat_abs z)) e
same_value (register h) (register k) e = ap (λ z. R.register_of (nat_abs z)) e
same_value counter counter e = ap K.counter_of e
same_value (bin h) (bin k) e = ap (λ z. B.bin_of (nat_abs z)) e

pub sole_cause : (kind : Kind) (p q : Answered) (s t : State) → SmallestCause kind p q s → SmallestCause kind p q t → s ≡ t
sole_cause kind p q s t a b =
    same_value a.cause.has b.cause.has (at_most_each (value_of s) (value_of t) (a.least t b.cause) (b.least s a.cause))

-- Demand 2, last clause: the table never lets two steps pass that the paper says don't commute.
pub passes_commute : (kind : Kind) (p q : Answered) → conflict_of kind p q ≡ false → Commute (object_of kind) (op_of kind p) (op_of kind q)
passes_commute kind p q e s has = passes_swap kind p q e s

-- Request Q-2: of answers that some state of the kind can give, with arguments in range, it says conflict exactly when the two don't commute.
pub conflicts_exactly : (kind : Kind) (p q : Answered) → Possible kind p → Possible kind q
    → conflict_of kind p q ≡ true ↔ ¬ Commute (object_of kind) (op_of kind p) (op_of kind q)
conflicts_exactly kind p q hp hq = (
  λ e commute. let c = (conflict_caused kind p q e hp hq).cause in c.differ (commute (witness_of kind p q) c.has c.p_right c.q_right),
  λ no. ⊎_elim (λ e. e) (λ e. absurd (no (passes_commute kind p q e))) (bool_or (conflict_of kind p q)),
)

-- Form rules: every answer on record that the form lets stand is possible.
pub allowed_possible : (kind : Kind) (k : ℕ) (x : ℤ) (o : Operation) (a : ℕ) (b : ℤ) (r : Outcome) → decode_of kind k x ≡ Some o → recall_of o a b ≡ Some r
    → Possible kind (record { operation = o; outcome = r })
allowed_possible kind k x o a b r fit e =
    let g = recalled_gives kind o a b r (decoded_takes kind k x o fit) e in
    record { fits = (k, x, fit); state = g.0; has = g.1; gives = g.2 }

-- Document 01: the table is symmetric.
pub conflicts_symmetric : (kind : Kind) (p q : Answered) → conflict_of kind p q ≡ conflict_of kind q p
conflicts_symmetric kind p q =
    verdict_sym (table_of kind) (size kind) (sized kind) (mirror kind) (class_of kind p.operation p.outcome) (class_of kind q.operation q.outcome)

-- Request Q-1: two adjustments pass each other, and two counts; an adjustment and a count conflict exactly when the adjustment isn't 0.
abbrev adjusted : ℤ → Answered
adjusted z = record { operation = O.Counter (Adjust z); outcome = Ok }

abbrev counted : ℤ → Answered
counted v = record { operation = O.Counter Count; outcome = Value v }

pub adjustments_pass : (y z : ℤ) → conflict_of Counter (adjusted y) (adjusted z) ≡ false
unfolding entry
adjustments_pass y z = refl

pub counts_pass : (v w : ℤ) → conflict_of Counter (counted v) (counted w) ≡ false
unfolding entry
counts_pass v w = refl

pub zero_passes_count : (v z : ℤ) → conflict_of Counter (adjusted z) (counted v) ≡ false ↔ z ≡ pos 0
unfolding entry
zero_passes_count v z = (equal_keys z (pos 0), λ e. rw e)

pub count_passes_zero : (v z : ℤ) → conflict_of Counter (counted v) (adjusted z) ≡ false ↔ z ≡ pos 0
unfolding entry
count_passes_zero v z = (λ e. sym (equal_keys (pos 0) z e), λ e. rw e)

-- Request Q-2: read v and write w conflict unless v equals w, and two writes unless they put the same value; balance v and a successful withdrawal of b
-- conflict exactly when v is at least b. Either may be the one that asks.
abbrev seen : ℤ → Answered
seen v = record { operation = O.Register Read; outcome = Value v }

abbrev written : ℕ → Answered
written n = record { operation = O.Register (Write n); outcome = Ok }

abbrev balanced : ℕ → Answered
balanced v = record { operation = O.Account Balance; outcome = Value (pos v) }

abbrev withdrawn : ℕ → Answered
withdrawn b = record { operation = O.Account (Withdraw b); outcome = Ok }

pub equal_read_passes_write : (v : ℤ) (w : ℕ) → conflict_of Register (seen v) (written w) ≡ false ↔ v ≡ pos w
unfolding entry
equal_read_passes_write v w = (equal_keys v (pos w), λ e. rw (e, not_below_itself (pos w)))

pub equal_write_passes_read : (v : ℤ) (w : ℕ) → conflict_of Register (written w) (seen v) ≡ false ↔ v ≡ pos w
equal_write_passes_read v w = rw (conflicts_symmetric Register (written w) (seen v)) (equal_read_passes_write v w)

pub equal_writes_pass : (v w : ℕ) → conflict_of Register (written v) (written w) ≡ false ↔ v ≡ w
unfolding entry
equal_writes_pass v w = (λ e. ap nat_abs (equal_keys (pos v) (pos w) e), λ e. rw (e, not_below_itself (pos w)))

pub balance_waits_for_withdrawal : (v b : ℕ) → conflict_of Account (balanced v) (withdrawn b) ≡ true ↔ b ≤ v
unfolding entry
balance_waits_for_withdrawal v b = (leb-true b v, le-leb b v)

pub withdrawal_waits_for_balance : (v b : ℕ) → conflict_of Account (withdrawn b) (balanced v) ≡ true ↔ b ≤ v
withdrawal_waits_for_balance v b = rw (conflicts_symmetric Account (withdrawn b) (balanced v)) (balance_waits_for_withdrawal v b)

-- Request Q-5's example: case 2 of document 01, a withdrawal of 4 that waits for one of 6.
pub case_2_witness : value_of (witness_of Account (withdrawn 4) (withdrawn 6)) ≡ pos 6
case_2_witness = refl

-- Ends that are indistinguishable are equal.
pub alike_is_same : (kind : Kind) → AlikeIsSame (object_of kind)
alike_is_same kind s t (account {n}) (account {n = m}) alike = ap A.account_of (account-exact.same n m alike)
alike_is_same kind s t (register {n} h) (register {n = m} k) alike = ap R.register_of (register-exact.same n m alike)
alike_is_same kind s t (counter {z}) (counter {z = y}) alike = ap K.counter_of (counter-exact.same z y alike)
alike_is_same kind s t (bin {n} h) (bin {n = m} k) alike = ap B.bin_of (bin-exact.same n m alike)

-- Document 01: no balance can exceed the largest opening and 1,024 deposits of the largest size; request Q-1: a count stays as far within either side of
-- zero; request Q-3: a bin has parts 0 to 31 and no other (`no_other_parts`, bin/Claims.antt). From an accepted opening, after at most 1,024 operations
-- that `decode` lets through, the object is in a state of its kind and within its bound.
pub largest_balance : A.opening_most + 1024 * A.amount_most ≡ A.balance_most
largest_balance = refl

pub largest_count : K.opening_most + 1024 * K.adjustment_most ≡ K.count_bound
largest_count = refl

pub stays_bounded : (kind : Kind) (x : ℤ) (s : State) (l : List (Op (object_of kind))) → opened_of kind x ≡ Some s → AllFit kind l → length l ≤ 1024
    → StateOf kind (run (object_of kind) s l) × Bounded (run (object_of kind) s l)
stays_bounded kind x s l e t h = grown_has kind (0 + length l) (run (object_of kind) s l) (run_grown kind l s 0 t (opened_grown kind x s e)) (rw zero-add h)

-- No sum can wrap, and every part has a digit: within its bound the object has room for what `decode` lets through.
pub no_sum_wraps : (kind : Kind) (k : ℕ) (x : ℤ) (o : Operation) (s : State) → decode_of kind k x ≡ Some o → Bounded s → Room s o
no_sum_wraps kind k x o s e = takes_room kind o s (decoded_takes kind k x o e)

-- Form rules: an answer is of a shape that its operation allows, and its numbers are read back as that answer.
pub answers_recalled : (kind : Kind) (k : ℕ) (x : ℤ) (o : Operation) (s : State) → decode_of kind k x ≡ Some o → StateOf kind s → Bounded s
    → recall_of o (numbers_of (step_of s o).outcome).a (numbers_of (step_of s o).outcome).b ≡ Some (step_of s o).outcome
answers_recalled kind k x o s e has = takes_recalled kind o s has (decoded_takes kind k x o e)
