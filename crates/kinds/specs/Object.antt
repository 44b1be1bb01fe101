-- Each kind as a serial object of the paper, over all its states. Source: document 01, "The conflict table"; requests Q-1 and Q-3.
use Rattle.std.specs.Prelude.{◌≡◌, List, [], ◌∷◌, ℕ, ◌+◌, ◌*◌, ◌≤◌, ℤ, nat_abs, Some}
use Rattle.theory.specs.Serial.{Serial, Op}
use Rattle.kinds.specs.declared.Kind.{Kind}
use Rattle.kinds.specs.declared.Kind.TheVariants.{Account, Register, Counter, Bin}
use Rattle.kinds.specs.declared.State.{State}
use Rattle.kinds.specs.declared.Operation.{Operation}
use Rattle.kinds.specs.declared.outcome.Outcome.{Outcome}
use Rattle.kinds.specs.declared.Answered.{Answered}
use Rattle.kinds.specs.Kinds.{decode_of, step_of}
use Rattle.kinds.specs.Account as A
use Rattle.kinds.specs.Register as R
use Rattle.kinds.specs.Counter as K
use Rattle.kinds.specs.Bin as B

-- all whole numbers from 0 for an account, 0 to 1,000,000,000 for a register, all whole numbers, negative too, for a counter, and 0 to 4,294,967,295 for a bin
pub data StateOf : Kind → State → Type 0 where
  account : {n : ℕ} → StateOf Account (A.account_of n)
  register : {n : ℕ} → n ≤ R.value_most → StateOf Register (R.register_of n)
  counter : {z : ℤ} → StateOf Counter (K.counter_of z)
  bin : {n : ℕ} → n ≤ B.opening_most → StateOf Bin (B.bin_of n)

abbrev pub object_of : Kind → Serial
object_of kind = record {
  State = State;
  Has = StateOf kind;
  Ask = Operation;
  Reply = Outcome;
  answer = λ s o. (step_of s o).outcome;
  next = λ s o. (step_of s o).state;
}

-- an operation with its outcome, as the paper's operation
abbrev pub op_of : (kind : Kind) → Answered → Op (object_of kind)
op_of kind p = record { ask = p.operation; reply = p.outcome }

-- an operation of the kind with its argument in range: one that `decode` lets through
abbrev pub Fits : Kind → Operation → Type 0
Fits kind o = (k : ℕ) × (x : ℤ) × (decode_of kind k x ≡ Some o)

abbrev pub AllFit : (kind : Kind) → List (Op (object_of kind)) → Type 0
AllFit kind [] = Unit {0}
AllFit kind (p ∷ l) = Fits kind p.ask × AllFit kind l

-- a state of the kind, grown from an opening by at most so many deposits or adjustments of the largest size
pub data Grown : Kind → ℕ → State → Type 0 where
  upto : (n k : ℕ) → n ≤ A.opening_most + k * A.amount_most → Grown Account k (A.account_of n)
  kept : (n k : ℕ) → n ≤ R.value_most → Grown Register k (R.register_of n)
  aside : (z : ℤ) (k : ℕ) → nat_abs z ≤ K.opening_most + k * K.adjustment_most → Grown Counter k (K.counter_of z)
  within : (n k : ℕ) → n ≤ B.opening_most → Grown Bin k (B.bin_of n)
