-- What a conflict has as its cause. Source: the paper, 6.2; requests Q-2, Q-3 and Q-5.
use Rattle.std.specs.Prelude.{◌≡◌, true, ℤ, pos}
use Rattle.std.specs.Int.Signed.{le_z}
use Rattle.theory.specs.Serial.{Right, Swaps}
use Rattle.kinds.specs.declared.Kind.{Kind}
use Rattle.kinds.specs.declared.State.{State}
use Rattle.kinds.specs.declared.State.TheVariants as S
use Rattle.kinds.specs.declared.Answered.{Answered}
use Rattle.kinds.specs.Object.{StateOf, object_of, op_of, Fits}

-- an answer that some state of the kind gives, to an operation of the kind with its argument in range
pub record Possible (kind : Kind) (p : Answered) : Type 0 where
  pub fits : Fits kind p.operation
  pub state : State
  pub has : StateOf kind state
  pub gives : Right (object_of kind) state (op_of kind p)

-- a state of the kind at which each alone is right, yet some order of both gives a different answer or end
pub record Cause (kind : Kind) (p q : Answered) (s : State) : Type 0 where
  pub has : StateOf kind s
  pub p_right : Right (object_of kind) s (op_of kind p)
  pub q_right : Right (object_of kind) s (op_of kind q)
  pub differ : ¬ Swaps (object_of kind) (op_of kind p) (op_of kind q) s

-- the number that the state is: its balance, value or count, or a bin's parts
abbrev pub value_of : State → ℤ
value_of (S.Account account) = pos account.balance
value_of (S.Register register) = pos register.value
value_of (S.Counter counter) = counter.count
value_of (S.Bin bin) = pos bin.parts

-- a cause, and no state with a smaller number is one
pub record SmallestCause (kind : Kind) (p q : Answered) (s : State) : Type 0 where
  pub cause : Cause kind p q s
  pub least : (t : State) → Cause kind p q t → le_z (value_of s) (value_of t) ≡ true
