-- Respond. Source: document 01, "Calls, answers and their order" and "Lists of work".
use Rattle.std.specs.Prelude.{ℕ, ◌+◌, Bool, not, List, [], ◌∷◌, ◌++◌, pos, set, eqb, ltb, Option, Some, None}
use Rattle.below.specs.Below.{first_below}
use Rattle.kinds.specs.declared.State.{State}
use Rattle.kinds.specs.declared.outcome.Outcome.TheVariants.{Fail}
use Rattle.kinds.specs.declared.outcome.Numbers.{Numbers}
use Rattle.kinds.specs.Kinds.{step_of}
use Rattle.kinds.specs.Outcome.{numbers_of}
use Rattle.columns.specs.Column.{at}
use Rattle.wait.specs.Wait.{blocks}
use Rattle.store.specs.declared.Store.{Store}
use Rattle.store.specs.declared.Reply.{Reply}
use Rattle.store.specs.Lists.{rows_of, kind_at, asked_at, recorded_at, state_for}
use Rattle.refusal.specs.Refusal.{Refusal, answer_of, refuse}
use Rattle.store.specs.Refusal.{reply_of, decide, malformed, missing, is_root, finished, orphaned}
use Rattle.kinds.specs.declared.Operation.{Operation}
use Rattle.kinds.specs.declared.Answered.{Answered}

-- what the serial object answers
abbrev pub answer_in : State → Option Operation → Option Answered
answer_in state (Some o) = Some (record { operation = o; outcome = (step_of state o).outcome })
answer_in state None = None

-- the asking operation with its result: what the serial object gives after the view's operations
abbrev pub asking_of : Store → ℕ → Option Answered
asking_of s t = answer_in (state_for s (at s.accesses.object t) t) (asked_at s (at s.accesses.object t) t)

-- an access on the same object, on the list of a holder not at or above the asking one, that conflicts
abbrev pub blocks_for : Store → ℕ → Answered → ℕ → Bool
blocks_for s t asking =
    blocks s.tree.parent s.lists.holder s.lists.place s.accesses.object (recorded_at s (at s.accesses.object t)) (kind_at s (at s.accesses.object t)) (at s.accesses.object t) t asking

-- the lowest-numbered such access; past the rows where there is none
abbrev pub wait_for : Store → ℕ → Option Answered → ℕ
wait_for s t (Some asking) = first_below (rows_of s) (blocks_for s t asking)
wait_for s t None = rows_of s

-- a and b of the result; where nothing fits, which no form allows, those of FAIL
abbrev pub result_of : Option Answered → Numbers
result_of (Some asking) = numbers_of asking.outcome
result_of None = numbers_of Fail

-- 9: respond to a plain transaction
abbrev pub is_plain : Store → ℕ → Refusal
is_plain s t = refuse 9 (eqb (at s.accesses.operation t) 0)

-- 10: this access was responded to already
abbrev pub answered : Store → ℕ → Refusal
answered s t = refuse 10 (not (eqb (at s.accesses.outcome t) 0))

-- 13: must wait; the holder of its list as a, the access as b
abbrev pub must_wait : Store → ℕ → ℕ → Refusal
must_wait s t x = record { when = ltb x (rows_of s); answer = answer_of 13 (at s.lists.holder x) (pos x) }

-- respond puts the access on its own list, with its result on record
abbrev pub responded : Store → ℕ → Numbers → Store
responded s t result = record {
  objects = s.objects;
  tree = s.tree;
  accesses = record {
    object = s.accesses.object;
    operation = s.accesses.operation;
    argument = s.accesses.argument;
    outcome = set s.accesses.outcome t (result.a + 1);
    value = set s.accesses.value t result.b;
  };
  lists = record {
    listed = s.lists.listed + 1;
    order = set s.lists.order s.lists.listed t;
    holder = set s.lists.holder t t;
    place = set s.lists.place t (s.lists.listed + 1);
  };
}

-- all but the last; none of them asks the object
abbrev pub ask_refusals : Store → ℕ → List Refusal
ask_refusals s t = malformed s ∷ missing s t ∷ is_root t ∷ is_plain s t ∷ finished s t ∷ orphaned s t ∷ answered s t ∷ []

abbrev pub respond_refusals : Store → ℕ → List Refusal
respond_refusals s t = ask_refusals s t ++ (must_wait s t (wait_for s t (asking_of s t)) ∷ [])

unfoldable pub respond_of : Store → ℕ → Reply
respond_of s t =
    decide s (respond_refusals s t)
    (reply_of (responded s t (result_of (asking_of s t))) (answer_of 0 (result_of (asking_of s t)).a (result_of (asking_of s t)).b))
