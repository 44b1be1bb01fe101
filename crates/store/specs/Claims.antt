-- What is claimed of the answers: the order of a call's refusals, and when a response waits. Source: document 01, "Calls, answers and their order" and
-- "Lists of work", its last paragraph.
use Rattle.std.specs.Prelude.{ℕ, ◌<◌, ◌≤◌, ◌≡◌, true, false, ◌↔◌, List, pos, length, Some}
use Rattle.kinds.specs.declared.Answered.{Answered}
use Rattle.kinds.specs.Kinds.{conflict_of, step_of}
use Rattle.kinds.specs.Outcome.{numbers_of}
use Rattle.columns.specs.Column.{at}
use Rattle.columns.specs.Tree.{at_or_above}
use Rattle.columns.specs.Work.{Found}
use Rattle.store.specs.declared.Store.{Store}
use Rattle.refusal.specs.declared.Answer.{Answer}
use Rattle.store.specs.declared.Reply.{Reply}
use Rattle.store.specs.Lists.{list_of, kind_at, asked_at, recorded_at, state_for}
use Rattle.refusal.specs.Refusal.{Refusal, answer_of}
use Rattle.store.specs.Refusal.{reply_of}
use Rattle.refusal.specs.Exact.{nth, FirstToHold, NoneHolds}

-- what its order of refusals says of a call's reply; `done` is what the call hands back where none holds
pub record Decided (s : Store) (refusals : List Refusal) (done reply : Reply) : Type 0 where
  -- each code is given exactly when its condition holds and none earlier in its order does
  pub exactly : (i : ℕ) → i < length refusals → (reply.answer.code ≡ (nth refusals i).answer.code) ↔ FirstToHold refusals i
  -- then with its a and b, and the store as it came in
  pub whole : (i : ℕ) → i < length refusals → FirstToHold refusals i → reply ≡ reply_of s (nth refusals i).answer
  -- 0 is given exactly when none holds, and then the call is done
  pub passed : (reply.answer.code ≡ 0) ↔ NoneHolds refusals
  pub does : reply.answer.code ≡ 0 → reply ≡ done
  -- any answer but 0 leaves the store equal to what came in
  pub refused : (reply.answer.code ≡ 0 → ⊥) → reply.store ≡ s

-- the asking operation of t and its result: what the serial object gives after the view's operations are applied in order from the opening value
pub record Asking (s : Store) (t : ℕ) (asking : Answered) : Type 0 where
  pub asked : asked_at s (at s.accesses.object t) t ≡ Some asking.operation
  pub result : asking.outcome ≡ (step_of (state_for s (at s.accesses.object t) t) asking.operation).outcome

-- access x on the same object, on the list of a holder h not at or above the asking one, conflicts with the asking operation and its result
pub record Conflicting (s : Store) (t : ℕ) (asking : Answered) (h x : ℕ) : Type 0 where
  pub listed : Found x (list_of s (at s.accesses.object t) h)
  pub outside : at_or_above s.tree.parent t h ≡ false
  pub held : Answered
  pub recorded : recorded_at s (at s.accesses.object t) x ≡ Some held
  pub conflicts : conflict_of (kind_at s (at s.accesses.object t)) asking held ≡ true

-- there is such an access
pub record Blocked (s : Store) (t : ℕ) : Type 0 where
  pub asking : Answered
  pub asked : Asking s t asking
  pub holder : ℕ
  pub access : ℕ
  pub conflicting : Conflicting s t asking holder access

-- a response that must wait: code 13 names the lowest-numbered such access as b and the holder of its list as a
pub record Waits (s : Store) (t : ℕ) (answer : Answer) : Type 0 where
  pub blocked : Blocked s t
  pub answered : answer ≡ answer_of 13 blocked.holder (pos blocked.access)
  pub lowest : (h x : ℕ) → Conflicting s t blocked.asking h x → blocked.access ≤ x

-- a response that need not: there is no such access, and a and b are the result's
pub record Granted (s : Store) (t : ℕ) (answer : Answer) : Type 0 where
  pub asking : Answered
  pub asked : Asking s t asking
  pub answered : answer ≡ answer_of 0 (numbers_of asking.outcome).a (numbers_of asking.outcome).b
  pub free : (h x : ℕ) → Conflicting s t asking h x → ⊥
