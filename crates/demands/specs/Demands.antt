-- The customer's three demands, as statements. Source: document 00; request Q-2.
use Rattle.std.specs.Prelude.{ℕ, ◌<◌, ◌≤◌, ◌≡◌, true, false, ◌↔◌, List, [], ◌∷◌, ◌++◌, map, ℤ, pos, length}
use Rattle.theory.specs.Serial.{Legal, Commute}
use Rattle.theory.specs.History.{◌∈◌, access, responded, Step, ops, Committed, Aborted, Orphan, Asked, Work}
use Rattle.theory.specs.Accepted.{Known, Accepted}
use Rattle.theory.specs.Locking.{Initial, total, Tree}
use Rattle.theory.specs.Atomic.{Serializes}
use Rattle.kinds.specs.declared.Kind.{Kind}
use Rattle.kinds.specs.declared.Operation.{Operation}
use Rattle.kinds.specs.declared.outcome.Outcome.{Outcome}
use Rattle.kinds.specs.declared.Answered.{Answered}
use Rattle.kinds.specs.Kinds.{conflict_of}
use Rattle.kinds.specs.Outcome.{numbers_of}
use Rattle.kinds.specs.Object.{object_of, op_of}
use Rattle.kinds.specs.Cause.{Possible}
use Rattle.columns.specs.Column.{at}
use Rattle.columns.specs.Tree.{has_committed, has_aborted}
use Rattle.store.specs.declared.Store.{Store}
use Rattle.store.specs.Form.{in_form}
use Rattle.store.specs.Lists.{list_of, view_of, kind_at}
use Rattle.refusal.specs.Open.{openable}
use Rattle.store.specs.Open.{opened_store, empty_store, open_of}
use Rattle.refusal.specs.Exact.{codes_of, NoneHolds}
use Rattle.refusal.specs.Refusal.{answer_of}
use Rattle.store.specs.Refusal.{reply_of}
use Rattle.store.specs.Respond.{ask_refusals, respond_of}
use Rattle.store.specs.Effects.{Sized}
use Rattle.store.specs.Claims.{Decided, Blocked, Waits, Granted}
use Rattle.store.specs.Calls.{Call, reply_to}
use Rattle.demands.specs.Calls.{refusals_to, done_to, Does, codes_for}
use Rattle.demands.specs.History.{outcome_for, events}
use Rattle.demands.specs.Locking.{Moves}
use Rattle.demands.specs.Run.{Run, opened_in, store_in, kind_in, start_in, history_in, locking_in}

-- 1. Every call on every input ends in one answer from the numbered list. (No caller is trusted to have checked anything: proofs/Real.antt.) A refused call or
-- a wait hands the store back exactly as it came.
pub record Demand1 : Type 0 where
  pub listed : (s : Store) (c : Call) → (reply_to s c).answer.code ∈ codes_for c
  pub handed_back : (s : Store) (c : Call) → ¬ ((reply_to s c).answer.code ≡ 0) → (reply_to s c).store ≡ s
  -- an opening takes no store in: it answers 0 and the object count, or 14 and the store with no objects and no transactions
  pub opens : (kinds : List ℕ) (openings : List ℤ) → openable kinds openings ≡ true
      → open_of kinds openings ≡ reply_of (opened_store kinds openings) (answer_of 0 (length kinds) (pos 0))
  pub unopened : (kinds : List ℕ) (openings : List ℤ) → openable kinds openings ≡ false → open_of kinds openings ≡ reply_of empty_store (answer_of 14 0 (pos 0))

-- what the refusals read in the store after the calls of a run is what its accepted calls say
pub record RowsAgree (r : Run) : Type 0 where
  pub formed : in_form (store_in r) ≡ true
  -- the numbers given are 1 to the count; each was higher than all before it (`allowed`)
  pub numbers : (n : ℕ) → Known (history_in r) n ↔ (n ≤ (store_in r).tree.count)
  pub tree : Tree (history_in r) (at (store_in r).tree.parent)
  pub committed : (t : ℕ) → Committed (history_in r) t ↔ (at (store_in r).tree.state t ≡ has_committed)
  pub aborted : (t : ℕ) → Aborted (history_in r) t ↔ (at (store_in r).tree.state t ≡ has_aborted)
  -- which are accesses to the object, what they ask, and which are answered
  pub asked : (x : ℕ) → 0 < x → x ≤ (store_in r).tree.count → (a : Operation) → Asked (history_in r) x a ↔ ((locking_in r (store_in r)).created x ≡ access a)
  pub answered : (x : ℕ) → ((locking_in r (store_in r)).commit_requested x ≡ true) ↔ ((v : Outcome) × (responded x v ∈ history_in r))
  -- each accepted call was allowed by those before it
  pub allowed : Accepted (history_in r)

-- 2. Every answer, and every list of work afterwards, is the one that the paper's section 7.1 gives under document 01's rules. A wait is given exactly when
-- no refusal comes first and some step on the same object, held by a job that isn't at or above the asking one, conflicts by the table. The table never lets
-- two steps pass that the paper says don't commute; by request Q-2 it says conflict exactly when they don't.
pub record Demand2 : Type 0 where
  -- each code is given exactly when its condition holds and none earlier in its order does
  pub answers : (s : Store) (c : Call) → Decided s (refusals_to s c) (done_to s c) (reply_to s c)
  pub orders : (s : Store) (c : Call) → codes_of (refusals_to s c) ++ (0 ∷ []) ≡ codes_for c
  pub rows : (r : Run) → RowsAgree r
  -- what an accepted call does to every row and list; what a response is answered
  pub does : (s : Store) (c : Call) → Sized s → (reply_to s c).answer.code ≡ 0 → Does s c (reply_to s c).store
  pub granted : (s : Store) (t : ℕ) → (respond_of s t).answer.code ≡ 0 → Granted s t (respond_of s t).answer
  -- the locking object of each object of a newly opened store is as the paper has it at first; every accepted call that concerns it is its
  -- step, on the tree of the transactions created so far, and no other call, accepted or refused, changes it
  pub starts : (r : Run) → Initial (locking_in r (opened_in r))
  pub steps : (r : Run) (c : Call) → let reply = reply_to (store_in r) c in
      Moves (kind_in r) (start_in r) (Commute (object_of (kind_in r))) (at (store_in r).tree.parent) (events (kind_in r) r.object (history_in r) c reply.answer)
      (locking_in r (store_in r)) (locking_in r reply.store)
  -- its intentions are the lists, access by access
  pub lists : (r : Run) (u : ℕ) → map (λ e. e.who) ((locking_in r (store_in r)).intentions u) ≡ list_of (store_in r) r.object u
  -- `ask_refusals` are those that come before the wait
  pub waits : (s : Store) (t : ℕ) → ((respond_of s t).answer.code ≡ 13) ↔ (NoneHolds (ask_refusals s t) × Blocked s t)
  -- for whom: the lowest-numbered such access, and the holder of its list
  pub names : (s : Store) (t : ℕ) → (respond_of s t).answer.code ≡ 13 → Waits s t (respond_of s t).answer
  pub table : (kind : Kind) (p q : Answered) → conflict_of kind p q ≡ false → Commute (object_of kind) (op_of kind p) (op_of kind q)
  -- request Q-2, of two answers that some state of the kind can give, with arguments in range
  pub exact : (kind : Kind) (p q : Answered) → Possible kind p → Possible kind q → (conflict_of kind p q ≡ true) ↔ ¬ Commute (object_of kind) (op_of kind p) (op_of kind q)
  -- so no wait is without a cause: whatever is in the way does not commute with the asking operation and its result
  pub caused : (s : Store) (t : ℕ) → (respond_of s t).answer.code ≡ 13 → (b : Blocked s t) → let kind = kind_at s (at s.accesses.object t) in
      ¬ Commute (object_of kind) (op_of kind b.asking) (op_of kind b.conflicting.held)

-- the view of t in the store after the calls of a run, each access with its recorded result
abbrev pub viewed : (r : Run) → ℕ → List (Step (object_of (kind_in r)))
viewed r t = total (at (store_in r).tree.parent) (locking_in r (store_in r)) t

-- 3. Take any sequence of calls on a newly opened store, an object, and a job with nothing dropped at or above it. From the accepted calls alone, take that
-- object's answered steps visible to that job. Order siblings' work by when they finished, one still open last. Fed in that order to the plain serial object
-- from its opening value, each step gives exactly the answer that was handed out.
pub record Demand3 : Type 0 where
  pub serializes : (r : Run) (t : ℕ) → ¬ Orphan (history_in r) t → Serializes (object_of (kind_in r)) (start_in r) (history_in r) t
  -- the view that the store replays is that list, access by access; recorded and replayed results agree
  pub views : (r : Run) (t : ℕ) → Known (history_in r) t → ¬ Orphan (history_in r) t → Work (history_in r) t (viewed r t)
  pub accesses : (r : Run) (t : ℕ) → Known (history_in r) t → map (λ e. e.who) (viewed r t) ≡ view_of (store_in r) r.object t
  pub replayed : (r : Run) (t : ℕ) → Known (history_in r) t → ¬ Orphan (history_in r) t → Legal (object_of (kind_in r)) (start_in r) (ops (viewed r t))
  -- the outcome that the history has of a response stands for the numbers that were handed out, and for no others
  pub handed_out : (s : Store) (t : ℕ) → let answer = (respond_of s t).answer in
      answer.code ≡ 0 → numbers_of (outcome_for answer.a answer.b) ≡ record { a = answer.a; b = answer.b }
