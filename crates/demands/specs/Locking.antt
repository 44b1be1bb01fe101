-- The locking object of the paper's 7.1 that the store keeps for each of its objects. Source: document 00, 2; document 01, "Lists of work".
use Rattle.std.specs.Prelude.{ℕ, cond, ◌&&◌, not, List, [], ◌∷◌, eqb, Option, Some, None}
use Rattle.theory.specs.Serial.{Op}
use Rattle.theory.specs.History.{other, Event, Step}
use Rattle.theory.specs.Locking.{Locking, Same, Takes}
use Rattle.kinds.specs.declared.Kind.{Kind}
use Rattle.kinds.specs.declared.State.{State}
use Rattle.kinds.specs.Object.{object_of, op_of}
use Rattle.columns.specs.Column.{at}
use Rattle.replay.specs.Access.{asked_of, record_in}
use Rattle.store.specs.declared.Store.{Store}
use Rattle.store.specs.Lists.{list_of}
use Rattle.demands.specs.History.{asking}
use Rattle.kinds.specs.declared.Answered.{Answered}

module _ (kind : Kind) where
  -- an access before the others, with the answer on record; in a store in form every listed access has one
  abbrev pub recorded : ℕ → Option Answered → List (Step (object_of kind)) → List (Step (object_of kind))
  recorded x (Some p) rest = record { who = x; did = op_of kind p } ∷ rest
  recorded x None rest = rest

  abbrev pub steps_of : (ℕ → Option Answered) → List ℕ → List (Step (object_of kind))
  steps_of record_of [] = []
  steps_of record_of (x ∷ l) = recorded x (record_of x) (steps_of record_of l)

  -- the state of the locking object of o, an object of this kind
  abbrev pub locking_of : ℕ → Store → Locking (object_of kind)
  locking_of o s = record {
    created = λ x. cond (eqb (at s.accesses.object x) o) (asking kind (asked_of kind s.accesses.operation s.accesses.argument x)) other;
    commit_requested = λ x. eqb (at s.accesses.object x) o && not (eqb (at s.accesses.outcome x) 0);
    intentions = λ u. steps_of (record_in kind s.accesses.operation s.accesses.argument s.accesses.outcome s.accesses.value) (list_of s o u);
  }

  -- what a call is to the object: nothing, and then nothing changes; or one event, and then its step. It is never more.
  abbrev pub Moves : State → (Op (object_of kind) → Op (object_of kind) → Type 0) → (ℕ → ℕ) → List (Event (object_of kind))
      → Locking (object_of kind) → Locking (object_of kind) → Type 0
  Moves opening Commutes parent [] s z = Same s z
  Moves opening Commutes parent (e ∷ []) s z = Takes (object_of kind) opening Commutes parent e s z
  Moves opening Commutes parent (e ∷ f ∷ rest) s z = ⊥
