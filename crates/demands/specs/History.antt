-- The accepted calls, as one object sees them: from the calls and their answers alone. Source: document 00, 3; document 01, "Visible work and
-- finishing order".
use Rattle.std.specs.Prelude.{ℕ, Bool, true, false, cond, ◌&&◌, ◌||◌, List, [], ◌∷◌, ◌++◌, ℤ, eqb, Option, Some, None}
use Rattle.theory.specs.Serial.{Serial}
use Rattle.theory.specs.History.{Role, other, access, Event, created, responded, committed, aborted, History}
use Rattle.kinds.specs.declared.Kind.{Kind}
use Rattle.kinds.specs.declared.outcome.Outcome.{Outcome}
use Rattle.kinds.specs.declared.outcome.Outcome.TheVariants.{Ok, Fail, Value}
use Rattle.kinds.specs.Kinds.{decode_of}
use Rattle.kinds.specs.Outcome.{ok, fail}
use Rattle.kinds.specs.Object.{object_of}
use Rattle.store.specs.declared.Store.{Store}
use Rattle.refusal.specs.declared.Answer.{Answer}
use Rattle.refusal.specs.declared.Child.{Child}
use Rattle.refusal.specs.declared.Child.TheVariants.{Plain, Access}
use Rattle.store.specs.Calls.{Call, create, respond, commit, abort, reply_to}
use Rattle.kinds.specs.declared.Operation.{Operation}

-- the outcome that a and b stand for: a is 1 for OK, 0 for FAIL, 2 for a value; b is the value. No other numbers are handed out (`handed_out`).
abbrev pub outcome_for : ℕ → ℤ → Outcome
outcome_for a b = cond (eqb a ok) Ok (cond (eqb a fail) Fail (Value b))

-- what is asked of an object of the kind; a plain transaction asks nothing that fits
abbrev pub asking : (kind : Kind) → Option Operation → Role (object_of kind)
asking kind (Some a) = access a
asking kind None = other

abbrev pub is_access : {S : Serial} → Role S → Bool
is_access other = false
is_access (access a) = true

-- t was created as an access to the object
abbrev pub access_in : {S : Serial} → History S → ℕ → Bool
access_in [] t = false
access_in (created n p r ∷ h) t = (eqb n t && is_access r) || access_in h t
access_in (responded x v ∷ h) t = access_in h t
access_in (committed x ∷ h) t = access_in h t
access_in (aborted x ∷ h) t = access_in h t

module _ (kind : Kind) (o : ℕ) where
  -- what a new child is to object o, of this kind
  abbrev pub role_of : Child → Role (object_of kind)
  role_of Plain = other
  role_of (Access r) = cond (eqb r.object o) (asking kind (decode_of kind r.operation r.argument)) other

  -- what a call is after the history h, once accepted; a response at another object is nothing
  abbrev pub accepted : History (object_of kind) → Call → Answer → List (Event (object_of kind))
  accepted h (create p child) answer = created answer.a p (role_of child) ∷ []
  accepted h (respond t) answer = cond (access_in h t) (responded t (outcome_for answer.a answer.b) ∷ []) []
  accepted h (commit t) answer = committed t ∷ []
  accepted h (abort t) answer = aborted t ∷ []

  -- and nothing where it was refused
  abbrev pub events : History (object_of kind) → Call → Answer → List (Event (object_of kind))
  events h c answer = cond (eqb answer.code 0) (accepted h c answer) []

  -- the history after the calls, which start from the store s with the history h
  unfoldable pub history_from : Store → History (object_of kind) → List Call → History (object_of kind)
  history_from s h [] = h
  history_from s h (c ∷ calls) = history_from (reply_to s c).store (events h c (reply_to s c).answer ++ h) calls
