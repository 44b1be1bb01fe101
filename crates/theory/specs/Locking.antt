-- The locking object. Source: the paper, 7.1. Document 01 narrows it: request and creation are one call, so the tree of transactions is the one that
-- was created so far (`Tree`); a commit or an abort informs every object at once (each is one event); a transaction beneath an aborted one does nothing
-- more (`Accepted`); one result in each view (`answer` of a serial object is a function). `Accepted` also keeps the root from being
-- informed of (7.1's T ≠ T₀).
use Rattle.std.specs.Prelude.{◌≡◌, Bool, true, false, List, [], ◌∷◌, ◌++◌, ℕ, ◌<◌, eqb}
use Rattle.below.specs.Climb.{climb, up_any}
use Rattle.theory.specs.Serial.{Serial, Op, Legal}
use Rattle.theory.specs.History.{◌∈◌, Role, other, access, Event, created, responded, committed, aborted, History, Step, ops, Parent}

pub record Locking (S : Serial) : Type 0 where
  -- the set created: each of its accesses with what it asks, and for any other number `other`
  pub created : ℕ → Role S
  pub commit_requested : ℕ → Bool
  -- the list of each holder: when (T, v) is a member of intentions U, U holds a (T, v)-lock
  pub intentions : ℕ → List (Step S)

-- u is in ancestors(t) (`ancestor_above`: u is at or above t in the history that the tree is of)
abbrev pub ancestor : (ℕ → ℕ) → ℕ → ℕ → Bool
ancestor parent t u = up_any parent (λ y. eqb y u) t

module _ {S : Serial} where
  pub record Initial (s : Locking S) : Type 0 where
    pub created : (x : ℕ) → s.created x ≡ other
    pub commit_requested : (x : ℕ) → s.commit_requested x ≡ false
    pub intentions : (u : ℕ) → s.intentions u ≡ []

  -- what an effect does not mention stays as it was
  abbrev pub SameCreated : Locking S → Locking S → Type 0
  SameCreated s z = (x : ℕ) → z.created x ≡ s.created x

  abbrev pub SameRequested : Locking S → Locking S → Type 0
  SameRequested s z = (x : ℕ) → z.commit_requested x ≡ s.commit_requested x

  abbrev pub SameIntentions : Locking S → Locking S → Type 0
  SameIntentions s z = (u : ℕ) → z.intentions u ≡ s.intentions u

  pub record Same (s z : Locking S) : Type 0 where
    pub created : SameCreated s z
    pub commit_requested : SameRequested s z
    pub intentions : SameIntentions s z

  pub record CREATE (n : ℕ) (a : S.Ask) (s z : Locking S) : Type 0 where
    pub added : z.created n ≡ access a
    pub created : (x : ℕ) → ¬ (x ≡ n) → z.created x ≡ s.created x
    pub commit_requested : SameRequested s z
    pub intentions : SameIntentions s z

  module _ (parent : ℕ → ℕ) where
    -- total(s, T₀) = s.intentions(T₀), total(s, T) = total(s, parent(T)) s.intentions(T)
    abbrev pub total : Locking S → ℕ → List (Step S)
    total s t = climb parent (s.intentions 0) (λ u above. above ++ s.intentions u) t

    pub record INFORM_COMMIT (t : ℕ) (s z : Locking S) : Type 0 where
      pub emptied : z.intentions t ≡ []
      pub appended : z.intentions (parent t) ≡ s.intentions (parent t) ++ s.intentions t
      pub others : (u : ℕ) → ¬ (u ≡ t) → ¬ (u ≡ parent t) → z.intentions u ≡ s.intentions u
      pub created : SameCreated s z
      pub commit_requested : SameRequested s z

    pub record INFORM_ABORT (t : ℕ) (s z : Locking S) : Type 0 where
      pub emptied : (u : ℕ) → ancestor parent u t ≡ true → z.intentions u ≡ []
      pub others : (u : ℕ) → ancestor parent u t ≡ false → z.intentions u ≡ s.intentions u
      pub created : SameCreated s z
      pub commit_requested : SameRequested s z

-- `Commutes` is 6.2's, or a relation that is narrower.
module _ (S : Serial) (opening : S.State) (Commutes : Op S → Op S → Type 0) (parent : ℕ → ℕ) where
  pub record REQUEST_COMMIT (t : ℕ) (v : S.Reply) (s z : Locking S) : Type 0 where
    -- precondition
    pub ask : S.Ask
    pub was_created : s.created t ≡ access ask
    pub unrequested : s.commit_requested t ≡ false
    pub commutes : (u : ℕ) → ancestor parent t u ≡ false → (e : Step S) → e ∈ s.intentions u → Commutes e.did (record { ask = ask; reply = v })
    pub behaviour : Legal S opening (ops (total parent s t) ++ (record { ask = ask; reply = v } ∷ []))
    -- effect
    pub requested : z.commit_requested t ≡ true
    pub commit_requested : (x : ℕ) → ¬ (x ≡ t) → z.commit_requested x ≡ s.commit_requested x
    pub appended : z.intentions t ≡ s.intentions t ++ (record { who = t; did = record { ask = ask; reply = v } } ∷ [])
    pub others : (u : ℕ) → ¬ (u ≡ t) → z.intentions u ≡ s.intentions u
    pub created : SameCreated s z

  -- what an accepted call is to the object
  abbrev pub Takes : Event S → Locking S → Locking S → Type 0
  Takes (created n p other) s z = Same s z
  Takes (created n p (access a)) s z = CREATE n a s z
  Takes (responded t v) s z = REQUEST_COMMIT t v s z
  Takes (committed t) s z = INFORM_COMMIT parent t s z
  Takes (aborted t) s z = INFORM_ABORT parent t s z

-- `parent` is the tree of the transactions created so far, in which each stands beneath a lower number
pub record Tree {S : Serial} (h : History S) (parent : ℕ → ℕ) : Type 0 where
  pub lower : (n : ℕ) → 0 < n → parent n < n
  pub created : (p n : ℕ) → Parent h p n → parent n ≡ p

-- the object's state after the accepted calls, each of them its step
module _ (S : Serial) (opening : S.State) (Commutes : Op S → Op S → Type 0) where
  pub data Runs : History S → Locking S → Type 0 where
    start : {s : Locking S} → Initial s → Runs [] s
    next : {h : History S} {s z : Locking S} (e : Event S) (parent : ℕ → ℕ) → Tree h parent → Runs h s → Takes S opening Commutes parent e s z → Runs (e ∷ h) z
