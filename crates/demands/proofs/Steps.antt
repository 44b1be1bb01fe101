-- The relation between operations that the table lets pass, and the laws of `steps_of`: the steps of a list, and of a view.
use Rattle.std.specs.Prelude.{Option, Some, None}
use Prim.Native.Nat.{ℕ, suc, ◌+◌, ◌-◌, ◌<◌}
use mathlib.Core.Path.{◌≡◌, refl, sym, ap, ◌∙◌}
use mathlib.Core.Bool.{Bool, true, false, cond}
use mathlib.Core.Logic.{◌⊎◌, inl, inr, ⊎_elim}
use mathlib.Core.List.Memᴰ
use mathlib.Core.List.{List, [], ◌∷◌, ◌++◌, map}
use native.Mathlib.Omega.{arith}
use lib.IntN.{ℤ}
use lib.Dec.{eqb}
use Rattle.below.specs.Climb.{Lower, climb}
use Rattle.below.proofs.Climb.{lower_to, climb_root, climb_step, climb_ind}
use Rattle.theory.specs.Serial.{Op, Right, Swaps, Commute, run}
use Rattle.theory.specs.History.{◌∈◌, Event, Step, ops}
use Rattle.theory.specs.Locking.{Locking}
use Rattle.theory.proofs.Runs.{takes_wider}
use Rattle.kinds.specs.declared.Kind.{Kind}
use Rattle.kinds.specs.declared.State.{State}
use Rattle.kinds.specs.declared.Operation.{Operation}
use Rattle.kinds.specs.declared.Answered.{Answered}
use Rattle.kinds.specs.Kinds.{step_of, recall_of, conflict_of}
use Rattle.kinds.specs.Object.{object_of, op_of}
use Rattle.kinds.proofs.Claims.{passes_swap, passes_commute, conflicts_symmetric}
use Rattle.columns.specs.Column.{at}
use Rattle.columns.specs.Work.{Found}
use Rattle.columns.proofs.Work.{Each, each_append}
use Rattle.replay.specs.Access.{answered_as, recorded_of}
use Rattle.replay.specs.View.{view_in, after_all}
use Rattle.replay.proofs.Views.{view_root, view_step}
use Rattle.demands.specs.Locking.{recorded, steps_of, Moves}
use Rattle.kinds.specs.declared.outcome.Outcome.{Outcome}

abbrev pub answered_of : {kind : Kind} → Op (object_of kind) → Answered
answered_of p = record { operation = p.ask; outcome = p.reply }

-- the table lets them pass each other
abbrev pub Pass : (kind : Kind) → Op (object_of kind) → Op (object_of kind) → Type 0
Pass kind p q = conflict_of kind (answered_of p) (answered_of q) ≡ false

module _ (kind : Kind) (p q : Op (object_of kind)) (pass : Pass kind p q) where
  pub pass_turned : Pass kind q p
  pass_turned = conflicts_symmetric kind (answered_of q) (answered_of p) ∙ pass

  pub pass_swaps : (s : State) → Right (object_of kind) s p → Right (object_of kind) s q → Swaps (object_of kind) p q s
  pass_swaps = passes_swap kind (answered_of p) (answered_of q) pass

  pass_commutes : Commute (object_of kind) p q
  pass_commutes = passes_commute kind (answered_of p) (answered_of q) pass

-- what the table lets pass commutes, so that its steps are the paper's
pub commuting : (kind : Kind) (opening : State) (parent : ℕ → ℕ) (happened : List (Event (object_of kind))) (L M : Locking (object_of kind))
    → Moves kind opening (Pass kind) parent happened L M → Moves kind opening (Commute (object_of kind)) parent happened L M
commuting kind opening parent [] L M step = step
commuting kind opening parent (e ∷ []) L M step =
    takes_wider (object_of kind) opening (Pass kind) (Commute (object_of kind)) (pass_commutes kind) parent e L M step
commuting kind opening parent (e ∷ f ∷ rest) L M step = step

-- the row of x has an answer on record
abbrev pub OnRecord : (ℕ → Option Answered) → ℕ → Type 0
OnRecord record_of x = (p : Answered) × (record_of x ≡ Some p)

-- and what was answered is what it asks
abbrev pub AskedOnRecord : (ℕ → Option Answered) → (ℕ → Option Operation) → ℕ → Type 0
AskedOnRecord record_of asked x = (p : Answered) × (record_of x ≡ Some p) × (asked x ≡ Some p.operation)

recalled_asks : (o : Operation) (r : Option Outcome) (p : Answered) → answered_as o r ≡ Some p → o ≡ p.operation
recalled_asks o (Some outcome) p e = cc
recalled_asks o None p e = cc

-- what has an answer on record asks what was answered
pub recorded_asks : (d : Option Operation) (outcome : ℕ) (value : ℤ) (p : Answered) → recorded_of d outcome value ≡ Some p → d ≡ Some p.operation
recorded_asks None outcome value p e = cc
recorded_asks (Some o) outcome value p e = ap Some (given (eqb outcome 0) e)
  where
    given : (none : Bool) → cond none None (answered_as o (recall_of o (outcome - 1) value)) ≡ Some p → o ≡ p.operation
    given true e = cc
    given false e = recalled_asks o (recall_of o (outcome - 1) value) p e

module _ (kind : Kind) where
  recorded_append : (x : ℕ) (r : Option Answered) (l m : List (Step (object_of kind))) → recorded kind x r (l ++ m) ≡ recorded kind x r l ++ m
  recorded_append x (Some p) l m = refl
  recorded_append x None l m = refl

  recorded_cases : (x : ℕ) (r : Option Answered) (l : List (Step (object_of kind))) (e : Step (object_of kind)) → e ∈ recorded kind x r l
      → ((p : Answered) × (r ≡ Some p) × (e ≡ record { who = x; did = op_of kind p })) ⊎ (e ∈ l)
  recorded_cases x (Some p) l e m = ⊎_elim (λ q. inl (p, refl, q)) (λ n. inr n) (Memᴰ.cases_cons m)
  recorded_cases x None l e m = inr m

  -- where the answers on record agree, so do the steps
  pub steps_same : (f g : ℕ → Option Answered) (l : List ℕ) → Each (λ x. f x ≡ g x) l → steps_of kind f l ≡ steps_of kind g l
  steps_same f g [] h = refl
  steps_same f g (x ∷ l) h = rw (h 0 (omega arith), steps_same f g l (λ k b. h (suc k) (omega arith)))

  module _ (record_of : ℕ → Option Answered) where
    pub steps_append : (l m : List ℕ) → steps_of kind record_of (l ++ m) ≡ steps_of kind record_of l ++ steps_of kind record_of m
    steps_append [] m = refl
    steps_append (x ∷ l) m =
        ap (recorded kind x (record_of x)) (steps_append l m) ∙ recorded_append x (record_of x) (steps_of kind record_of l) (steps_of kind record_of m)

    -- a step is of an access on the list, and is what that access has on record
    pub steps_found : (l : List ℕ) (e : Step (object_of kind)) → e ∈ steps_of kind record_of l
        → Found e.who l × (record_of e.who ≡ Some (answered_of e.did))
    steps_found [] e m = absurd (Memᴰ.not-nil m)
    steps_found (x ∷ l) e m =
        ⊎_elim
        (λ own. (
          record { index = 0; small = omega arith; is = sym (ap (λ d. d.who) own.2) },
          ap (λ d. record_of d.who) own.2 ∙ own.1 ∙ ap (λ d. Some (answered_of d.did)) (sym own.2),
        ))
        (λ rest.
        let found = steps_found l e rest in
        (record { index = suc found.0.index; small = omega (arith, found.0.small); is = found.0.is }, found.1))
        (recorded_cases x (record_of x) (steps_of kind record_of l) e m)

    -- the steps of a list whose entries each have an answer on record are its entries, one by one
    pub steps_who : (l : List ℕ) → Each (OnRecord record_of) l → map (λ e. e.who) (steps_of kind record_of l) ≡ l
    steps_who [] h = refl
    steps_who (x ∷ l) h = rw (h 0 (omega arith)).1 (ap (λ r. x ∷ r) (steps_who l (λ k b. h (suc k) (omega arith))))

    -- and the object comes to the same state after them
    pub steps_run : (asked : ℕ → Option Operation) (l : List ℕ) (s : State) → Each (AskedOnRecord record_of asked) l
        → run (object_of kind) s (ops (steps_of kind record_of l)) ≡ after_all asked l s
    unfolding after_all
    steps_run asked [] s h = refl
    steps_run asked (x ∷ l) s h =
        let first = h 0 (omega arith) in
        rw (first.1, first.2) (steps_run asked l (step_of s first.0.operation).state (λ k b. h (suc k) (omega arith)))

    module _ (parent : List ℕ) (own : ℕ → List ℕ) where
      abbrev steps_at : ℕ → List (Step (object_of kind))
      steps_at u = steps_of kind record_of (own u)

      abbrev viewed : ℕ → List (Step (object_of kind))
      viewed t = climb (at parent) (steps_at 0) (λ u above. above ++ steps_at u) t

      -- the steps of a view are the view of the steps
      pub steps_view : (n : ℕ) → Lower n (at parent) → (t : ℕ) → t < n → viewed t ≡ steps_of kind record_of (view_in parent own t)
      steps_view n w =
          climb_ind (at parent) n w (λ t. viewed t ≡ steps_of kind record_of (view_in parent own t))
          (climb_root (at parent) (steps_at 0) (λ u above. above ++ steps_at u) ∙ ap (steps_of kind record_of) (sym (view_root parent own)))
          (λ t z l above.
          let v = lower_to (at parent) n (t + 1) w (omega arith) in
          climb_step (at parent) (steps_at 0) (λ u above. above ++ steps_at u) t v z
          ∙ ap (λ r. r ++ steps_at t) above
          ∙ sym (ap (steps_of kind record_of) (view_step parent own t v z) ∙ steps_append (view_in parent own (at parent t)) (own t)))

-- what holds of each entry of every list holds of each entry of a view
pub view_each : (P : ℕ → Type 0) (parent : List ℕ) (own : ℕ → List ℕ) (n : ℕ) → Lower n (at parent) → ((u : ℕ) → Each P (own u))
    → (t : ℕ) → t < n → Each P (view_in parent own t)
view_each P parent own n w each =
    climb_ind (at parent) n w (λ t. Each P (view_in parent own t)) (rw (view_root parent own) (each 0))
    (λ t z l above.
    rw (view_step parent own t (lower_to (at parent) n (t + 1) w (omega arith)) z) (each_append P (view_in parent own (at parent t)) (own t) above (each t)))
