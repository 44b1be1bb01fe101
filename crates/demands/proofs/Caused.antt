-- Each wait has a cause: the asking answer and the held one are possible, so the conflict between them is one by section 6.2. Source: request Q-2.
use Rattle.std.specs.Prelude.{Option, Some, None}
use Prim.Native.Nat.{ℕ, ◌-◌}
use mathlib.Core.Path.{◌≡◌, refl, sym, subst}
use lib.IntN.{ℤ}
use lib.Dec.{eqb}
use Rattle.theory.specs.Serial.{Commute}
use Rattle.kinds.specs.declared.Kind.{Kind}
use Rattle.kinds.specs.declared.Operation.{Operation}
use Rattle.kinds.specs.Kinds.{decode_of, recall_of}
use Rattle.kinds.specs.Object.{object_of, op_of}
use Rattle.kinds.specs.Cause.{Possible, SmallestCause}
use Rattle.kinds.specs.Witness.{witness_of}
use Rattle.kinds.proofs.Within.{either}
use Rattle.kinds.proofs.Claims.{conflicts_exactly, conflict_caused, allowed_possible}
use Rattle.columns.specs.Column.{at, at_z}
use Rattle.replay.specs.Access.{answered_as, recorded_of}
use Rattle.refusal.specs.Exact.{NoneHolds}
use Rattle.store.specs.declared.Store.{Store}
use Rattle.store.specs.Lists.{kind_at, asked_at, state_for}
use Rattle.store.specs.Respond.{ask_refusals, respond_of}
use Rattle.store.specs.Claims.{Blocked}
use Rattle.store.proofs.Asking.{ready}
use Rattle.store.proofs.Views.{state_bounded}
use Rattle.store.proofs.Responding.{Askable, askable}
use Rattle.demands.proofs.Blocked.{waits_exactly}
use Rattle.kinds.specs.declared.outcome.Outcome.{Outcome}
use Rattle.kinds.specs.declared.Answered.{Answered}

-- what is on record of an access
abbrev PossibleIf : Kind → Option Answered → Type 0
PossibleIf kind (Some p) = Possible kind p
PossibleIf kind None = Unit {0}

module _ (kind : Kind) (k : ℕ) (x : ℤ) where
  given_possible : (o : Operation) (a : ℕ) (b : ℤ) → decode_of kind k x ≡ Some o → (c : Option Outcome) → recall_of o a b ≡ c → PossibleIf kind (answered_as o c)
  given_possible o a b fit (Some r) e = allowed_possible kind k x o a b r fit e
  given_possible o a b fit None e = tt

  recorded_possible : (a : ℕ) (b : ℤ) (d : Option Operation) → decode_of kind k x ≡ d → PossibleIf kind (recorded_of d a b)
  recorded_possible a b None e = tt
  recorded_possible a b (Some o) e =
      either (PossibleIf kind) (eqb a 0) None (answered_as o (recall_of o (a - 1) b)) tt (given_possible o (a - 1) b e (recall_of o (a - 1) b) refl)

module _ (s : Store) (t : ℕ) (none : NoneHolds (ask_refusals s t)) (blocked : Blocked s t) where
  abbrev o : ℕ
  o = at s.accesses.object t

  abbrev held : ℕ
  held = blocked.access

  asks : Askable s t
  asks = askable s t none

  pub asking_possible : Possible (kind_at s o) blocked.asking
  asking_possible =
      let r = ready s t asks.formed asks.known asks.asks in
      record {
        fits = (at s.accesses.operation t, at_z s.accesses.argument t, blocked.asked.asked);
        state = state_for s o t;
        has = (state_bounded s asks.formed o t r.object asks.known).0;
        gives = sym blocked.asked.result;
      }

  pub held_possible : Possible (kind_at s o) blocked.conflicting.held
  held_possible =
      subst (PossibleIf (kind_at s o)) blocked.conflicting.recorded
      (recorded_possible (kind_at s o) (at s.accesses.operation held) (at_z s.accesses.argument held) (at s.accesses.outcome held) (at_z s.accesses.value held) (asked_at s o held) refl)

module _ (s : Store) (t : ℕ) (waits : (respond_of s t).answer.code ≡ 13) (blocked : Blocked s t) where
  abbrev kind : Kind
  kind = kind_at s (at s.accesses.object t)

  none : NoneHolds (ask_refusals s t)
  none = ((waits_exactly s t).0 waits).0

  -- the smallest state at which each alone is right, yet some order of both gives a different answer or end
  pub wait_caused : SmallestCause kind blocked.asking blocked.conflicting.held (witness_of kind blocked.asking blocked.conflicting.held)
  wait_caused =
      conflict_caused kind blocked.asking blocked.conflicting.held blocked.conflicting.conflicts (asking_possible s t none blocked) (held_possible s t none blocked)

  pub wait_uncommuting : ¬ Commute (object_of kind) (op_of kind blocked.asking) (op_of kind blocked.conflicting.held)
  wait_uncommuting =
      (conflicts_exactly kind blocked.asking blocked.conflicting.held (asking_possible s t none blocked) (held_possible s t none blocked)).0 blocked.conflicting.conflicts
