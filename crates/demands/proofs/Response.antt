-- What is known of an accepted response at object o, of this kind: what it asked, what it was answered, and what the rows have on record.
use Rattle.std.specs.Prelude.{Option, Some, None}
use Prim.Native.Nat.{ℕ, ◌+◌, ◌-◌, ◌<◌, ◌≤◌}
use mathlib.Core.Path.{◌≡◌, refl, ap, ◌∙◌, subst}
use mathlib.Core.Bool.{true}
use native.Mathlib.Omega.{arith}
use lib.IntN.{ℤ}
use borrow.Author.Tests.{ne_eqb}
use Rattle.kinds.specs.declared.Kind.{Kind}
use Rattle.kinds.specs.declared.outcome.Outcome.{Outcome}
use Rattle.kinds.specs.declared.outcome.Outcome.TheVariants.{Ok, Fail, Value}
use Rattle.kinds.specs.declared.Answered.{Answered}
use Rattle.kinds.specs.Kinds.{recall_of, step_of}
use Rattle.kinds.specs.Outcome.{numbers_of}
use Rattle.kinds.proofs.Claims.{answers_recalled}
use Rattle.columns.specs.Column.{at, at_z, rows_most}
use Rattle.replay.specs.Access.{asked_of, recorded_of}
use Rattle.store.specs.declared.Store.{Store}
use Rattle.store.specs.Form.{in_form}
use Rattle.store.specs.Lists.{kind_at, state_for}
use Rattle.store.specs.Respond.{result_of, respond_of}
use Rattle.store.specs.Claims.{Asking, Conflicting, Granted}
use Rattle.store.specs.Effects.{row_of, Responds, Sized}
use Rattle.store.proofs.Facts.{Form, form_facts}
use Rattle.store.proofs.Views.{state_bounded}
use Rattle.store.proofs.Responding.{Askable}
use Rattle.store.proofs.Answers.{respond_decided}
use Rattle.store.proofs.Effects.{accepted_asks, respond_does}
use Rattle.store.proofs.Waits.{asking_as, respond_granted}
use Rattle.demands.specs.History.{outcome_for}
use Rattle.demands.proofs.ObjectRows.{record_on, no_record, record_at}
use Rattle.kinds.specs.declared.Operation.{Operation}

pub record Response (kind : Kind) (o t : ℕ) (s : Store) : Type 0 where
  pub some : 0 < t
  pub known : t ≤ s.tree.count
  pub on : at s.accesses.object t ≡ o
  pub answered : Answered
  pub asked : asked_of kind s.accesses.operation s.accesses.argument t ≡ Some answered.operation
  pub result : answered.outcome ≡ (step_of (state_for s o t) answered.operation).outcome
  pub asking : Asking s t answered
  pub free : (h x : ℕ) → Conflicting s t answered h x → ⊥
  pub handed : outcome_for (respond_of s t).answer.a (respond_of s t).answer.b ≡ answered.outcome
  pub unanswered : at s.accesses.outcome t ≡ 0
  pub before : record_at kind s t ≡ None
  pub own : record_at kind (respond_of s t).store t ≡ Some answered
  pub others : (x : ℕ) → ¬ (x ≡ t) → record_at kind (respond_of s t).store x ≡ record_at kind s x

-- the numbers of an outcome stand for it
outcome_for_lem : (r : Outcome) → outcome_for (numbers_of r).a (numbers_of r).b ≡ r
outcome_for_lem Ok = refl
outcome_for_lem Fail = refl
outcome_for_lem (Value v) = refl

-- and so do the numbers that were handed out
pub handed_out : (s : Store) (t : ℕ) → let answer = (respond_of s t).answer in
    answer.code ≡ 0 → numbers_of (outcome_for answer.a answer.b) ≡ record { a = answer.a; b = answer.b }
handed_out s t e =
    let g : Granted s t (respond_of s t).answer = respond_granted s t e in
    rw g.answered (ap numbers_of (outcome_for_lem g.asking.outcome))

-- an answer of a shape that its operation allows is on record as it was given
recorded_as : (d : Option Operation) (a : ℕ) (b : ℤ) (p : Answered) → d ≡ Some p.operation → recall_of p.operation a b ≡ Some p.outcome
    → recorded_of d (a + 1) b ≡ Some p
recorded_as d a b p fit shape =
    let same : a + 1 - 1 ≡ a = omega arith in
    rw (fit, ne_eqb (a + 1) 0 (λ e. omega arith), same, shape)

module _ (t : ℕ) (s : Store) (sized : Sized s) (fine : in_form s ≡ true) (done : (respond_of s t).answer.code ≡ 0) where
  form : Form s
  form = form_facts s fine

  asks : Askable s t
  asks = accepted_asks s t ((respond_decided s t).passed.0 done)

  abbrev o : ℕ
  o = at s.accesses.object t

  abbrev kind : Kind
  kind = kind_at s o

  granted : Granted s t (respond_of s t).answer
  granted = respond_granted s t done

  abbrev p : Answered
  p = granted.asking

  -- the result has a shape that the operation allows
  shaped : recall_of p.operation (numbers_of p.outcome).a (numbers_of p.outcome).b ≡ Some p.outcome
  shaped =
      let row : t < rows_most = omega (arith, asks.known, form.tree.few) in
      let state = state_for s o t in
      let has = state_bounded s fine o t (form.accesses.known t row ((asks.some, asks.known), asks.asks)) asks.known in
      rw granted.asked.result
      (answers_recalled kind (at s.accesses.operation t) (at_z s.accesses.argument t) p.operation state granted.asked.asked has.0 has.1)

  does : Responds s t (numbers_of p.outcome) (respond_of s t).store
  does = subst (λ r. Responds s t (result_of r) (respond_of s t).store) (asking_as s t p granted.asked) (respond_does s t sized done)

  here : Response kind o t s
  here = record {
    some = asks.some;
    known = asks.known;
    on = refl;
    answered = p;
    asked = granted.asked.asked;
    result = granted.asked.result;
    asking = granted.asked;
    free = granted.free;
    handed = ap (λ x. outcome_for x.a x.b) granted.answered ∙ outcome_for_lem p.outcome;
    unanswered = asks.blank;
    before = no_record kind (row_of s t) asks.blank;
    own = ap (record_on kind) does.row ∙ recorded_as _ _ _ p granted.asked.asked shaped;
    others = λ x n. ap (record_on kind) (does.rows x n);
  }

pub response : (kind : Kind) (o t : ℕ) (s : Store) → Sized s → in_form s ≡ true → kind_at s o ≡ kind → at s.accesses.object t ≡ o → (respond_of s t).answer.code ≡ 0
    → Response kind o t s
response kind o t s sized fine kinds on done =
    subst (λ (k : Kind). Response k o t s) kinds (subst (λ (y : ℕ). Response (kind_at s y) y t s) on (here t s sized fine done))
