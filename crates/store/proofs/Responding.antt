-- The ways of respond.
use Rattle.std.specs.Prelude.{Option, Some, None}
use Prim.Native.Nat.{ℕ, ◌<◌, ◌≤◌}
use mathlib.Core.Path.{◌≡◌, refl, sym, ap, ◌∙◌}
use mathlib.Core.Bool.{Bool, true}
use mathlib.Core.List.{List, [], ◌∷◌}
use native.Mathlib.Omega.{arith}
use lib.IntN.{pos}
use borrow.Author.Tests.{ltb-false, eqb-true, eqb-false, not-false, lt-ltb, le-ltb}
use Rattle.columns.specs.Column.{at, places_most}
use Rattle.form.proofs.Facts.{unanswered_unlisted}
use Rattle.form.proofs.KeptLists.{place_left}
use Rattle.kinds.specs.declared.Answered.{Answered}
use Rattle.kinds.specs.declared.outcome.Outcome.{Outcome}
use Rattle.kinds.specs.declared.outcome.Outcome.TheVariants.{Ok, Fail, Value}
use Rattle.kinds.specs.Outcome.{numbers_of}
use Rattle.store.specs.declared.Store.{Store}
use Rattle.store.specs.Form.{in_form}
use Rattle.store.specs.Lists.{rows_of}
use Rattle.refusal.specs.Refusal.{Refusal, answer_of}
use Rattle.refusal.specs.declared.reason.Reason.{Reason}
use Rattle.refusal.specs.Reason.{code_of}
use Rattle.refusal.proofs.Codes.{code_some}
use Rattle.refusal.specs.Order.{first_code, ask_order}
use Rattle.store.specs.Refusal.{reply_of}
use Rattle.refusal.specs.Exact.{NoneHolds}
use Rattle.store.specs.Respond.{asking_of, blocks_for, wait_for, responded, must_wait, ask_refusals, respond_of}
use Rattle.store.specs.Awaited.{awaited}
use Rattle.store.proofs.Facts.{form_facts}
use Rattle.store.proofs.Found.{found_is, found_small, past_all}
use Rattle.refusal.proofs.Order.{none_first}
use Rattle.store.proofs.Refusals.{here, next, through, stops, passes}
use Rattle.store.proofs.Asking.{ready}
use Rattle.store.proofs.Waits.{asking_known, asking_as}

-- what is known of an access that no refusal but the wait keeps from responding
pub record Askable (s : Store) (t : ℕ) : Type 0 where
  pub formed : in_form s ≡ true
  pub some : 0 < t
  pub known : t ≤ s.tree.count
  pub asks : at s.accesses.operation t ≡ 0 → ⊥
  pub blank : at s.accesses.outcome t ≡ 0

pub small_a : (r : Outcome) → (numbers_of r).a < 255
small_a Ok = omega arith
small_a Fail = omega arith
small_a (Value v) = omega arith

abbrev filled : Option Answered → ℕ
filled (Some p) = 1
filled None = 0

module _ (s : Store) (t : ℕ) where
  pub askable : NoneHolds (ask_refusals s t) → Askable s t
  askable n =
      let z = eqb-false t 0 (n 2 (omega arith)) in
      record {
        formed = not-false _ (n 0 (omega arith));
        some = omega arith;
        known = ltb-false s.tree.count t (n 1 (omega arith));
        asks = eqb-false (at s.accesses.operation t) 0 (n 3 (omega arith));
        blank = eqb-true (at s.accesses.outcome t) 0 (not-false _ (n 6 (omega arith)));
      }

  pub ask_decides : (fine : Bool) (c : ℕ) → fine ≡ in_form s → c ≡ first_code (ask_order fine s.tree.count s.tree.parent s.tree.state s.accesses.operation s.accesses.outcome t) → c ≡ first_code (ask_refusals s t)
  ask_decides fine c e q = q ∙ ap (λ b. first_code (ask_order b s.tree.count s.tree.parent s.tree.state s.accesses.operation s.accesses.outcome t)) e

  -- where no refusal is given
  pub none_of : (fine : Bool) → fine ≡ in_form s → 0 ≡ first_code (ask_order fine s.tree.count s.tree.parent s.tree.state s.accesses.operation s.accesses.outcome t) → NoneHolds (ask_refusals s t)
  none_of fine e q = none_first (ask_refusals s t) refl (sym (ask_decides fine 0 e q))

  pub accepted : (fine : Bool) → fine ≡ in_form s → 0 ≡ first_code (ask_order fine s.tree.count s.tree.parent s.tree.state s.accesses.operation s.accesses.outcome t) → Askable s t
  accepted fine e q = askable (none_of fine e q)

  -- an unanswered access is on no list, and there is a place for it
  pub has_place : Askable s t → s.lists.listed < places_most
  has_place a =
      let f = form_facts s a.formed in
      let r = ready s t a.formed a.known a.asks in
      place_left s.tree.count s.tree.parent s.tree.state s.accesses.operation s.accesses.outcome s.lists.listed s.lists.order s.lists.holder s.lists.place f.tree f.lists
      t (a.some, a.known) (unanswered_unlisted _ _ _ _ _ _ _ f.lists t r.row a.blank)

  pub asks : (fine : Bool) → fine ≡ in_form s → 0 ≡ first_code (ask_order fine s.tree.count s.tree.parent s.tree.state s.accesses.operation s.accesses.outcome t) → (in_form s ≡ true) × (t ≤ s.tree.count) × (at s.accesses.operation t ≡ 0 → ⊥)
  asks fine e q = let a = accepted fine e q in (a.formed, a.known, a.asks)

  pub place : (fine : Bool) → fine ≡ in_form s → 0 ≡ first_code (ask_order fine s.tree.count s.tree.parent s.tree.state s.accesses.operation s.accesses.outcome t) → s.lists.listed < places_most
  place fine e q = has_place (accepted fine e q)

  pub respond_refused : (fine : Bool) → fine ≡ in_form s → (reason : Reason) → code_of reason ≡ first_code (ask_order fine s.tree.count s.tree.parent s.tree.state s.accesses.operation s.accesses.outcome t)
      → reply_of s (answer_of (code_of reason) 0 (pos 0)) ≡ respond_of s t
  unfolding respond_of
  respond_refused fine e reason q =
      stops (must_wait s t (wait_for s t (asking_of s t)) ∷ []) s _ (ask_refusals s t) _ (refl, (refl, (refl, (refl, (refl, (refl, (refl, tt)))))))
      (ask_decides fine _ e q) (code_some reason)

  -- the form lets nothing stand there that does not fit
  pub something_asked : Askable s t → None ≡ asking_of s t → ⊥
  something_asked a e =
      let k = asking_known s t a.formed a.known a.asks in
      let z : ◌≡◌ {A = ℕ} 0 1 = ap filled (e ∙ asking_as s t k.0 k.1) in omega arith

  pub awaited_small : (asking : Answered) (x : ℕ) → Some x ≡ awaited s t asking → x < rows_of s
  awaited_small asking = found_small (blocks_for s t asking) (rows_of s)

  module _ (n : NoneHolds (ask_refusals s t)) (asking : Answered) (e : Some asking ≡ asking_of s t) where
    abbrev last : List Refusal
    last = must_wait s t (wait_for s t (asking_of s t)) ∷ []

    wait : wait_for s t (Some asking) ≡ wait_for s t (asking_of s t)
    wait = ap (wait_for s t) e

    pub respond_waits : (x : ℕ) → Some x ≡ awaited s t asking → reply_of s (answer_of 13 (at s.lists.holder x) (pos x)) ≡ respond_of s t
    unfolding respond_of
    respond_waits x w =
        let f = found_is (blocks_for s t asking) (rows_of s) x w in
        let q : x ≡ wait_for s t (asking_of s t) = f.1 ∙ wait in
        let l : x < rows_of s = awaited_small asking x w in
        passes last s _ (ask_refusals s t) _ n (rw q (here s _ (must_wait s t (wait_for s t (asking_of s t))) [] (rw q at (lt-ltb x (rows_of s) l))))

    pub respond_done : None ≡ awaited s t asking → reply_of (responded s t (numbers_of asking.outcome)) (answer_of 0 (numbers_of asking.outcome).a (numbers_of asking.outcome).b) ≡ respond_of s t
    unfolding respond_of
    respond_done w =
        let l : rows_of s ≤ wait_for s t (Some asking) = past_all (blocks_for s t asking) (rows_of s) w in
        passes last s _ (ask_refusals s t) _ n
        (next s _ (must_wait s t (wait_for s t (asking_of s t))) [] _ (rw wait at (le-ltb (wait_for s t (Some asking)) (rows_of s) l)) (through s _ _ (rw (← e))))
