-- The ways that a call can go, and what it is to object o of this kind on each: one split for all that is shown of a call.
use Prim.Native.Nat.{ℕ}
use mathlib.Core.Path.{◌≡◌, sym, ◌∙◌}
use mathlib.Core.Bool.{true, false}
use mathlib.Core.Logic.{⊎_elim}
use mathlib.Core.List.{List, [], ◌∷◌}
use borrow.Author.Tests.{eq-eqb, ne_eqb}
use Rattle.below.proofs.Tests.{same_or, not_so}
use Rattle.theory.specs.History.{Event, created, responded, committed, aborted, History}
use Rattle.theory.proofs.Rows.{Agrees}
use Rattle.theory.proofs.Tree.{access_other}
use Rattle.theory.proofs.Agree.{asked_row, row_asked}
use Rattle.kinds.specs.declared.Kind.{Kind}
use Rattle.kinds.specs.Object.{object_of}
use Rattle.columns.specs.Column.{at}
use Rattle.store.specs.declared.Store.{Store}
use Rattle.refusal.specs.declared.Child.{Child}
use Rattle.store.specs.Form.{in_form}
use Rattle.store.specs.Lists.{kind_at}
use Rattle.store.specs.Create.{create_of}
use Rattle.store.specs.Respond.{respond_of}
use Rattle.store.specs.Finish.{commit_of, abort_of}
use Rattle.store.specs.Effects.{row_of, Sized}
use Rattle.store.specs.Calls.{Call, create, respond, commit, abort, reply_to}
use Rattle.demands.specs.History.{access_in, outcome_for, role_of, events}
use Rattle.demands.proofs.ObjectRows.{away_role, seen_by}
use Rattle.demands.proofs.Access.{access_asked, asked_access}
use Rattle.demands.proofs.Tested.{respond_tests}

-- P of a call and of its events, on each way
pub record Ways (kind : Kind) (o : ℕ) (s : Store) (P : Call → List (Event (object_of kind)) → Type 0) : Type 0 where
  pub refused : (c : Call) → ¬ ((reply_to s c).answer.code ≡ 0) → P c []
  pub creates : (p : ℕ) (child : Child) → (create_of s p child).answer.code ≡ 0
      → P (create p child) (created (create_of s p child).answer.a p (role_of kind o child) ∷ [])
  pub responds : (t : ℕ) → (respond_of s t).answer.code ≡ 0 → at s.accesses.object t ≡ o
      → P (respond t) (responded t (outcome_for (respond_of s t).answer.a (respond_of s t).answer.b) ∷ [])
  pub elsewhere : (t : ℕ) → (respond_of s t).answer.code ≡ 0 → ¬ (at s.accesses.object t ≡ o) → P (respond t) []
  pub commits : (t : ℕ) → (commit_of s t).answer.code ≡ 0 → P (commit t) (committed t ∷ [])
  pub aborts : (t : ℕ) → (abort_of s t).answer.code ≡ 0 → P (abort t) (aborted t ∷ [])

module _ (kind : Kind) (o : ℕ) (s : Store) (sized : Sized s) (fine : in_form s ≡ true) (kinds : kind_at s o ≡ kind)
    (h : History (object_of kind)) (agrees : Agrees h (seen_by kind o s)) where
  -- the history has t as an access to the object exactly when the row says so
  access_on : (t : ℕ) → (respond_of s t).answer.code ≡ 0 → at s.accesses.object t ≡ o → access_in h t ≡ true
  access_on t done on =
      let tests = respond_tests kind o s t fine sized kinds on done in
      let asked = row_asked h (seen_by kind o s) agrees t tests.ask tests.finish.pos tests.finish.known tests.asked in
      asked_access h t asked.0 tests.ask asked.1

  access_off : (t : ℕ) → ¬ (at s.accesses.object t ≡ o) → access_in h t ≡ false
  access_off t off =
      not_so (access_in h t) (λ e.
      let k = access_asked h t e in
      access_other k.0 (sym (away_role kind o (row_of s t) off) ∙ (asked_row h (seen_by kind o s) agrees t k.0 k.1).2))

  module _ (P : Call → List (Event (object_of kind)) → Type 0) (ways : Ways kind o s P) where
    accepted_ways : (c : Call) → (reply_to s c).answer.code ≡ 0 → P c (events kind o h c (reply_to s c).answer)
    accepted_ways (create p child) done = rw (eq-eqb (create_of s p child).answer.code 0 done) (ways.creates p child done)
    accepted_ways (respond t) done =
        let accepted = eq-eqb (respond_of s t).answer.code 0 done in
        ⊎_elim (λ on. rw (accepted, access_on t done on) (ways.responds t done on)) (λ off. rw (accepted, access_off t off) (ways.elsewhere t done off))
        (same_or (at s.accesses.object t) o)
    accepted_ways (commit t) done = rw (eq-eqb (commit_of s t).answer.code 0 done) (ways.commits t done)
    accepted_ways (abort t) done = rw (eq-eqb (abort_of s t).answer.code 0 done) (ways.aborts t done)

    pub by_ways : (c : Call) → P c (events kind o h c (reply_to s c).answer)
    by_ways c = ⊎_elim (accepted_ways c) (λ n. rw (ne_eqb (reply_to s c).answer.code 0 n) (ways.refused c n)) (same_or (reply_to s c).answer.code 0)
