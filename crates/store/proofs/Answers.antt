-- When each code is given, with which a and b, and that every answer but 0 leaves the store as it came in.
-- Source: document 01, "Calls, answers and their order".
use Prim.Native.Nat.{ℕ, zero, suc, ◌+◌, ◌<◌}
use mathlib.Core.Path.{◌≡◌, refl, sym, ap, ◌∙◌}
use mathlib.Core.Bool.{true, false}
use mathlib.Core.Logic.{◌↔◌, ⊎_elim}
use mathlib.Core.List.{List, [], ◌∷◌}
use native.Mathlib.Omega.{arith}
use lib.IntN.{pos}
use lib.ListN.{length}
use lib.Dec.{eqb}
use Rattle.promise.proofs.Sole.{sole}
use Rattle.below.specs.Below.{any_below, Lowest}
use Rattle.below.proofs.Tests.{and_fst, and_snd}
use Rattle.below.proofs.Search.{first_lowest}
use Rattle.below.proofs.Climb.{up_stop}
use Rattle.columns.specs.Column.{at}
use Rattle.columns.specs.Tree.{has_aborted, open_child}
use Rattle.form.proofs.KeptAccesses.{root_plain}
use Rattle.store.specs.declared.Store.{Store}
use Rattle.store.specs.declared.Reply.{Reply}
use Rattle.refusal.specs.declared.Child.{Child}
use Rattle.refusal.specs.declared.Child.TheVariants.{Plain, Access}
use Rattle.store.specs.Form.{in_form}
use Rattle.store.specs.Lists.{rows_of}
use Rattle.refusal.specs.Refusal.{Refusal, answer_of}
use Rattle.store.specs.Refusal.{reply_of, decide, finished, orphaned}
use Rattle.refusal.specs.Exact.{codes_of, nth, FirstToHold}
use Rattle.store.specs.Create.{under_access, no_object, unfit, request_of, created, create_refusals, create_of}
use Rattle.store.specs.Respond.{asking_of, result_of, responded, respond_refusals, respond_of}
use Rattle.store.specs.Claims.{Decided}
use Rattle.store.specs.Finish.{child_open, unanswered, committed, commit_refusals, commit_of, aborted, abort_refusals, abort_of}
use Rattle.store.proofs.Facts.{Form, form_facts}
use Rattle.refusal.proofs.Order.{first_or_none, distinct}
use Rattle.store.proofs.Refusals.{here, next, exactly, none_holds, all_pass, refused_same}

module _ (s : Store) (done : Reply) where
  first_reply : (refusals : List Refusal) (i : ℕ) → i < length refusals → FirstToHold refusals i → decide s refusals done ≡ reply_of s (nth refusals i).answer
  first_reply [] i h f = absurd (omega arith)
  first_reply (r ∷ rest) zero h f = sym (here s done r rest f.holds)
  first_reply (r ∷ rest) (suc i) h f =
      let later = first_reply rest i (omega arith) (record { holds = f.holds; none_earlier = λ j l. f.none_earlier (suc j) (omega arith) }) in
      sym (next s done r rest _ (f.none_earlier 0 (omega arith)) (sym later))

  decided : (refusals : List Refusal) → done.answer.code ≡ 0 → distinct (codes_of refusals) ≡ true → Decided s refusals done (decide s refusals done)
  decided refusals z d =
      let none : (decide s refusals done).answer.code ≡ 0 → (i : ℕ) → i < length refusals → (nth refusals i).when ≡ false = none_holds s done z refusals d in
      record {
        exactly = exactly s done z refusals d;
        whole = first_reply refusals;
        passed = (none, λ h. ap (λ x. x.answer.code) (all_pass s done refusals h) ∙ z);
        does = λ e. all_pass s done refusals (none e);
        refused = λ n. refused_same s done refusals n z;
      }

-- two replies of which this is so are equal
pub decided_sole : (s : Store) (refusals : List Refusal) (done x y : Reply) → Decided s refusals done x → Decided s refusals done y → x ≡ y
decided_sole s refusals done x y p q =
    ⊎_elim (λ (i, b, first). sole (p.whole i b first) (q.whole i b first)) (λ none. sole (p.does (p.passed.1 none)) (q.does (q.passed.1 none)))
    (first_or_none refusals)

-- create: 15, 1, 3, 4, 5, 6, 7, 8
module _ (s : Store) (p : ℕ) where
  pub create_order_lem : (child : Child) → codes_of (create_refusals s p child) ≡ 15 ∷ 1 ∷ 3 ∷ 4 ∷ 5 ∷ 6 ∷ 7 ∷ 8 ∷ []
  create_order_lem Plain = refl
  create_order_lem (Access r) = refl

  -- the new number is one more than the last: numbers run 1, 2, 3 in order of accepted creations
  pub create_decided : (child : Child) → Decided s (create_refusals s p child) (reply_of (created s p (request_of child)) (answer_of 0 (s.tree.count + 1) (pos 0))) (create_of s p child)
  unfolding create_of
  create_decided child =
      decided s (reply_of (created s p (request_of child)) (answer_of 0 (s.tree.count + 1) (pos 0))) (create_refusals s p child) refl (ap distinct (create_order_lem child))

  pub create_codes : (child : Child) (i : ℕ) → i < 8
      → ((create_of s p child).answer.code ≡ (nth (create_refusals s p child) i).answer.code) ↔ FirstToHold (create_refusals s p child) i
  create_codes child = (create_decided child).exactly

  pub create_refused : (child : Child) → ((create_of s p child).answer.code ≡ 0 → ⊥) → (create_of s p child).store ≡ s
  create_refused child = (create_decided child).refused

-- 6 and 7 are for accesses only
pub plain_never : (s : Store) → ((no_object s Plain).when ≡ false) × ((unfit s Plain).when ≡ false)
plain_never s = (refl, refl)

-- for a parent that is the root 3, 4 and 5 never hold
pub root_open : (s : Store) → in_form s ≡ true → ((under_access s 0).when ≡ false) × ((finished s 0).when ≡ false) × ((orphaned s 0).when ≡ false)
root_open s fine =
    let form : Form s = form_facts s fine in
    let operation : at s.accesses.operation 0 ≡ 0 = root_plain _ _ _ _ _ _ _ _ form.accesses in
    let state : at s.tree.state 0 ≡ 0 = form.tree.unused_state 0 (omega arith) (λ u. omega (arith, u)) in
    let parent : at s.tree.parent 0 ≡ 0 = form.tree.unused_parent 0 (omega arith) (λ u. omega (arith, u)) in (
      rw operation,
      rw state,
      up_stop (at s.tree.parent) (λ y. eqb (at s.tree.state y) has_aborted) (at s.tree.parent 0) parent (rw (parent, state)),
    )

module _ (s : Store) (t : ℕ) where
  -- respond: 15, 1, 2, 9, 4, 5, 10, 13
  pub respond_order : codes_of (respond_refusals s t) ≡ 15 ∷ 1 ∷ 2 ∷ 9 ∷ 4 ∷ 5 ∷ 10 ∷ 13 ∷ []
  respond_order = refl

  -- a and b are the result's
  pub respond_decided : Decided s (respond_refusals s t)
      (reply_of (responded s t (result_of (asking_of s t))) (answer_of 0 (result_of (asking_of s t)).a (result_of (asking_of s t)).b)) (respond_of s t)
  unfolding respond_of
  respond_decided =
      decided s (reply_of (responded s t (result_of (asking_of s t))) (answer_of 0 (result_of (asking_of s t)).a (result_of (asking_of s t)).b))
      (respond_refusals s t) refl refl

  pub respond_codes : (i : ℕ) → i < 8 → ((respond_of s t).answer.code ≡ (nth (respond_refusals s t) i).answer.code) ↔ FirstToHold (respond_refusals s t) i
  respond_codes = respond_decided.exactly

  pub respond_refused : ((respond_of s t).answer.code ≡ 0 → ⊥) → (respond_of s t).store ≡ s
  respond_refused = respond_decided.refused

  -- commit: 15, 1, 2, 4, 5, then 11 or 12
  pub commit_order : codes_of (commit_refusals s t) ≡ 15 ∷ 1 ∷ 2 ∷ 4 ∷ 5 ∷ 11 ∷ 12 ∷ []
  commit_order = refl

  pub commit_decided : Decided s (commit_refusals s t) (reply_of (committed s t) (answer_of 0 t (pos 0))) (commit_of s t)
  unfolding commit_of
  commit_decided = decided s (reply_of (committed s t) (answer_of 0 t (pos 0))) (commit_refusals s t) refl refl

  pub commit_codes : (i : ℕ) → i < 7 → ((commit_of s t).answer.code ≡ (nth (commit_refusals s t) i).answer.code) ↔ FirstToHold (commit_refusals s t) i
  commit_codes = commit_decided.exactly

  pub commit_refused : ((commit_of s t).answer.code ≡ 0 → ⊥) → (commit_of s t).store ≡ s
  commit_refused = commit_decided.refused

  -- 11 is for plain transactions, 12 for accesses: where one holds, the other does not
  pub commit_either : (child_open s t).when ≡ true → (unanswered s t).when ≡ false
  commit_either e = rw (and_fst (eqb (at s.accesses.operation t) 0) (any_below (rows_of s) (open_child s.tree.parent s.tree.state t)) e)

  -- 11 names the lowest child that has neither committed nor aborted
  pub child_lowest : (child_open s t).when ≡ true → Lowest (rows_of s) (open_child s.tree.parent s.tree.state t) (child_open s t).answer.a
  child_lowest e =
      first_lowest (open_child s.tree.parent s.tree.state t) (rows_of s)
      (and_snd (eqb (at s.accesses.operation t) 0) (any_below (rows_of s) (open_child s.tree.parent s.tree.state t)) e)

  -- abort: 15, 1, 2, 4, 5
  pub abort_order : codes_of (abort_refusals s t) ≡ 15 ∷ 1 ∷ 2 ∷ 4 ∷ 5 ∷ []
  abort_order = refl

  pub abort_decided : Decided s (abort_refusals s t) (reply_of (aborted s t) (answer_of 0 t (pos 0))) (abort_of s t)
  unfolding abort_of
  abort_decided = decided s (reply_of (aborted s t) (answer_of 0 t (pos 0))) (abort_refusals s t) refl refl

  pub abort_codes : (i : ℕ) → i < 5 → ((abort_of s t).answer.code ≡ (nth (abort_refusals s t) i).answer.code) ↔ FirstToHold (abort_refusals s t) i
  abort_codes = abort_decided.exactly

  pub abort_refused : ((abort_of s t).answer.code ≡ 0 → ⊥) → (abort_of s t).store ≡ s
  abort_refused = abort_decided.refused
