-- The ways of commit and abort.
use Rattle.std.specs.Prelude.{Option, Some, None}
use Prim.Native.Nat.{ℕ, ◌<◌, ◌≤◌}
use mathlib.Core.Path.{◌≡◌, refl, sym, ap, ◌∙◌}
use mathlib.Core.Bool.{Bool, true, false, cond, ◌&&◌}
use mathlib.Core.List.{[], ◌∷◌}
use native.Mathlib.Omega.{arith}
use lib.IntN.{pos}
use lib.Dec.{eqb}
use borrow.Author.Tests.{ltb-false, eqb-false, not-false}
use Rattle.below.specs.Below.{any_below, found_below}
use Rattle.below.proofs.Tests.{and_both}
use Rattle.below.proofs.Search.{found_nothing}
use Rattle.store.proofs.Found.{found_is, found_small}
use Rattle.columns.specs.Column.{at, rows_most}
use Rattle.columns.specs.Tree.{open_child}
use Rattle.store.specs.declared.Store.{Store}
use Rattle.form.specs.Form.{count_most}
use Rattle.store.specs.Form.{in_form}
use Rattle.store.specs.Lists.{rows_of}
use Rattle.refusal.specs.Refusal.{answer_of}
use Rattle.refusal.specs.declared.reason.Reason.{Reason}
use Rattle.refusal.specs.Reason.{code_of}
use Rattle.refusal.proofs.Codes.{code_some}
use Rattle.refusal.specs.Order.{first_code, Rooted, finish_order}
use Rattle.store.specs.Refusal.{reply_of}
use Rattle.refusal.specs.Exact.{NoneHolds}
use Rattle.store.specs.Finish.{child_open, unanswered, committed, commit_of, aborted, abort_refusals, abort_of}
use Rattle.below.specs.Climb.{Lower}
use Rattle.columns.specs.Work.{Sound}
use Rattle.store.proofs.Facts.{Form, form_facts, lower_rows, listed_sound, rooted}
use Rattle.refusal.proofs.Order.{none_first}
use Rattle.store.proofs.Refusals.{here, next, through, all_pass, stops, passes}

-- what is found only of a plain transaction, or not found
plainly : (b : Bool) (found : Option ℕ) (child : ℕ) → Some child ≡ cond b found None → (b ≡ true) × (Some child ≡ found)
plainly true found child e = (refl, e)
plainly false found child e = absurd (cc e)

not_early : (b : Bool) (p : ℕ → Bool) (n : ℕ) → None ≡ cond b (found_below n p) None → (b && any_below n p) ≡ false
not_early true p n e = found_nothing p n (sym e)
not_early false p n e = refl

-- what is known of a transaction that both may finish
pub record Finishable (s : Store) (t : ℕ) : Type 0 where
  pub form : Form s
  pub some : 0 < t
  pub known : t ≤ s.tree.count
  pub row : t < rows_most

pub finishable : (s : Store) (t : ℕ) → NoneHolds (abort_refusals s t) → Finishable s t
finishable s t n =
    let form = form_facts s (not-false _ (n 0 (omega arith))) in
    let known = ltb-false s.tree.count t (n 1 (omega arith)) in
    let some = eqb-false t 0 (n 2 (omega arith)) in
    record { form = form; some = omega arith; known = known; row = omega (arith, form.tree.few) }

-- what the functions that find the code ask, where the test says whether the store is in form
pub finish_asks : (s : Store) (fine : Bool) → fine ≡ in_form s → fine ≡ true → (s.tree.count ≤ count_most) × Rooted s.tree.parent
finish_asks s fine e t = let f = form_facts s (sym e ∙ t) in (f.tree.few, rooted s f)

module _ (s : Store) (t : ℕ) where
  pub finish_decides : (fine : Bool) (c : ℕ) → fine ≡ in_form s → c ≡ first_code (finish_order fine s.tree.count s.tree.parent s.tree.state t) → c ≡ first_code (abort_refusals s t)
  finish_decides fine c e q = q ∙ ap (λ b. first_code (finish_order b s.tree.count s.tree.parent s.tree.state t)) e

  -- where no refusal is given
  pub none_of : (fine : Bool) → fine ≡ in_form s → 0 ≡ first_code (finish_order fine s.tree.count s.tree.parent s.tree.state t) → NoneHolds (abort_refusals s t)
  none_of fine e q = none_first (abort_refusals s t) refl (sym (finish_decides fine 0 e q))

  pub accepted : (fine : Bool) → fine ≡ in_form s → 0 ≡ first_code (finish_order fine s.tree.count s.tree.parent s.tree.state t) → Finishable s t
  accepted fine e q = finishable s t (none_of fine e q)

  pub row : (fine : Bool) → fine ≡ in_form s → 0 ≡ first_code (finish_order fine s.tree.count s.tree.parent s.tree.state t) → t < rows_most
  row fine e q = (accepted fine e q).row

  pub few : (fine : Bool) → fine ≡ in_form s → 0 ≡ first_code (finish_order fine s.tree.count s.tree.parent s.tree.state t) → s.tree.count < rows_most
  few fine e q = let a = accepted fine e q in omega (arith, a.form.tree.few)

  pub dropping : (fine : Bool) → fine ≡ in_form s → 0 ≡ first_code (finish_order fine s.tree.count s.tree.parent s.tree.state t)
      → Sound (rows_of s) s.lists.listed s.lists.order s.lists.holder × (0 < t) × Lower (rows_of s) (at s.tree.parent)
  dropping fine e q = let a = accepted fine e q in (listed_sound s a.form, a.some, lower_rows s a.form)

  module _ (fine : Bool) (e : fine ≡ in_form s) (reason : Reason) (q : code_of reason ≡ first_code (finish_order fine s.tree.count s.tree.parent s.tree.state t)) where
    pub abort_refused : reply_of s (answer_of (code_of reason) 0 (pos 0)) ≡ abort_of s t
    unfolding abort_of
    abort_refused = stops [] s _ (abort_refusals s t) _ (refl, (refl, (refl, (refl, (refl, tt))))) (finish_decides fine _ e q) (code_some reason)

    pub commit_refused : reply_of s (answer_of (code_of reason) 0 (pos 0)) ≡ commit_of s t
    unfolding commit_of
    commit_refused =
        stops (child_open s t ∷ unanswered s t ∷ []) s _ (abort_refusals s t) _ (refl, (refl, (refl, (refl, (refl, tt))))) (finish_decides fine _ e q) (code_some reason)

  pub abort_done : (fine : Bool) → fine ≡ in_form s → 0 ≡ first_code (finish_order fine s.tree.count s.tree.parent s.tree.state t) → reply_of (aborted s t) (answer_of 0 t (pos 0)) ≡ abort_of s t
  unfolding abort_of
  abort_done fine e q = sym (all_pass s _ (abort_refusals s t) (none_of fine e q))

  -- the open child that keeps it from committing, if there is one
  abbrev early : Option ℕ
  early = cond (eqb (at s.accesses.operation t) 0) (found_below (rows_of s) (open_child s.tree.parent s.tree.state t)) None

  pub early_small : (child : ℕ) → Some child ≡ early → child < rows_of s
  early_small child e = found_small (open_child s.tree.parent s.tree.state t) (rows_of s) child (plainly _ _ child e).1

  module _ (fine : Bool) (accord : fine ≡ in_form s) (zero : 0 ≡ first_code (finish_order fine s.tree.count s.tree.parent s.tree.state t)) where
    n : NoneHolds (abort_refusals s t)
    n = none_of fine accord zero

    pub commit_early : (child : ℕ) → Some child ≡ early → reply_of s (answer_of 11 child (pos 0)) ≡ commit_of s t
    unfolding commit_of
    commit_early child e =
        let b = plainly _ _ child e in
        let f = found_is (open_child s.tree.parent s.tree.state t) (rows_of s) child b.1 in
        ap (λ k. reply_of s (answer_of 11 k (pos 0))) f.1
        ∙ passes (child_open s t ∷ unanswered s t ∷ []) s _ (abort_refusals s t) _ n (here s _ (child_open s t) (unanswered s t ∷ []) (and_both _ _ b.0 f.0))

    module _ (e : None ≡ early) where
      childless : (child_open s t).when ≡ false
      childless = not_early _ (open_child s.tree.parent s.tree.state t) (rows_of s) e

      pub commit_unanswered : (unanswered s t).when ≡ true → reply_of s (answer_of 12 0 (pos 0)) ≡ commit_of s t
      unfolding commit_of
      commit_unanswered u =
          passes (child_open s t ∷ unanswered s t ∷ []) s _ (abort_refusals s t) _ n
          (next s _ (child_open s t) (unanswered s t ∷ []) _ childless (here s _ (unanswered s t) [] u))

      pub commit_done : (unanswered s t).when ≡ false → reply_of (committed s t) (answer_of 0 t (pos 0)) ≡ commit_of s t
      unfolding commit_of
      commit_done u =
          passes (child_open s t ∷ unanswered s t ∷ []) s _ (abort_refusals s t) _ n
          (next s _ (child_open s t) (unanswered s t ∷ []) _ childless (next s _ (unanswered s t) [] _ u (through s _ _ refl)))
