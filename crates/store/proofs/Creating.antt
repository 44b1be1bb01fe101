-- The ways of create.
use Rattle.std.specs.Prelude.{Option, Some, None}
use Prim.Native.Nat.{ℕ, ◌+◌, ◌<◌, ◌≤◌}
use mathlib.Core.Path.{◌≡◌, refl, sym, ap, ◌∙◌}
use mathlib.Core.Bool.{Bool, true, false, true≢false}
use mathlib.Core.List.{[]}
use native.Mathlib.Omega.{arith}
use lib.IntN.{pos}
use borrow.Author.Tests.{ltb-false, leb-false, not-false}
use Rattle.kinds.specs.declared.Operation.{Operation}
use Rattle.kinds.specs.Kinds.{decode_of}
use Rattle.kinds.proofs.Fits.{fit_number}
use Rattle.columns.specs.Column.{rows_most}
use Rattle.form.specs.Form.{objects_most, count_most}
use Rattle.store.specs.declared.Store.{Store}
use Rattle.refusal.specs.declared.Request.{Request}
use Rattle.refusal.specs.declared.Child.{Child}
use Rattle.refusal.specs.declared.Child.TheVariants.{Plain, Access}
use Rattle.store.specs.Form.{in_form}
use Rattle.store.specs.Lists.{kind_at}
use Rattle.refusal.specs.Refusal.{answer_of}
use Rattle.refusal.specs.declared.reason.Reason.{Reason}
use Rattle.refusal.specs.Reason.{code_of}
use Rattle.refusal.proofs.Codes.{code_some}
use Rattle.refusal.specs.Order.{first_code, Rooted, create_order}
use Rattle.store.specs.Refusal.{reply_of}
use Rattle.refusal.specs.Exact.{NoneHolds}
use Rattle.refusal.specs.Create.{unfit_in}
use Rattle.store.specs.Create.{no_object, unfit, request_of, created, create_refusals, create_of}
use Rattle.store.proofs.Facts.{Form, form_facts, rooted}
use Rattle.refusal.proofs.Order.{none_first, distinct}
use Rattle.store.proofs.Refusals.{all_pass, stops}
use Rattle.store.proofs.Answers.{create_order_lem}

-- what is not unfit fits
pub fitting : (d : Option Operation) → unfit_in d ≡ false → (o : Operation) × (d ≡ Some o)
fitting (Some o) e = (o, refl)
fitting None e = absurd (true≢false e)

-- the new row's object and operation each fit a byte
narrow : (s : Store) → Form s → (child : Child) → (no_object s child).when ≡ false → (unfit s child).when ≡ false
    → ((request_of child).object < objects_most) × ((request_of child).operation < 256)
narrow s form Plain known fit = (omega arith, omega arith)
narrow s form (Access r) known fit =
    let f = fitting (decode_of (kind_at s r.object) r.operation r.argument) fit in
    let number = fit_number (kind_at s r.object) r.operation r.argument f.0 f.1 in
    (omega (arith, leb-false s.objects.count r.object known, form.objects.few), number.1)

-- what is known of a transaction that may be created
pub record Creatable (s : Store) (p : ℕ) (r : Request) : Type 0 where
  pub room : s.tree.count < count_most
  pub known : p < rows_most
  pub object : r.object < objects_most
  pub operation : r.operation < 256

module _ (s : Store) (p : ℕ) (child : Child) where
  -- what the function that finds the code asks, where the test says whether the store is in form; and that the code is the call's
  pub create_asks : (fine : Bool) → fine ≡ in_form s → fine ≡ true → (s.tree.count ≤ count_most) × (s.objects.count ≤ objects_most) × Rooted s.tree.parent
  create_asks fine e t = let f = form_facts s (sym e ∙ t) in (f.tree.few, f.objects.few, rooted s f)

  pub create_decides : (fine : Bool) (c : ℕ) → fine ≡ in_form s → c ≡ first_code (create_order fine s.tree.count s.tree.parent s.tree.state s.accesses.operation s.objects.count s.objects.kind p child) → c ≡ first_code (create_refusals s p child)
  create_decides fine c e q =
      q ∙ ap (λ b. first_code (create_order b s.tree.count s.tree.parent s.tree.state s.accesses.operation s.objects.count s.objects.kind p child)) e

  -- where no refusal is given
  pub none_of : (fine : Bool) → fine ≡ in_form s → 0 ≡ first_code (create_order fine s.tree.count s.tree.parent s.tree.state s.accesses.operation s.objects.count s.objects.kind p child) → NoneHolds (create_refusals s p child)
  none_of fine e q = none_first (create_refusals s p child) (ap distinct (create_order_lem s p child)) (sym (create_decides fine 0 e q))

  pub creatable : NoneHolds (create_refusals s p child) → Creatable s p (request_of child)
  creatable n =
      let form = form_facts s (not-false _ (n 0 (omega arith))) in
      let small = narrow s form child (n 5 (omega arith)) (n 6 (omega arith)) in
      record {
        room = leb-false count_most s.tree.count (n 7 (omega arith));
        known = omega (arith, ltb-false s.tree.count p (n 1 (omega arith)), form.tree.few);
        object = small.0;
        operation = small.1;
      }

  pub accepted : (fine : Bool) → fine ≡ in_form s → 0 ≡ first_code (create_order fine s.tree.count s.tree.parent s.tree.state s.accesses.operation s.objects.count s.objects.kind p child) → Creatable s p (request_of child)
  accepted fine e q = creatable (none_of fine e q)

  pub narrow_request : (fine : Bool) → fine ≡ in_form s → 0 ≡ first_code (create_order fine s.tree.count s.tree.parent s.tree.state s.accesses.operation s.objects.count s.objects.kind p child) → ((request_of child).object < objects_most) × ((request_of child).operation < 256)
  narrow_request fine e q = let a = accepted fine e q in (a.object, a.operation)

  pub room : (fine : Bool) → fine ≡ in_form s → 0 ≡ first_code (create_order fine s.tree.count s.tree.parent s.tree.state s.accesses.operation s.objects.count s.objects.kind p child) → (s.tree.count < count_most) × (p < rows_most)
  room fine e q = let a = accepted fine e q in (a.room, a.known)

  pub create_refused : (fine : Bool) → fine ≡ in_form s → (reason : Reason) → code_of reason ≡ first_code (create_order fine s.tree.count s.tree.parent s.tree.state s.accesses.operation s.objects.count s.objects.kind p child)
      → reply_of s (answer_of (code_of reason) 0 (pos 0)) ≡ create_of s p child
  unfolding create_of
  create_refused fine e reason q =
      stops [] s _ (create_refusals s p child) _ (refl, (refl, (refl, (refl, (refl, (refl, (refl, (refl, tt)))))))) (create_decides fine _ e q) (code_some reason)

  pub create_done : (fine : Bool) → fine ≡ in_form s → 0 ≡ first_code (create_order fine s.tree.count s.tree.parent s.tree.state s.accesses.operation s.objects.count s.objects.kind p child) → reply_of (created s p (request_of child)) (answer_of 0 (s.tree.count + 1) (pos 0)) ≡ create_of s p child
  unfolding create_of
  create_done fine e q = sym (all_pass s _ (create_refusals s p child) (none_of fine e q))
