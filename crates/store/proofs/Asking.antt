-- What the row of an access that may respond says, and the object's state as the code comes to it.
use Rattle.std.specs.Prelude.{Option, Some}
use Prim.Native.Nat.{ℕ, ◌<◌, ◌≤◌, ◌^◌}
use mathlib.Core.Path.{◌≡◌, ap, ap₂, ◌∙◌}
use mathlib.Core.Bool.{true}
use native.Mathlib.Omega.{arith}
use lib.IntN.{ℤ}
use lib.Signed.{mag}
use mir.Syntax.{w64}
use mir.Val.{to_z, of_z}
use mir.Facts.{to_z-of_z}
use Rattle.kinds.specs.declared.Kind.{Kind}
use Rattle.kinds.specs.declared.State.{State}
use Rattle.kinds.specs.declared.Operation.{Operation}
use Rattle.kinds.specs.Kinds.{kind_of, opened_of, start_of, opens, Room}
use Rattle.kinds.proofs.Claims.{no_sum_wraps}
use Rattle.columns.specs.Column.{at, at_z, rows_most}
use Rattle.columns.specs.Work.{work, list_in}
use Rattle.form.proofs.Facts.{asked_access, once}
use Rattle.replay.specs.Access.{asked_of}
use Rattle.replay.specs.View.{view_in, after_all, Distinct}
use Rattle.store.specs.declared.Store.{Store}
use Rattle.store.specs.Form.{in_form}
use Rattle.store.specs.Lists.{kind_at, asked_at, state_for}
use Rattle.store.proofs.Facts.{Form, form_facts}
use Rattle.store.proofs.Views.{state_bounded}

pub record Ready (s : Store) (t : ℕ) : Type 0 where
  pub form : Form s
  pub known : t ≤ s.tree.count
  pub row : t < rows_most
  pub object : at s.accesses.object t < s.objects.count
  pub small : at s.accesses.object t < 64

module _ (s : Store) (t : ℕ) where
  pub ready : in_form s ≡ true → t ≤ s.tree.count → (at s.accesses.operation t ≡ 0 → ⊥) → Ready s t
  ready e k n =
      let f = form_facts s e in
      let row : t < rows_most = omega (arith, f.tree.few) in
      let o = f.accesses.known t row (asked_access _ _ _ _ _ _ _ _ f.accesses t row n) in
      record { form = f; known = k; row = row; object = o; small = omega (arith, f.objects.few) }

  pub listed_once : Form s → Distinct s.lists.listed s.lists.order
  listed_once f = record { once = once _ _ _ _ _ _ _ f.lists; some = λ k h. (f.lists.entries k h).some }

  -- the code has the object's number as w, its kind as k, and its opening value as the machine holds it
  module _ (w : ℕ) (e : w ≡ at s.accesses.object t) (k : Kind) (q : k ≡ kind_of (at s.objects.kind w)) where
    abbrev o : ℕ
    o = at s.accesses.object t

    pub kind_is : k ≡ kind_at s o
    kind_is = q ∙ ap (λ x. kind_of (at s.objects.kind x)) e

    pub asked_is : (d : Option Operation) → d ≡ asked_of k s.accesses.operation s.accesses.argument t → d ≡ asked_at s o t
    asked_is d h = h ∙ ap (λ k. asked_of k s.accesses.operation s.accesses.argument t) kind_is

    module _ (m : mag (at_z s.objects.opening w) < 2 ^ 63) where
      abbrev held : ℤ
      held = to_z w64 (of_z w64 (at_z s.objects.opening w))

      opening_is : opened_of k held ≡ opened_of (kind_at s o) (at_z s.objects.opening o)
      opening_is = ap₂ opened_of kind_is (to_z-of_z {w = w64} (record { sfits = m }) ∙ ap (at_z s.objects.opening) e)

      pub opens_is : Ready s t → opens (opened_of k held) ≡ true
      opens_is r = ap opens opening_is ∙ r.form.objects.opened o r.object

      pub state_is : (state : State)
          → state ≡ after_all (asked_of k s.accesses.operation s.accesses.argument) (view_in s.tree.parent (list_in (work s.lists.listed s.lists.order) s.lists.holder s.accesses.object o) t) (start_of (opened_of k held))
          → state ≡ state_for s o t
      state_is state h =
          h
          ∙ ap₂ (λ k x. after_all (asked_of k s.accesses.operation s.accesses.argument) (view_in s.tree.parent (list_in (work s.lists.listed s.lists.order) s.lists.holder s.accesses.object o) t) (start_of x)) kind_is opening_is

-- its step fits
module _ (s : Store) (t : ℕ) where
  module _ (op : Operation) (e : asked_at s (at s.accesses.object t) t ≡ Some op) (state : State) (q : state ≡ state_for s (at s.accesses.object t) t) where
    pub step_fits : in_form s ≡ true → Ready s t → Room state op
    step_fits f r = no_sum_wraps (kind_at s (at s.accesses.object t)) (at s.accesses.operation t) (at_z s.accesses.argument t) op state e (rw q (state_bounded s f (at s.accesses.object t) t r.object r.known).1)
