-- The views of a store in form, and that no object's state exceeds its bound. Source: document 01, "Lists of work" and "Objects and numbers".
use Prim.Native.Nat.{ℕ, ◌+◌, ◌<◌, ◌≤◌}
use mathlib.Core.Path.{◌≡◌}
use mathlib.Core.Bool.{true}
use mathlib.Core.List.{◌++◌}
use native.Mathlib.Omega.{arith}
use lib.ListN.{length}
use Rattle.below.proofs.Climb.{lower_to}
use Rattle.kinds.specs.Kinds.{Bounded}
use Rattle.kinds.specs.Object.{StateOf}
use Rattle.kinds.proofs.Takes.{grown_has}
use Rattle.columns.specs.Column.{at, at_z, rows_most}
use Rattle.columns.specs.Work.{work}
use Rattle.columns.proofs.Work.{length_work}
use Rattle.replay.proofs.After.{left_start, left_all}
use Rattle.replay.proofs.Views as replayed
use Rattle.store.specs.declared.Store.{Store}
use Rattle.store.specs.Form.{in_form}
use Rattle.store.specs.Lists.{list_of, view_of, kind_at, state_for}
use Rattle.store.proofs.Facts.{Form, form_facts, lower}

module _ (s : Store) (fine : in_form s ≡ true) where
  form : Form s
  form = form_facts s fine

  -- the root's view is its list
  pub view_root : (o : ℕ) → view_of s o 0 ≡ list_of s o 0
  view_root o = replayed.view_root s.tree.parent (list_of s o)

  -- the view of a transaction is its parent's view followed by its own list
  pub view_step : (o t : ℕ) → 0 < t → t ≤ s.tree.count → view_of s o t ≡ view_of s o (at s.tree.parent t) ++ list_of s o t
  view_step o t z h =
      replayed.view_step s.tree.parent (list_of s o) t (lower_to (at s.tree.parent) rows_most (t + 1) (lower s form) (omega (arith, form.tree.few))) z

  -- a view has at most 1,024 entries
  pub view_short : (o t : ℕ) → t ≤ s.tree.count → length (view_of s o t) ≤ 1024
  view_short o t h =
      omega (
        arith,
        replayed.view_short (work s.lists.listed s.lists.order) s.lists.holder s.accesses.object o s.tree.parent rows_most (lower s form) t (omega (arith, form.tree.few)),
        length_work s.lists.order s.lists.listed,
        form.lists.few,
      )

  -- no balance can exceed 2,024,000,000, the largest opening and 1,024 deposits of the largest size, no register's value 1,000,000,000, and no count is
  -- further than 2,024,000,000 from zero
  pub state_bounded : (o t : ℕ) → o < s.objects.count → t ≤ s.tree.count → StateOf (kind_at s o) (state_for s o t) × Bounded (state_for s o t)
  state_bounded o t known h =
      let start = left_start (kind_at s o) (at_z s.objects.opening o) (length (view_of s o t) + 0) (form.objects.opened o known) (omega (arith, view_short o t h)) in
      let end = left_all (kind_at s o) s.accesses.operation s.accesses.argument (view_of s o t) 0 _ start in
      grown_has (kind_at s o) end.steps (state_for s o t) end.grown (omega (arith, end.left))
