-- The form of a store as a record of facts: what the test says, and what shows it. A new rule is a new field.
use Prim.Native.Nat.{ℕ, ◌<◌, ◌≤◌}
use mathlib.Core.Path.{◌≡◌}
use mathlib.Core.Bool.{Bool, true, ◌&&◌}
use mathlib.Core.Logic.{⊎_elim}
use mathlib.Core.List.{List}
use lib.IntN.{ℤ}
use native.Mathlib.Omega.{arith}
use Rattle.below.specs.Climb.{Lower}
use Rattle.below.proofs.Climb.{lower_to}
use Rattle.below.proofs.Tests.{same_or, and_fst, and_snd}
use Rattle.columns.specs.Column.{at, rows_most}
use Rattle.columns.specs.Work.{Sound}
use Rattle.form.specs.Form.{objects_most, count_most, objects_fine, tree_fine}
use Rattle.form.proofs.Facts.{Objects, Tree, Accesses, Lists, objects_facts, objects_fine_lem, tree_facts, tree_fine_lem, tree_lower, accesses_facts, accesses_fine_lem, lists_facts, lists_fine_lem, sound}
use Rattle.store.specs.declared.Store.{Store}
use Rattle.store.specs.Lists.{rows_of}
use Rattle.store.specs.Form.{in_form}
use Rattle.refusal.specs.Order.{Rooted}

pub record Form (s : Store) : Type 0 where
  pub objects : Objects s.objects.count s.objects.kind s.objects.opening
  pub tree : Tree s.tree.count s.tree.parent s.tree.state s.accesses.operation
  pub accesses : Accesses s.objects.count s.objects.kind s.tree.count s.accesses.object s.accesses.operation s.accesses.argument s.accesses.outcome s.accesses.value
  pub lists : Lists s.tree.count s.tree.parent s.accesses.outcome s.lists.listed s.lists.order s.lists.holder s.lists.place

four : (a b c d : Bool) → (a && (b && (c && d))) ≡ true → (a ≡ true) × (b ≡ true) × (c ≡ true) × (d ≡ true)
four a b c d e =
    let f = and_snd a (b && (c && d)) e in
    let g = and_snd b (c && d) f in
    (and_fst a (b && (c && d)) e, and_fst b (c && d) f, and_fst c d g, and_snd c d g)

module _ (s : Store) where
  pub form_facts : in_form s ≡ true → Form s
  unfolding in_form
  form_facts e =
      let p = four _ _ _ _ e in
      record {
        objects = objects_facts _ _ _ p.0;
        tree = tree_facts _ _ _ _ p.1;
        accesses = accesses_facts _ _ _ _ _ _ _ _ p.2;
        lists = lists_facts _ _ _ _ _ _ _ p.3;
      }

  pub facts_form : Form s → in_form s ≡ true
  unfolding in_form
  facts_form f =
      rw (
        objects_fine_lem _ _ _ f.objects,
        tree_fine_lem _ _ _ _ f.tree,
        accesses_fine_lem _ _ _ _ _ _ _ _ f.accesses,
        lists_fine_lem _ _ _ _ _ _ _ f.lists,
      )

  -- what the functions over the columns ask
  pub lower : Form s → Lower rows_most (at s.tree.parent)
  lower f = tree_lower _ _ _ _ f.tree

  pub lower_rows : Form s → Lower (rows_of s) (at s.tree.parent)
  lower_rows f = lower_to (at s.tree.parent) rows_most (rows_of s) (lower f) (omega (arith, f.tree.few))

  pub listed_sound : Form s → Sound (rows_of s) s.lists.listed s.lists.order s.lists.holder
  listed_sound f = sound _ _ _ _ _ _ _ f.lists (lower f) f.tree.few

  -- a parent is a row
  pub parent_known : Form s → (t : ℕ) → t < rows_most → at s.tree.parent t < rows_most
  parent_known f t h =
      ⊎_elim (λ z. let p : at s.tree.parent t ≡ 0 = f.tree.unused_parent t h (λ u. omega arith) in omega arith)
      (λ n. let l = (lower f).lower t (omega arith) h in omega arith) (same_or t 0)

  pub rooted : Form s → Rooted s.tree.parent
  rooted f = (lower f, parent_known f)

-- what a test has shown that the next asks
pub objects_few : (count : ℕ) (kind : List ℕ) (opening : List ℤ) → objects_fine count kind opening ≡ true → count ≤ objects_most
objects_few count kind opening e = (objects_facts count kind opening e).few

module _ (count : ℕ) (parent state operation : List ℕ) (e : tree_fine count parent state operation ≡ true) where
  pub tree_few : count ≤ count_most
  tree_few = (tree_facts count parent state operation e).few

  pub tree_low : Lower rows_most (at parent)
  tree_low = tree_lower count parent state operation (tree_facts count parent state operation e)
