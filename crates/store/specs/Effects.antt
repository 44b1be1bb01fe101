-- What an accepted call does to every row and to every list; z is the store that it hands back. Source: document 01, "Lists of work".
use Rattle.std.specs.Prelude.{ℕ, ◌+◌, ◌≡◌, true, false, [], ◌∷◌, ◌++◌, ℤ, pos, length}
use Rattle.columns.specs.Column.{at, at_z, rows_most, places_most}
use Rattle.columns.specs.Tree.{is_open, has_committed, has_aborted, at_or_above}
use Rattle.form.specs.Form.{objects_most}
use Rattle.kinds.specs.declared.outcome.Numbers.{Numbers}
use Rattle.store.specs.declared.Store.{Store}
use Rattle.refusal.specs.declared.Request.{Request}
use Rattle.store.specs.Lists.{list_of}

-- a transaction's row, without its place on a list
pub record Row : Type 0 where
  pub parent : ℕ
  pub state : ℕ
  pub object : ℕ
  pub operation : ℕ
  pub argument : ℤ
  pub outcome : ℕ
  pub value : ℤ

abbrev pub row_of : Store → ℕ → Row
row_of s k = record {
  parent = at s.tree.parent k;
  state = at s.tree.state k;
  object = at s.accesses.object k;
  operation = at s.accesses.operation k;
  argument = at_z s.accesses.argument k;
  outcome = at s.accesses.outcome k;
  value = at_z s.accesses.value k;
}

abbrev pub in_state : Row → ℕ → Row
in_state r state = record {
  parent = r.parent;
  state = state;
  object = r.object;
  operation = r.operation;
  argument = r.argument;
  outcome = r.outcome;
  value = r.value;
}

abbrev pub with_result : Row → Numbers → Row
with_result r result = record {
  parent = r.parent;
  state = r.state;
  object = r.object;
  operation = r.operation;
  argument = r.argument;
  outcome = result.a + 1;
  value = result.b;
}

abbrev pub new_row : ℕ → Request → Row
new_row p r = record {
  parent = p;
  state = is_open;
  object = r.object;
  operation = r.operation;
  argument = r.argument;
  outcome = 0;
  value = pos 0;
}

-- the objects stay as they were opened
pub record SameObjects (s z : Store) : Type 0 where
  pub objects : z.objects.count ≡ s.objects.count
  pub kind : z.objects.kind ≡ s.objects.kind
  pub opening : z.objects.opening ≡ s.objects.opening

-- p's new child gets the next number; every list stays
pub record Creates (s : Store) (p : ℕ) (r : Request) (z : Store) : Type 0 where
  pub same : SameObjects s z
  pub count : z.tree.count ≡ s.tree.count + 1
  pub row : row_of z (s.tree.count + 1) ≡ new_row p r
  pub rows : (k : ℕ) → (k ≡ s.tree.count + 1 → ⊥) → row_of z k ≡ row_of s k
  pub lists : (o u : ℕ) → list_of z o u ≡ list_of s o u

-- respond puts the access on its own list, with its result on record
pub record Responds (s : Store) (t : ℕ) (result : Numbers) (z : Store) : Type 0 where
  pub same : SameObjects s z
  pub count : z.tree.count ≡ s.tree.count
  pub row : row_of z t ≡ with_result (row_of s t) result
  pub rows : (k : ℕ) → (k ≡ t → ⊥) → row_of z k ≡ row_of s k
  pub own : list_of z (at s.accesses.object t) t ≡ t ∷ []
  pub lists : (o u : ℕ) → (u ≡ t → o ≡ at s.accesses.object t → ⊥) → list_of z o u ≡ list_of s o u

-- commit of t appends t's list to the end of its parent's, for every object, and empties t's
pub record Commits (s : Store) (t : ℕ) (z : Store) : Type 0 where
  pub same : SameObjects s z
  pub count : z.tree.count ≡ s.tree.count
  pub row : row_of z t ≡ in_state (row_of s t) has_committed
  pub rows : (k : ℕ) → (k ≡ t → ⊥) → row_of z k ≡ row_of s k
  pub appended : (o : ℕ) → list_of z o (at s.tree.parent t) ≡ list_of s o (at s.tree.parent t) ++ list_of s o t
  pub emptied : (o : ℕ) → list_of z o t ≡ []
  pub lists : (o u : ℕ) → (u ≡ t → ⊥) → (u ≡ at s.tree.parent t → ⊥) → list_of z o u ≡ list_of s o u

-- abort of t empties the lists of t and of all beneath it
pub record Aborts (s : Store) (t : ℕ) (z : Store) : Type 0 where
  pub same : SameObjects s z
  pub count : z.tree.count ≡ s.tree.count
  pub row : row_of z t ≡ in_state (row_of s t) has_aborted
  pub rows : (k : ℕ) → (k ≡ t → ⊥) → row_of z k ≡ row_of s k
  pub emptied : (o u : ℕ) → at_or_above s.tree.parent u t ≡ true → list_of z o u ≡ []
  pub lists : (o u : ℕ) → at_or_above s.tree.parent u t ≡ false → list_of z o u ≡ list_of s o u

-- the lengths of the columns, which the types of the code fix
pub record Sized (s : Store) : Type 0 where
  pub kind : length s.objects.kind ≡ objects_most
  pub opening : length s.objects.opening ≡ objects_most
  pub parent : length s.tree.parent ≡ rows_most
  pub state : length s.tree.state ≡ rows_most
  pub object : length s.accesses.object ≡ rows_most
  pub operation : length s.accesses.operation ≡ rows_most
  pub argument : length s.accesses.argument ≡ rows_most
  pub outcome : length s.accesses.outcome ≡ rows_most
  pub value : length s.accesses.value ≡ rows_most
  pub order : length s.lists.order ≡ places_most
  pub holder : length s.lists.holder ≡ rows_most
  pub place : length s.lists.place ≡ rows_most
