-- The lists of work and the views of a store. Source: document 01, "Lists of work".
use Rattle.std.specs.Prelude.{ℕ, ◌+◌, List, Option}
use Rattle.kinds.specs.declared.Kind.{Kind}
use Rattle.kinds.specs.declared.State.{State}
use Rattle.kinds.specs.Kinds.{kind_of, opened_of, start_of}
use Rattle.columns.specs.Column.{at, at_z}
use Rattle.columns.specs.Work.{work, list_in}
use Rattle.replay.specs.Access.{asked_of, recorded_of}
use Rattle.replay.specs.View.{view_in, after_all}
use Rattle.store.specs.declared.Store.{Store}
use Rattle.kinds.specs.declared.Operation.{Operation}
use Rattle.kinds.specs.declared.Answered.{Answered}

-- the root's row and each transaction's
abbrev pub rows_of : Store → ℕ
rows_of s = s.tree.count + 1

-- for each object every transaction, the root included, has a list of answered accesses
abbrev pub list_of : Store → ℕ → ℕ → List ℕ
list_of s object holder = list_in (work s.lists.listed s.lists.order) s.lists.holder s.accesses.object object holder

-- for each object, the view of a transaction is its parent's view followed by its own list; the root's view is its list
abbrev pub view_of : Store → ℕ → ℕ → List ℕ
view_of s object t = view_in s.tree.parent (list_of s object) t

abbrev pub kind_at : Store → ℕ → Kind
kind_at s object = kind_of (at s.objects.kind object)

-- what access x asks of the object, and the answer on record
abbrev pub asked_at : Store → ℕ → ℕ → Option Operation
asked_at s object x = asked_of (kind_at s object) s.accesses.operation s.accesses.argument x

abbrev pub recorded_at : Store → ℕ → ℕ → Option Answered
recorded_at s object x = recorded_of (asked_at s object x) (at s.accesses.outcome x) (at_z s.accesses.value x)

-- the object after the view's operations, applied in order from the opening value, recorded results ignored
abbrev pub state_for : Store → ℕ → ℕ → State
state_for s object t = after_all (asked_at s object) (view_of s object t) (start_of (opened_of (kind_at s object) (at_z s.objects.opening object)))
