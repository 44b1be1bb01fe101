-- Any sequence of calls on a newly opened store, and an object of it. Source: document 00, 3.
use Rattle.std.specs.Prelude.{ℕ, ◌<◌, List, [], ℤ}
use Rattle.theory.specs.History.{History}
use Rattle.theory.specs.Locking.{Locking}
use Rattle.kinds.specs.declared.Kind.{Kind}
use Rattle.kinds.specs.declared.State.{State}
use Rattle.kinds.specs.Kinds.{kind_of, opened_of, start_of}
use Rattle.kinds.specs.Object.{object_of}
use Rattle.columns.specs.Column.{at, at_z}
use Rattle.store.specs.declared.Store.{Store}
use Rattle.store.specs.Open.{open_of}
use Rattle.store.specs.Calls.{Call, after}
use Rattle.demands.specs.History.{history_from}
use Rattle.demands.specs.Locking.{locking_of}

pub record Run : Type 0 where
  pub kinds : List ℕ
  pub openings : List ℤ
  pub calls : List Call
  pub object : ℕ
  pub has : object < (open_of kinds openings).store.objects.count

abbrev pub opened_in : Run → Store
opened_in r = (open_of r.kinds r.openings).store

-- the store after the calls
abbrev pub store_in : Run → Store
store_in r = after (opened_in r) r.calls

-- the object's kind, and the state that it opened with
abbrev pub kind_in : Run → Kind
kind_in r = kind_of (at r.kinds r.object)

abbrev pub start_in : Run → State
start_in r = start_of (opened_of (kind_in r) (at_z r.openings r.object))

-- the accepted calls, as the object sees them
abbrev pub history_in : (r : Run) → History (object_of (kind_in r))
history_in r = history_from (kind_in r) r.object (opened_in r) [] r.calls

-- the locking object that a store keeps for it
abbrev pub locking_in : (r : Run) → Store → Locking (object_of (kind_in r))
locking_in r s = locking_of (kind_in r) r.object s
