-- Opening a store. Source: document 01, "Objects and numbers" and "Calls, answers and their order", code 14.
use Rattle.std.specs.Prelude.{ℕ, cond, List, ℤ, pos, length, replicate}
use Rattle.below.specs.Below.{set_below}
use Rattle.columns.specs.Column.{at, at_z, rows_most, places_most}
use Rattle.form.specs.Form.{objects_most}
use Rattle.store.specs.declared.Store.{Store}
use Rattle.store.specs.declared.Reply.{Reply}
use Rattle.refusal.specs.Open.{openable}
use Rattle.refusal.specs.Refusal.{answer_of}
use Rattle.store.specs.Refusal.{reply_of}

-- the store with these objects, numbered from 0 in the order of the opening, and no transactions
abbrev pub store_of : ℕ → List ℕ → List ℤ → Store
store_of objects kind opening = record {
  objects = record {
    count = objects;
    kind = kind;
    opening = opening;
  };
  tree = record {
    count = 0;
    parent = replicate rows_most 0;
    state = replicate rows_most 0;
  };
  accesses = record {
    object = replicate rows_most 0;
    operation = replicate rows_most 0;
    argument = replicate rows_most (pos 0);
    outcome = replicate rows_most 0;
    value = replicate rows_most (pos 0);
  };
  lists = record {
    listed = 0;
    order = replicate places_most 0;
    holder = replicate rows_most 0;
    place = replicate rows_most 0;
  };
}

-- the store with no objects and no transactions
abbrev pub empty_store : Store
empty_store = store_of 0 (replicate objects_most 0) (replicate objects_most (pos 0))

abbrev pub opened_store : List ℕ → List ℤ → Store
opened_store kinds openings =
    store_of (length kinds) (set_below (length kinds) (at kinds) (replicate objects_most 0)) (set_below (length kinds) (at_z openings) (replicate objects_most (pos 0)))

-- 14: no object, more than 64, unknown kind, or opening out of range; and the store with no objects and no transactions
unfoldable pub open_of : List ℕ → List ℤ → Reply
open_of kinds openings =
    cond (openable kinds openings) (reply_of (opened_store kinds openings) (answer_of 0 (length kinds) (pos 0)))
    (reply_of empty_store (answer_of 14 0 (pos 0)))
