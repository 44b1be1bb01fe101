-- The form rules of a store, over its columns. Source: document 01, "Calls, answers and their order", the paragraph "Form rules of a store".
use Rattle.std.specs.Prelude.{ℕ, ◌+◌, ◌-◌, Bool, true, false, cond, ◌&&◌, not, List, ℤ, pos, negsuc, eqb, leb, ltb, Option, Some, None}
use Rattle.below.specs.Below.{all_below}
use Rattle.kinds.specs.Kinds.{kind_of, opened_of, opens, decode_of, recall_of}
use Rattle.columns.specs.Column.{at, at_z, rows_most, places_most}
use Rattle.columns.specs.Tree.{has_aborted, at_or_above}
use Rattle.kinds.specs.declared.Operation.{Operation}
use Rattle.kinds.specs.declared.outcome.Outcome.{Outcome}

-- 0 to 64 objects and 0 to 1,024 transactions
abbrev pub objects_most : ℕ
objects_most = 64

abbrev pub count_most : ℕ
count_most = 1024

-- a field that is unused is zero
abbrev pub is_zero : ℤ → Bool
is_zero (pos n) = eqb n 0
is_zero (negsuc n) = false

-- each object's kind known and its opening in range; unused entries are zero
abbrev pub object_fine : ℕ → List ℕ → List ℤ → ℕ → Bool
object_fine objects kind opening o =
    cond (ltb o objects) (opens (opened_of (kind_of (at kind o)) (at_z opening o)))
    (eqb (at kind o) 0 && is_zero (at_z opening o))

-- the objects: 0 to 64, each so
unfoldable pub objects_fine : ℕ → List ℕ → List ℤ → Bool
objects_fine objects kind opening = leb objects objects_most && all_below objects_most (object_fine objects kind opening)

-- rows 1 to count are the transactions'; the root's and the rest are unused
abbrev pub used : ℕ → ℕ → Bool
used count k = ltb 0 k && leb k count

-- each parent's number lower than the child's and never an access; each transaction open, committed or aborted; unused
-- fields are zero
abbrev pub tree_row : ℕ → List ℕ → List ℕ → List ℕ → ℕ → Bool
tree_row count parent state operation k =
    cond (used count k) (ltb (at parent k) k && (eqb (at operation (at parent k)) 0 && leb (at state k) has_aborted))
    (eqb (at parent k) 0 && eqb (at state k) 0)

-- the tree: 0 to 1,024 transactions, each so
unfoldable pub tree_fine : ℕ → List ℕ → List ℕ → List ℕ → Bool
tree_fine count parent state operation = leb count count_most && all_below rows_most (tree_row count parent state operation)

-- an access is a transaction with an operation
abbrev pub is_access : ℕ → List ℕ → ℕ → Bool
is_access count operation k = used count k && not (eqb (at operation k) 0)

-- a result of a shape its operation allows
abbrev pub given : Option Outcome → Bool
given (Some r) = true
given None = false

-- operation and argument fit; an answered access has a result of a shape its operation allows, an unanswered one has none
abbrev pub fits : Option Operation → ℕ → ℤ → Bool
fits None outcome value = false
fits (Some o) outcome value = cond (eqb outcome 0) (is_zero value) (given (recall_of o (outcome - 1) value))

-- what is no access has no object, operation, argument or result
abbrev pub blank : ℕ → ℕ → ℤ → ℕ → ℤ → Bool
blank object operation argument outcome value =
    eqb object 0 && (eqb operation 0 && (is_zero argument && (eqb outcome 0 && is_zero value)))

-- object, operation and argument of an access fit, and its result; unused fields are zero
abbrev pub access_row : ℕ → List ℕ → ℕ → List ℕ → List ℕ → List ℤ → List ℕ → List ℤ → ℕ → Bool
access_row objects kind count object operation argument outcome value k =
    cond (is_access count operation k)
    (ltb (at object k) objects && fits (decode_of (kind_of (at kind (at object k))) (at operation k) (at_z argument k)) (at outcome k) (at_z value k))
    (blank (at object k) (at operation k) (at_z argument k) (at outcome k) (at_z value k))

-- the accesses: each row so
unfoldable pub accesses_fine : ℕ → List ℕ → ℕ → List ℕ → List ℕ → List ℤ → List ℕ → List ℤ → Bool
accesses_fine objects kind count object operation argument outcome value =
    all_below rows_most (access_row objects kind count object operation argument outcome value)

-- an answered access is on exactly one list, at the one place where the order has it, that of a transaction at or above it, or on none; an unanswered
-- one is on no list
abbrev pub list_row : List ℕ → List ℕ → ℕ → List ℕ → List ℕ → List ℕ → ℕ → Bool
list_row parent outcome listed order holder place k =
    cond (eqb (at place k) 0) (eqb (at holder k) 0)
    (not (eqb (at outcome k) 0) && (leb (at place k) listed && (eqb (at order (at place k - 1)) k && at_or_above parent k (at holder k))))

-- what is kept of a list's order gives exactly one order: each entry is at its own place; unused entries are zero
abbrev pub order_entry : ℕ → ℕ → List ℕ → List ℕ → ℕ → Bool
order_entry count listed order place i =
    cond (ltb i listed) (ltb 0 (at order i) && (leb (at order i) count && eqb (at place (at order i)) (i + 1)))
    (eqb (at order i) 0)

-- the lists: each entry of the order so, and each row
unfoldable pub lists_fine : ℕ → List ℕ → List ℕ → ℕ → List ℕ → List ℕ → List ℕ → Bool
lists_fine count parent outcome listed order holder place =
    leb listed places_most && (all_below places_most (order_entry count listed order place) && all_below rows_most (list_row parent outcome listed order holder place))
