-- The tree of transactions in its columns, indexed by the transaction's own number; 0 is the root.
-- Source: document 01, "Calls, answers and their order" and "Lists of work".
use Rattle.std.specs.Prelude.{ℕ, Bool, false, ◌&&◌, List, replicate, eqb}
use Rattle.below.specs.Below.{set_below}
use Rattle.below.specs.Climb.{up_any}
use Rattle.columns.specs.Column.{at, rows_most}

-- a transaction is open, has committed, or has aborted
abbrev pub is_open : ℕ
is_open = 0

abbrev pub has_committed : ℕ
has_committed = 1

abbrev pub has_aborted : ℕ
has_aborted = 2

-- h is x or above it
abbrev pub at_or_above : List ℕ → ℕ → ℕ → Bool
at_or_above parent x h = up_any (at parent) (λ y. eqb y h) x

-- some transaction at or above x has aborted
abbrev pub aborted_up : List ℕ → List ℕ → ℕ → Bool
aborted_up parent state x = up_any (at parent) (λ y. eqb (at state y) has_aborted) x

-- k is a child of t, neither committed nor aborted
abbrev pub open_child : List ℕ → List ℕ → ℕ → ℕ → Bool
open_child parent state t k = eqb (at parent k) t && eqb (at state k) is_open

-- a mark for each row that passes
abbrev pub marks_of : ℕ → (ℕ → Bool) → List Bool
marks_of rows p = set_below rows p (replicate rows_most false)
