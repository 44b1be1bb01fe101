-- Views, and what the serial object comes to after the operations of one. Source: document 01, "Lists of work" and the form rules.
use Rattle.std.specs.Prelude.{ℕ, ◌<◌, ◌≡◌, List, [], ◌∷◌, ◌++◌, Option, Some, None}
use Rattle.below.specs.Climb.{climb}
use Rattle.kinds.specs.declared.State.{State}
use Rattle.kinds.specs.Kinds.{step_of}
use Rattle.columns.specs.Column.{at}
use Rattle.kinds.specs.declared.Operation.{Operation}

-- the view of a transaction is its parent's view followed by its own list; the root's view is its list
abbrev pub view_in : List ℕ → (ℕ → List ℕ) → ℕ → List ℕ
view_in parent own t = climb (at parent) (own 0) (λ u above. above ++ own u) t

-- the state after an operation, its recorded result ignored; what does not fit changes nothing
abbrev pub after_one : Option Operation → State → State
after_one (Some o) s = (step_of s o).state
after_one None s = s

-- the state after the operations of a list of accesses are applied in order
unfoldable pub after_all : (ℕ → Option Operation) → List ℕ → State → State
after_all asked [] s = s
after_all asked (x ∷ l) s = after_all asked l (after_one (asked x) s)

-- what is kept of a list's order gives exactly one order: nothing stands twice among the first places, and no root
pub record Distinct (listed : ℕ) (order : List ℕ) : Type 0 where
  pub once : (i j : ℕ) → i < listed → j < listed → at order i ≡ at order j → i ≡ j
  pub some : (k : ℕ) → k < listed → 0 < at order k
