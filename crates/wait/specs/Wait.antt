-- Which access a response waits for. Source: document 01, "Lists of work", its last paragraph.
use Rattle.std.specs.Prelude.{ℕ, Bool, true, ◌&&◌, not, List, eqb, Option, Some, None}
use Rattle.kinds.specs.declared.Kind.{Kind}
use Rattle.kinds.specs.declared.Answered.{Answered}
use Rattle.kinds.specs.Kinds.{conflict_of}
use Rattle.columns.specs.Column.{at}
use Rattle.columns.specs.Tree.{at_or_above}

-- what is held conflicts with the asking operation and its result; what is no answer conflicts with everything
abbrev pub clashes : Kind → Answered → Option Answered → Bool
clashes kind asking (Some held) = conflict_of kind asking held
clashes kind asking None = true

-- access x on the same object o, on the list of a holder that is not among those above, conflicts with the asking operation and its result
abbrev pub blocks_outside : (ℕ → Bool) → List ℕ → List ℕ → List ℕ → (ℕ → Option Answered) → Kind → ℕ → Answered → ℕ → Bool
blocks_outside above holder place object recorded kind o asking x =
    not (eqb (at place x) 0) && (eqb (at object x) o && (not (above (at holder x)) && clashes kind asking (recorded x)))

-- the same for a holder not at or above the asking one, t
abbrev pub blocks : List ℕ → List ℕ → List ℕ → List ℕ → (ℕ → Option Answered) → Kind → ℕ → ℕ → Answered → ℕ → Bool
blocks parent holder place object recorded kind o t asking x = blocks_outside (at_or_above parent t) holder place object recorded kind o asking x
