-- Which openings are taken. Source: document 01, "Objects and numbers" and "Calls, answers and their order", code 14.
use Rattle.std.specs.Prelude.{ℕ, Bool, ◌&&◌, List, ℤ, length, eqb, leb, ltb}
use Rattle.below.specs.Below.{all_below}
use Rattle.kinds.specs.Kinds.{kind_of, opened_of, opens}
use Rattle.columns.specs.Column.{at, at_z}
use Rattle.form.specs.Form.{objects_most}

-- the kind of object o is known and its opening in range
abbrev pub opens_at : List ℕ → List ℤ → ℕ → Bool
opens_at kinds openings o = opens (opened_of (kind_of (at kinds o)) (at_z openings o))

-- one opening value for each kind, some object, at most 64, each kind known and each opening in its range
abbrev pub openable : List ℕ → List ℤ → Bool
openable kinds openings =
    eqb (length kinds) (length openings) && (ltb 0 (length kinds) && (leb (length kinds) objects_most
    && all_below (length kinds) (opens_at kinds openings)))
