-- A kind's conflict table. Source: document 01, "The conflict table": a row for each class of answer; requests Q-1 to Q-3: an entry may depend on a key of each answer.
use Rattle.std.specs.Prelude.{ℕ, Bool, true, false, not, ◌||◌, List, [], ℤ, get_or, Option, Some, None}
use Rattle.std.specs.Int.Signed.{lt_z, le_z}
use Rattle.kinds.specs.declared.table.Class.{Class}
use Rattle.kinds.specs.declared.table.Rule.{Rule}
use Rattle.kinds.specs.declared.table.Rule.TheVariants.{Pass, Conflict, UnlessEqual, IfEqual, IfAtLeast, IfAtMost}

-- the class with this row and key
abbrev pub in_row : ℕ → ℤ → Option Class
in_row a k = Some (record { row = a; key = k })

-- whether two answers conflict, by the rule at their classes and by their keys, k the asking answer's and l the held one's; keys differ where one is below the other
abbrev pub judge : Rule → ℤ → ℤ → Bool
judge Pass k l = false
judge Conflict k l = true
judge UnlessEqual k l = lt_z k l || lt_z l k
judge IfEqual k l = not (lt_z k l || lt_z l k)
judge IfAtLeast k l = le_z l k
judge IfAtMost k l = le_z k l

-- the entry at a row and a column; outside the table there is only conflict
unfoldable pub entry : List (List Rule) → ℕ → ℕ → Rule
entry rows a b = get_or (get_or rows a []) b Conflict

-- what has no class, an outcome that the operation never has or an operation of another kind, conflicts with everything
abbrev pub verdict : List (List Rule) → Option Class → Option Class → Bool
verdict rows (Some c) (Some d) = judge (entry rows c.row d.row) c.key d.key
verdict rows (Some c) None = true
verdict rows None d = true
