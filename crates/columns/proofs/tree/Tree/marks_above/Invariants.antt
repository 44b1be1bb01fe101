use Rattle.std.proofs.Common.{◌≤◌}
use Rattle.columns.proofs.Marks.{Marking}
use Rattle.columns.proofs.tree.Tree.marks_above.Given as goal

abbrev pub invariant-loop-y : goal.invariant-loop-y
invariant-loop-y l = record { lower : l.y ≤ l.t; marking : Marking l.self.parent l.t l.y l.marks }

abbrev pub decreases-loop-y : goal.decreases-loop-y
decreases-loop-y l = l.y
