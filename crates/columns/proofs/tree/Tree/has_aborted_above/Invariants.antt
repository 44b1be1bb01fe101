use Rattle.std.proofs.Common.{◌≡◌, ◌≤◌}
use Rattle.columns.specs.Tree.{aborted_up}
use Rattle.columns.proofs.tree.Tree.has_aborted_above.Given as goal

abbrev pub invariant-loop-y : goal.invariant-loop-y
invariant-loop-y l = record { lower : l.y ≤ l.x; same : aborted_up l.self.parent l.self.state l.y ≡ aborted_up l.self.parent l.self.state l.x }

abbrev pub decreases-loop-y : goal.decreases-loop-y
decreases-loop-y l = l.y
