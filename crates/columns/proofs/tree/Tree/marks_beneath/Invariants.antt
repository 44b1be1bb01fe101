use Rattle.std.proofs.Common.{◌≡◌}
use Rattle.columns.specs.Tree.{at_or_above, marks_of}
use Rattle.columns.proofs.tree.Tree.marks_beneath.Given as goal

abbrev pub invariant-loop-k : goal.invariant-loop-k
invariant-loop-k l = l.marks ≡ marks_of l.k (λ k. at_or_above l.self.parent k l.t)
