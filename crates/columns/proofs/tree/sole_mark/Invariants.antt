use Rattle.std.proofs.Common.{◌≡◌, eqb}
use Rattle.columns.specs.Tree.{marks_of}
use Rattle.columns.proofs.tree.sole_mark.Given as goal

abbrev pub invariant-loop-k : goal.invariant-loop-k
invariant-loop-k l = l.marks ≡ marks_of l.k (λ k. eqb k l.t)
