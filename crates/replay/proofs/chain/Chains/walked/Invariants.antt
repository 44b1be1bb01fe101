use Rattle.std.proofs.Common.{length}
use Rattle.replay.specs.Access.{asked_of}
use Rattle.replay.specs.View.{after_all}
use Rattle.replay.specs.Chain.{chain_of, chain_at}
use Rattle.replay.proofs.Walks.{Walk}
use Rattle.replay.proofs.chain.Chains.walked.Given as goal

abbrev pub invariant-loop-x : goal.invariant-loop-x
invariant-loop-x l =
    let a = l.accesses in
    Walk l.kind a.operation a.argument l.self.next (after_all (asked_of l.kind a.operation a.argument) (chain_at l.self.head l.self.next l.u) l.initial.s) l.x l.s

abbrev pub decreases-loop-x : goal.decreases-loop-x
decreases-loop-x l = length (chain_of l.self.next l.x)
