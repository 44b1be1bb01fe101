use Rattle.replay.proofs.chain.Chains.+climbed.Given as goal

abbrev pub decreases-climbed : goal.decreases-climbed
decreases-climbed l = l.t
