use Rattle.replay.proofs.write.+nearest_or_zero.Given as goal

abbrev pub decreases-nearest_or_zero : goal.decreases-nearest_or_zero
decreases-nearest_or_zero l = l.t
