use Rattle.form.proofs.Climbed.{Climbing}
use Rattle.form.proofs.climb.climbs_to.Given as goal

abbrev pub invariant-loop-above : goal.invariant-loop-above
invariant-loop-above l = Climbing l.tree.parent l.initial.above l.above l.x l.h l.y

abbrev pub decreases-loop-above : goal.decreases-loop-above
decreases-loop-above l = l.y
