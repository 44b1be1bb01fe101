use Rattle.std.proofs.Common.{arith, ◌+◌, ◌<◌}
use Rattle.below.proofs.Climb.{lower_to}
use Rattle.columns.proofs.Climbing.{turn_less}
use Rattle.columns.proofs.Marks.{marking_start, marking_turn, marking_end}
use Rattle.columns.proofs.tree.Tree.marks_above.Goals as goal

pub loop-y-init : goal.loop-y-init
loop-y-init c = record { lower = omega arith; marking = marking_start _ _ }

pub loop-y-preserved : goal.loop-y-preserved
loop-y-preserved c =
    let less : c.parent_of-y.result < c.loop-y.y = turn_less _ _ _ _ c.requires.1 c.loop-y.invariant.lower c.loop-y-test.true c.parent_of-y.ensures in
    let w = lower_to _ _ (c.loop-y.y + 1) c.requires.1 (omega arith) in
    record { lower = omega arith; marking = marking_turn _ _ _ _ _ c.loop-y.invariant.marking (omega arith) w c.loop-y-test.true c.parent_of-y.ensures }

pub returns : goal.returns
returns c = marking_end _ _ _ _ c.loop-y.invariant.marking c.loop-y-test.false
