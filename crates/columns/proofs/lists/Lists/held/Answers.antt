use Rattle.std.proofs.Common.{◌∙◌}
use Rattle.below.proofs.Column.{set_start, set_store, set_keep}
use Rattle.columns.proofs.lists.Lists.held.Goals as goal
use Rattle.columns.proofs.lists.Lists.held.Goals.{then-marks-holder_of, else-marks-holder_of}

pub loop-k-init : goal.loop-k-init
loop-k-init c = set_start _ _

pub loop-k-preserved : goal.loop-k-preserved
loop-k-preserved c =
    elim c.if-marks-holder_of.branch [
      | then-marks-holder_of b ↦ b.after-is ∙ set_store _ _ _ _ _ c.loop-k.invariant (rw (rw c.holder_of.ensures at b.if-marks-holder_of.true))
      | else-marks-holder_of b ↦ b.after-is ∙ set_keep _ _ _ _ 0 c.loop-k.invariant (rw (rw c.holder_of.ensures at b.if-marks-holder_of.false))
    ]
