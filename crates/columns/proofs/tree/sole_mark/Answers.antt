use Rattle.std.proofs.Common.{refl}
use Rattle.below.proofs.Column.{set_start, set_store}
use Rattle.columns.proofs.tree.sole_mark.Goals as goal

pub loop-k-init : goal.loop-k-init
loop-k-init c = set_start _ _

pub loop-k-preserved : goal.loop-k-preserved
loop-k-preserved c = set_store _ _ _ _ _ c.loop-k.invariant refl
