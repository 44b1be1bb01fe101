use Rattle.std.proofs.Common.{arith, false, ◌+◌, ◌<◌, ◌∙◌, eq-eqb}
use Rattle.below.proofs.Climb.{lower_to}
use Rattle.below.proofs.Column.{set_start, set_store, set_keep, set_done}
use Rattle.columns.proofs.Marks.{mark_root, mark_here, mark_next}
use Rattle.columns.proofs.tree.Tree.marks_beneath.Goals as goal
use Rattle.columns.proofs.tree.Tree.marks_beneath.Goals.{then-k-t, else-k-t}

pub loop-k-init : goal.loop-k-init
loop-k-init c = set_keep _ 0 _ _ false (set_start _ _) (mark_root c.args.self.now.parent _ c.requires.1)

pub loop-k-preserved : goal.loop-k-preserved
loop-k-preserved c =
    let w = lower_to _ _ (c.loop-k.k + 1) c.requires.2 (omega arith) in
    let down : c.parent_of-above.result < c.loop-k.k = omega (arith, w.lower c.loop-k.k) in
    set_store _ _ _ _ _ c.loop-k.invariant (elim c.if-k-t.branch [
      | then-k-t b ↦ b.marks-is ∙ eq-eqb _ _ b.if-k-t.true ∙ mark_here c.args.self.now.parent _ _ b.if-k-t.true
      | else-k-t b ↦
          b.marks-is ∙ set_done _ _ _ _ _ _ c.loop-k.invariant down (omega arith)
          ∙ rw c.parent_of-above.ensures (mark_next c.args.self.now.parent _ _ w (omega arith) b.if-k-t.false)
    ])
