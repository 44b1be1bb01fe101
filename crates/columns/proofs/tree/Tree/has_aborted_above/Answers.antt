use Rattle.std.proofs.Common.{sym, ◌∙◌, arith, ◌<◌, eq-eqb}
use borrow.Author.Tests.{ne_eqb}
use Rattle.below.proofs.Climb.{up_here, up_stop}
use Rattle.columns.proofs.Climbing.{turn_less, turn_same}
use Rattle.columns.proofs.tree.Tree.has_aborted_above.Goals as goal

pub returns-then-y-eq0 : goal.returns-then-y-eq0
returns-then-y-eq0 c = sym (up_stop _ _ _ c.if-y-eq0.true (ne_eqb _ _ c.loop-y-test.true)) ∙ c.loop-y.invariant.same

pub loop-y-preserved : goal.loop-y-preserved
loop-y-preserved c =
    let less : c.parent_of-y.result < c.loop-y.y = turn_less _ _ _ _ c.requires.1 c.loop-y.invariant.lower c.if-y-eq0.false c.parent_of-y.ensures in
    record {
      lower = omega arith;
      same = turn_same _ _ _ _ c.requires.1 c.loop-y.invariant.lower c.if-y-eq0.false c.parent_of-y.ensures _ (ne_eqb _ _ c.loop-y-test.true) c.loop-y.invariant.same;
    }

pub returns : goal.returns
returns c = sym (up_here _ _ _ (eq-eqb _ _ c.loop-y-test.false)) ∙ c.loop-y.invariant.same
