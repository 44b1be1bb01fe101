use Rattle.std.proofs.Common.{◌+◌, ◌<◌, sym, ◌∙◌, arith}
use Rattle.below.proofs.Search.{all_start, all_more, all_broken}
use Rattle.form.proofs.Climbed.{known_start}
use Rattle.form.proofs.lists.rows_fine.Goals as goal

pub loop-k-init : goal.loop-k-init
loop-k-init c = record { passed = all_start _; known = known_start _ c.requires.2 }

pub returns-then-not-row_fine : goal.returns-then-not-row_fine
returns-then-not-row_fine c =
    let within : c.loop-k.k < c.args.tree.now.count + 1 = omega arith in
    sym (all_broken _ _ _ within (sym c.row_fine.ensures.0 ∙ c.if-not-row_fine.true))

pub loop-k-preserved : goal.loop-k-preserved
loop-k-preserved c = record {
  passed = all_more _ _ c.loop-k.invariant.passed (sym c.row_fine.ensures.0 ∙ c.if-not-row_fine.false);
  known = c.row_fine.ensures.1 c.if-not-row_fine.false;
}
