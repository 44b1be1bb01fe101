use Rattle.std.proofs.Common.{rules, arith}
use Rattle.form.specs.Form.{tree_row}
use Rattle.form.proofs.Ranges.{all_in_range}
use Rattle.form.proofs.Split.{tree_parts}
use Rattle.form.proofs.tree.tree_fine.Goals as goal

pub returns-then-unused_from : goal.returns-then-unused_from
returns-then-unused_from c =
    let t = c.args.tree.now in
    let row = tree_row t.count t.parent t.state c.args.accesses.now.operation in
    let each = all_in_range row c.rows-then-unused_from.result _ _ c.all.result c.all.ensures.ran (λ x b q k. search rules) in
    grind (arith, tree_parts)
