use Rattle.std.proofs.Common.{rules, arith, ◌+◌}
use Rattle.form.specs.Form.{access_row}
use Rattle.form.proofs.Ranges.{all_in_range}
use Rattle.form.proofs.Split.{accesses_parts}
use Rattle.form.proofs.access.accesses_fine.Goals as goal

pub returns-then-blank_from : goal.returns-then-blank_from
returns-then-blank_from c =
    let a = c.args.accesses.now in
    let row = access_row c.args.objects.now.count c.args.objects.now.kind c.args.tree.now.count a.object a.operation a.argument a.outcome a.value in
    let each = all_in_range row (c.min-rows.result + 1) _ _ c.all.result c.all.ensures.ran (λ x b q k. search rules) in
    grind (arith, accesses_parts)
