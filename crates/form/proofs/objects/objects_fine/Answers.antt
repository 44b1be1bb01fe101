use Rattle.std.proofs.Common.{rules, arith}
use Rattle.form.proofs.Ranges.{all_in_range}
use Rattle.form.proofs.Split.{object_opens, objects_parts}
use Rattle.form.proofs.objects.objects_fine.Goals as goal

pub returns-then-unopened_from : goal.returns-then-unopened_from
returns-then-unopened_from c =
    let o = c.args.objects.now in
    let each = all_in_range (object_opens o.kind o.opening) o.count _ _ c.all.result c.all.ensures.ran (λ x b q k. search rules) in
    grind (arith, objects_parts)
