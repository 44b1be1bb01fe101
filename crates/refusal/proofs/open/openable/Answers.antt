use Rattle.std.proofs.Common.{rules, arith, length}
use Rattle.form.proofs.Ranges.{all_in_range}
use Rattle.refusal.specs.Open.{opens_at}
use Rattle.refusal.proofs.open.openable.Goals as goal

pub returns-then-objects-openings : goal.returns-then-objects-openings
returns-then-objects-openings c =
    let kinds = c.args.kinds.now in
    let each = all_in_range (opens_at kinds c.args.openings.now) (length kinds) _ _ c.all.result c.all.ensures.ran (λ x b q k. search rules) in
    grind arith
