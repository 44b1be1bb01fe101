use Rattle.std.proofs.Common.{sym, ◌∙◌}
use Rattle.kinds.proofs.Claims.{no_sum_wraps}
use Rattle.columns.specs.Column.{at, at_z}
use Rattle.replay.proofs.chain.applied.Goals as goal

pub step-requires : goal.step-requires
step-requires c =
    let a = c.args in
    no_sum_wraps a.kind (at a.accesses.now.operation a.x) (at_z a.accesses.now.argument a.x) _ a.s (sym c.asked.ensures ∙ c.in-Some.is) c.requires.1
