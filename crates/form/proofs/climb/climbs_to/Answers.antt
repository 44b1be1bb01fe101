use Rattle.std.proofs.Common.{◌≤◌, sym, ◌∙◌, arith}
use Rattle.form.proofs.Climbed.{climbing_turn, climbing_end}
use Rattle.form.proofs.climb.climbs_to.Goals as goal

pub returns-then-y-top : goal.returns-then-y-top
returns-then-y-top c =
    let low : c.loop-above.y ≤ c.args.h = omega arith in
    let stands = climbing_end _ c.requires.1 _ _ _ _ _ c.requires.2 c.requires.0 c.loop-above.invariant low in
    rw c.from-top.ensures (sym stands ∙ c.loop-above.invariant.same, λ t. c.loop-above.invariant.marked (stands ∙ t))

pub loop-above-preserved : goal.loop-above-preserved
loop-above-preserved c =
    climbing_turn _ c.requires.1 _ _ _ _ _ c.requires.2 c.requires.0 c.loop-above.invariant _ (omega arith) c.parent_of-y.ensures
