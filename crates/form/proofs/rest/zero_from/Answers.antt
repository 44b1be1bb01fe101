use Rattle.form.proofs.Zeros.{zero_start, zero_turn}
use Rattle.form.proofs.rest.zero_from.Goals as goal

pub loop-x-init : goal.loop-x-init
loop-x-init g c = let t = g.T.Bits in zero_start t.no_bit t.zero _ _ _ c.none-any.ensures

pub loop-x-preserved : goal.loop-x-preserved
loop-x-preserved g c =
    let t = g.T.Bits in
    zero_turn t.no_bit t.zero _ _ _ _ _ _ c.loop-x.invariant c.loop-x-test.true c.x-item.is c.or-any.ensures
