use Rattle.std.proofs.Common.{rules, refl}
use lib.ListN.{get_or-replicate}
use Rattle.replay.proofs.Links.{chained_start, chained_skip, chained_put}
use Rattle.replay.proofs.chain.Chains.of.Goals as goal

pub loop-i-init : goal.loop-i-init
loop-i-init c = chained_start _ _ _ _ _ _ _ refl refl (λ u h. get_or-replicate 1025 u 0 0 h)

pub loop-i-preserved-then-accesses-x : goal.loop-i-preserved-then-accesses-x
loop-i-preserved-then-accesses-x c = search (rules, chained_put)

pub loop-i-preserved : goal.loop-i-preserved
loop-i-preserved c = search (rules, chained_skip)
