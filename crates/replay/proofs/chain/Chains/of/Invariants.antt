use Rattle.replay.proofs.Links.{Chained}
use Rattle.replay.proofs.chain.Chains.of.Given as goal

abbrev pub invariant-loop-i : goal.invariant-loop-i
invariant-loop-i l = Chained l.lists.order l.lists.holder l.accesses.object l.lists.listed l.o l.i l.head l.next
