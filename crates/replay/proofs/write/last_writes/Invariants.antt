use Rattle.kinds.specs.declared.Kind.TheVariants.{Register}
use Rattle.replay.specs.Access.{asked_of}
use Rattle.replay.proofs.Writes.{Noted}
use Rattle.replay.proofs.write.last_writes.Given as goal

abbrev pub invariant-loop-i : goal.invariant-loop-i
invariant-loop-i l = Noted (asked_of Register l.accesses.operation l.accesses.argument) l.lists.order l.lists.holder l.accesses.object l.lists.listed l.o l.i l.last
