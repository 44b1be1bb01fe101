use Rattle.std.proofs.Common.{◌≡◌}
use Rattle.columns.specs.Column.{at}
use Rattle.columns.specs.Work.{work, only}
use Rattle.columns.specs.Listing.{has, extended}
use Rattle.columns.proofs.lists.Lists.extend.Given as goal

abbrev pub invariant-loop-x : goal.invariant-loop-x
invariant-loop-x l = l.self ≡ extended l.initial.self (only (λ x. has l.marks l.mark (at l.from.holder x)) (work l.x-index l.from.order))
