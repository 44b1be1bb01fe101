use Rattle.std.proofs.Common.{◌≡◌, true}
use Rattle.columns.specs.Column.{at}
use Rattle.columns.specs.Work.{held_by}
use Rattle.columns.specs.Listing.{has}
use Rattle.columns.proofs.lists.Lists.held.Given as goal

abbrev pub invariant-loop-k : goal.invariant-loop-k
invariant-loop-k l = l.after ≡ held_by l.k (λ x. has l.marks true (at l.self.holder x)) l.h l.self.holder
