use Rattle.columns.specs.Tree.{at_or_above}
use Rattle.columns.proofs.Listing.{room, stays}
use Rattle.columns.proofs.lists.Lists.dropped.Goals as goal

pub extend-requires : goal.extend-requires
extend-requires c = room _ _ c.requires.0 c.unlisted-after.ensures _

pub returns : goal.returns
returns c =
    stays c.args.self.now _ c.requires.0 c.unlisted-after.ensures c.extend.ensures (λ u. at_or_above c.args.tree.now.parent u c.args.t) 0 c.marks_beneath-lost.ensures (rw c.rows.ensures at c.held.ensures)
