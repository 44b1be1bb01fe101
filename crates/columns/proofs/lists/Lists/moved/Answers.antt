use Rattle.std.proofs.Common.{eqb}
use Rattle.columns.proofs.Listing.{room, room_behind, goes}
use Rattle.columns.proofs.lists.Lists.moved.Goals as goal

pub extend-requires : goal.extend-requires
extend-requires c = room _ _ c.requires c.unlisted-after.ensures _

pub extend-requires-2 : goal.extend-requires-2
extend-requires-2 c = room_behind _ _ c.requires c.unlisted-after.ensures c.extend.ensures

pub returns : goal.returns
returns c = goes c.args.self.now _ c.requires c.unlisted-after.ensures c.extend.ensures (λ u. eqb u c.args.t) c.args.h c.sole_mark-own.ensures c.held.ensures c.extend-2.ensures
