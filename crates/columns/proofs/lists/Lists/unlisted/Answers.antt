use Rattle.std.proofs.Common.{refl}
use Rattle.columns.specs.Work.{laid, numbered}
use Rattle.columns.proofs.lists.Lists.unlisted.Goals as goal

pub returns : goal.returns
unfolding laid numbered
returns c = refl
