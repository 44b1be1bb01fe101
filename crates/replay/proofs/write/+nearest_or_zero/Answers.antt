use Rattle.std.proofs.Common.{rules}
use Rattle.replay.proofs.Writes.{nearest_own, nearest_none, nearest_above}
use Rattle.replay.proofs.write.+nearest_or_zero.Goals as goal

pub returns-then-own-ne0 : goal.returns-then-own-ne0
returns-then-own-ne0 t c = search (rules, nearest_own)

pub returns-then-t-eq0 : goal.returns-then-t-eq0
returns-then-t-eq0 t c = search (rules, nearest_none)

pub returns-else-t-eq0 : goal.returns-else-t-eq0
returns-else-t-eq0 t c = search (rules, nearest_above)
