use Rattle.std.proofs.Common.{rules}
use Rattle.form.proofs.Zeros.{zeros_and}
use Rattle.form.proofs.tree.unused_from.Goals as goal

pub returns : goal.returns
returns c = zeros_and _ _ _ _ _ _ _ c.zero_from.ensures (search rules) (search rules)
