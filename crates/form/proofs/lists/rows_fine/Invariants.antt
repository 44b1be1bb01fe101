use Rattle.std.proofs.Common.{◌≡◌, true}
use Rattle.below.specs.Below.{all_below}
use Rattle.form.specs.Form.{list_row}
use Rattle.form.specs.Known.{Known}
use Rattle.form.proofs.lists.rows_fine.Given as goal

abbrev pub invariant-loop-k : goal.invariant-loop-k
invariant-loop-k l = record {
  passed : all_below l.k (list_row l.tree.parent l.accesses.outcome l.lists.listed l.lists.order l.lists.holder l.lists.place) ≡ true;
  known : Known l.tree.parent l.above;
}
