use Rattle.std.proofs.Common.{rules, arith, ◌≡◌, eqb}
use Rattle.below.specs.Below.{all_from}
use Rattle.columns.specs.Column.{at, places_most}
use Rattle.form.specs.Form.{order_entry}
use Rattle.form.proofs.Ranges.{all_in_range}
use Rattle.form.proofs.Split.{entries_split}
use Rattle.form.proofs.lists.entries_fine.Goals as goal

pub returns-then-zero_from : goal.returns-then-zero_from
returns-then-zero_from c =
    let a = c.args in
    let entry = order_entry a.tree.now.count a.lists.now.listed a.lists.now.order a.lists.now.place in
    let each = all_in_range entry a.lists.now.listed _ _ c.all.result c.all.ensures.ran (λ x b q k. search rules) in
    let rest : c.zero_from.result ≡ all_from a.lists.now.listed places_most (λ i. eqb (at a.lists.now.order i) 0) = search rules in
    grind (arith, entries_split)
