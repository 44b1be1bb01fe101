-- The form of a store, rule by rule as in Rattle.form.specs.Form. Source: document 01, "Form rules of a store".
use Rattle.std.specs.Prelude.{Bool, ◌&&◌}
use Rattle.form.specs.Form.{objects_fine, tree_fine, accesses_fine, lists_fine}
use Rattle.store.specs.declared.Store.{Store}

unfoldable pub in_form : Store → Bool
in_form s =
    objects_fine s.objects.count s.objects.kind s.objects.opening
    && (tree_fine s.tree.count s.tree.parent s.tree.state s.accesses.operation
    && (accesses_fine s.objects.count s.objects.kind s.tree.count s.accesses.object s.accesses.operation s.accesses.argument s.accesses.outcome s.accesses.value
    && lists_fine s.tree.count s.tree.parent s.accesses.outcome s.lists.listed s.lists.order s.lists.holder s.lists.place))
