use Rattle.std.proofs.Common.{◌≡◌, ◌-◌}
use Rattle.written.specs.Items.{items_from}
use Rattle.written.specs.Line.{object_at}
use Rattle.runner.proofs.Columns.{columns_from}
use Rattle.runner.proofs.objects_in.Given as goal

abbrev pub invariant-loop : goal.invariant-loop
invariant-loop l = record {
  counted : l.count ≡ l.counter;
  same :
      columns_from l.initial.kinds l.initial.openings l.initial.count (items_from (object_at l.file) l.fn.part.lines l.initial.at)
      ≡ columns_from l.kinds l.openings l.count (items_from (object_at l.file) (l.fn.part.lines - l.counter) l.at);
}
