use Rattle.std.proofs.Common.{◌≡◌, ◌+◌, ◌*◌}
use Rattle.probe.proofs.writing.Writer.column.Given as goal

abbrev pub invariant-loop-number : goal.invariant-loop-number
invariant-loop-number g l = l.self.put ≡ l.initial.self.put + g.T.Number.BYTES * l.number-index
