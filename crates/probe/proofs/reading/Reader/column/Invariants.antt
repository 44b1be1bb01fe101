use Rattle.std.proofs.Common.{◌≡◌, ◌+◌, ◌*◌, length}
use Rattle.probe.proofs.reading.Reader.column.Given as goal

abbrev pub invariant-loop-number : goal.invariant-loop-number
invariant-loop-number g l = g.T.Number.BYTES * l.number-index + length l.self.rest.now ≡ length l.initial.self.rest.now
