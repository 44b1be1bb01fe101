use Rattle.std.proofs.Common.{drop, ◌≡◌, ◌≤◌}
use Rattle.text.specs.Text.{number_most}
use Rattle.text.specs.Number.{number_at, rest_of}
use Rattle.text.proofs.number.number_at.Given as goal

abbrev pub invariant-loop-i : goal.invariant-loop-i
invariant-loop-i l = record {
  within : l.v ≤ number_most;
  same : number_at l.stop l.file l.at ≡ rest_of l.stop (drop l.i l.file) l.v l.i;
}
