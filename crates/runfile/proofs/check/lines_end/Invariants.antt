use Rattle.std.proofs.Common.{◌≡◌, ℕ, ◌+◌, ◌-◌, Option}
use Rattle.written.specs.Items.{ends_from}
use Rattle.written.specs.Check.{Reads}
use Rattle.runfile.proofs.check.lines_end.Given as goal

abbrev pub invariant-loop : goal.invariant-loop
invariant-loop g l = record {
  counted : l.line ≡ l.fn.place.line + l.counter;
  same :
      (line : ℕ → Option (_ × ℕ)) → Reads (goal.F-post g l.read) line
      → ends_from line l.lines l.fn.place ≡ ends_from line (l.lines - l.counter) (record { at = l.at; line = l.line });
}
