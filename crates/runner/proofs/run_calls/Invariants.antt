use Rattle.std.proofs.Common.{ℕ, List, ◌+◌, ◌-◌, ◌*◌, ◌≤◌, length}
use Rattle.text.specs.Text.{answer_most}
use Rattle.text.specs.Puts.{Puts}
use Rattle.output.proofs.Lines.{printed_from}
use Rattle.runner.proofs.run_calls.Given as goal

abbrev pub invariant-loop : goal.invariant-loop
invariant-loop l = record {
  room : l.after + answer_most * (l.fn.part.lines - l.counter) ≤ length l.out;
  rest :
      (r : ℕ) (exit : List ℕ) → Puts l.out l.after (printed_from l.reply.store l.file (l.fn.part.lines - l.counter) l.at) r exit
      → Puts l.initial.out l.place (printed_from l.initial.reply.store l.file l.fn.part.lines l.initial.at) r exit;
}
