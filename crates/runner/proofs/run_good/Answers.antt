use Rattle.std.proofs.Common.{rules, ◌≤◌, length, arith}
use mir.Syntax.{w64}
use mir.Val.{SFits}
use mir.ValLaws.{to_z-of_z}
use Rattle.text.specs.Text.{answer_most}
use Rattle.text.proofs.Printing.{put_then, answer_most_lem}
use Rattle.written.specs.File.{objects_in, calls_in}
use Rattle.output.specs.Output.{opened_with, line_of}
use Rattle.output.proofs.Lines.{opened_low, opened_run}
use Rattle.runner.proofs.run_good.Goals as goal

pub put_answer-end-requires : goal.put_answer-end-requires
put_answer-end-requires c = (opened_low (objects_in c.args.file.now c.args.layout) _ c.opened_with-opened.ensures, omega arith)

pub run_calls-requires : goal.run_calls-requires
run_calls-requires c =
    let fits : SFits w64 c.opened_with-opened.result.answer.b = search rules in
    let short : length (line_of c.opened_with-opened.result.answer) ≤ answer_most =
    answer_most_lem _ _ _ (opened_low (objects_in c.args.file.now c.args.layout) _ c.opened_with-opened.ensures) (search rules) fits in
    let put = rw (to_z-of_z w64 c.opened_with-opened.result.answer.b fits) at c.put_answer-end.ensures in
    omega (arith, put.next, c.put_answer-end.auto.out, short, c.requires)

pub returns : goal.returns
returns c =
    let fits : SFits w64 c.opened_with-opened.result.answer.b = search rules in
    let put = rw (to_z-of_z w64 c.opened_with-opened.result.answer.b fits) at c.put_answer-end.ensures in
    rw (opened_run (opened_with (objects_in c.args.file.now c.args.layout)) c.opened_with-opened.result (calls_in c.args.file.now c.args.layout) c.opened_with-opened.ensures c.if-answer-ne0.false)
    (put_then put c.run_calls.ensures)
