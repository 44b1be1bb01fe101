use Rattle.std.proofs.Common.{rules, ◌+◌, ◌-◌, ◌≤◌, length, sym, ◌∙◌, arith, to_z-of_z, w64, SFits}
use Rattle.text.specs.Text.{answer_most}
use Rattle.text.proofs.Printing.{put_then, put_none, answer_most_lem}
use Rattle.output.specs.Output.{line_of}
use Rattle.output.proofs.Lines.{code_low, printed_done, printed_wrong, printed_more}
use Rattle.runner.proofs.run_calls.Goals as goal

pub returns-in_default : goal.returns-in_default
returns-in_default c =
    c.loop.invariant.rest _ _
    (rw (printed_wrong _ _ _ _ (sym c.call_at.ensures ∙ c.in_default.is)) (put_none c.loop.out c.loop.after (omega arith)))

pub put_answer-after-requires : goal.put_answer-after-requires
put_answer-after-requires c = (code_low _ _ _ c.reply_to-reply.ensures, omega arith)

pub loop-preserved : goal.loop-preserved
loop-preserved c =
    let fits : SFits w64 c.reply_to-reply.result.answer.b = search rules in
    let short : length (line_of c.reply_to-reply.result.answer) ≤ answer_most =
    answer_most_lem _ _ _ (code_low _ _ _ c.reply_to-reply.ensures) (search rules) fits in
    let put = rw (to_z-of_z fits) at c.put_answer-after.ensures in
    record {
      room = omega (arith, put.next, c.put_answer-after.auto.out, c.loop.invariant.room, c.loop-test.true, short);
      rest = λ r exit puts. c.loop.invariant.rest r exit
          (rw (printed_more _ _ (c.args.part.lines - c.loop.counter) _ (c.args.part.lines - (c.loop.counter + 1)) _ _ _ (omega arith) (sym c.call_at.ensures ∙ c.in-Some.is) c.reply_to-reply.ensures) (put_then put puts));
    }

pub returns-after-loop : goal.returns-after-loop
returns-after-loop c = c.loop.invariant.rest _ _ (rw (printed_done _ _ (c.args.part.lines - c.loop.counter) _ (omega arith)) (put_none c.loop.out c.loop.after (omega arith)))
