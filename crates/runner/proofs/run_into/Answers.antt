use Rattle.std.proofs.Common.{sym, ◌∙◌, arith}
use Rattle.written.proofs.Reading.{good_limits}
use Rattle.output.proofs.Lines.{output_bad, output_good}
use Rattle.runner.proofs.run_into.Goals as goal

pub run_good-requires : goal.run_good-requires
run_good-requires c = let l = good_limits _ _ (sym c.check_file.ensures ∙ c.in-Ok.is) in (l.0, l.1, omega arith)

pub returns-in-Err : goal.returns-in-Err
returns-in-Err c = rw (output_bad _ _ (sym c.check_file.ensures ∙ c.in-Err.is)) c.put_answer.ensures

pub returns-in-Ok : goal.returns-in-Ok
returns-in-Ok c = rw (output_good _ _ (sym c.check_file.ensures ∙ c.in-Ok.is)) c.run_good.ensures
