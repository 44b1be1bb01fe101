use Rattle.std.proofs.Common.{arith, ◌∙◌, sym}
use Rattle.written.proofs.Items.{ends_done, ends_wrong, ends_more}
use Rattle.runfile.proofs.check.lines_end.Goals as goal

pub returns-in_default-clause-reads : goal.returns-in_default-clause-reads
returns-in_default-clause-reads g c line h = sym (c.loop.invariant.same line h ∙ ends_wrong line _ _ (omega arith) (sym (h _ _ c.in_default.ensures)))

pub loop-preserved : goal.loop-preserved
loop-preserved g c =
    record {
      counted = omega arith;
      same = λ line h. c.loop.invariant.same line h ∙ ends_more line _ _ _ _ _ (omega arith) (sym (h _ _ c.in-Some.ensures));
    }

pub returns-clause-reads : goal.returns-clause-reads
returns-clause-reads g c line h = sym (c.loop.invariant.same line h ∙ ends_done line _ _ (omega arith))
