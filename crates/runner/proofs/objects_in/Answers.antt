use Rattle.std.proofs.Common.{rules, sym, ◌+◌, ◌-◌, ◌∙◌, arith, to_z-of_z, w64, SFits}
use Rattle.runner.proofs.Columns.{columns_start, columns_done, columns_wrong, columns_more}
use Rattle.runner.proofs.objects_in.Goals as goal

pub returns-in_default-clause-objects : goal.returns-in_default-clause-objects
returns-in_default-clause-objects c = sym (c.loop.invariant.same ∙ columns_wrong _ _ _ _ _ _ (sym c.object_at.ensures ∙ c.in_default.is)) ∙ columns_start _

pub loop-preserved : goal.loop-preserved
loop-preserved c =
    let fits : SFits w64 c.in-Some.object.opening = search rules in
    record {
      counted = omega arith;
      same =
          rw (to_z-of_z fits)
          (c.loop.invariant.same
          ∙ columns_more _ _ _ _ (c.args.part.lines - c.loop.counter) _ (c.args.part.lines - (c.loop.counter + 1)) _ _ (omega arith) (sym c.object_at.ensures ∙ c.in-Some.is));
    }

pub returns-after-loop-clause-objects : goal.returns-after-loop-clause-objects
returns-after-loop-clause-objects c = sym (c.loop.invariant.same ∙ columns_done _ _ _ _ _ _ (omega arith)) ∙ columns_start _
