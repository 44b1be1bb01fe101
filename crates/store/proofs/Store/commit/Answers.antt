use Rattle.std.proofs.Common.{sym, ap, ◌∙◌, pos, cond, None}
use lib.Dec.{eqb}
use Rattle.below.specs.Below.{found_below}
use Rattle.columns.specs.Column.{at}
use Rattle.columns.specs.Tree.{has_committed, open_child}
use Rattle.columns.specs.Work.{moved_of}
use Rattle.refusal.specs.Refusal.{answer_of}
use Rattle.store.specs.Refusal.{reply_of}
use Rattle.store.specs.Finish.{finished_as}
use Rattle.store.proofs.Finishing.{finish_asks, commit_done}
use Rattle.store.proofs.Store.commit.Goals as goal

pub check_finish-requires : goal.check_finish-requires
check_finish-requires c = finish_asks c.args.self _ c.in_form-fine.ensures

pub returns : goal.returns
returns c =
    let s = c.args.self in
    let t = c.args.t in
    let lists = c.moved-lists.ensures
    ∙ ap (λ n. moved_of (λ x. eqb (at s.lists.holder x) t) (at s.tree.parent t) n s.lists.listed s.lists.order s.lists.holder) c.rows-rows.ensures in
    c.finished.ensures ∙ ap (λ w. reply_of (finished_as s t has_committed w) (answer_of 0 t (pos 0))) lists
    ∙ commit_done s t _ c.in_form-fine.ensures c.in_default.ensures (c.in_default-open_child.ensures ∙ ap (λ o. cond (eqb (at s.accesses.operation t) 0) o None) (c.first_open_child-child.ensures ∙ ap (λ n. found_below n (open_child s.tree.parent s.tree.state t)) c.rows-rows.ensures)) (sym c.is_unanswered.ensures ∙ c.if-is_unanswered.false)
