use Rattle.std.proofs.Common.{rules, ◌≡◌, true, false, slice_index_or}
use Rattle.std.proofs.lemmas.Iterator.{first_from_Range}
use Rattle.replay.specs.Access.{record_in}
use Rattle.wait.specs.Wait.{blocks_outside}
use Rattle.wait.proofs.Waits.{first_in_way}
use Rattle.wait.proofs.Asking.first_wait.Goals as goal

pub returns : goal.returns
returns c =
    let q = c.args.self.now in
    let w = c.args.lists.now in
    let a = c.args.accesses.now in
    let above = c.marks_above-above in
    let recorded = record_in q.kind a.operation a.argument a.outcome a.value in
    let outside = blocks_outside (λ h. slice_index_or above.result h false) w.holder w.place a.object recorded q.kind q.object q.answered in
    let found = first_from_Range _ _ _ _ (λ k. outside k ≡ true) (λ k. outside k ≡ false) c.find.ensures.ran (λ x p k. search rules) (λ x p k. (search rules, search rules)) in
    first_in_way _ c.requires.0 c.args.tree.now.parent _ _ a.object c.requires.3 recorded q.kind q.object q.transaction q.answered _ above.ensures _ (rw c.rows.ensures at found)
