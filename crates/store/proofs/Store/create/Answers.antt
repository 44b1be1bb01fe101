use Rattle.std.proofs.Common.{rules, ◌+◌, ap, ◌∙◌, pos, w64}
use mir.Facts.{to_z-of_z}
use Rattle.refusal.specs.Refusal.{answer_of}
use Rattle.store.specs.Refusal.{reply_of}
use Rattle.store.specs.Create.{created}
use Rattle.store.proofs.Creating.{create_asks, create_done}
use Rattle.store.proofs.Store.create.Goals as goal

pub check_create-requires : goal.check_create-requires
check_create-requires c = create_asks c.args.self c.args.parent c.args.child _ c.in_form-fine.ensures

pub returns : goal.returns
returns c =
    let s = c.args.self in
    let p = c.args.parent in
    rw (c.answered-2.ensures, c.done.ensures, to_z-of_z {w = w64} {z = c.request_of-request.result.argument} (search rules), c.rows-t.ensures)
    (ap (λ r. reply_of (created s p r) (answer_of 0 (s.tree.count + 1) (pos 0))) c.request_of-request.ensures
    ∙ create_done s p c.args.child _ c.in_form-fine.ensures c.in_default.ensures)
