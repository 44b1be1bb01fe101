use Rattle.std.proofs.Common.{arith, rules, ap, ◌∙◌, w64, pos}
use mir.Facts.{to_z-of_z}
use Rattle.refusal.specs.Refusal.{answer_of}
use Rattle.store.specs.Refusal.{reply_of}
use Rattle.store.proofs.Facts.{form_facts, listed_sound}
use Rattle.store.proofs.Finishing.{finish_asks}
use Rattle.store.proofs.Responding.{none_of, accepted, something_asked, awaited_small, respond_waits, respond_done}
use Rattle.store.proofs.Store.respond.Goals as goal

pub check_ask-requires : goal.check_ask-requires
check_ask-requires c = finish_asks c.args.self _ c.in_form-fine.ensures

pub returns-in_default-asking : goal.returns-in_default-asking
returns-in_default-asking c = absurd (something_asked c.args.self c.args.t (accepted c.args.self c.args.t _ c.in_form-fine.ensures c.in_default.ensures) c.in_default-asking.ensures)

pub holder_of-holder-requires : goal.holder_of-holder-requires
holder_of-holder-requires c =
    let s = c.args.self in
    let a = accepted c.args.self c.args.t _ c.in_form-fine.ensures c.in_default.ensures in
    omega (arith, awaited_small s c.args.t _ _ c.in-Some-awaited.ensures, (form_facts s a.formed).tree.few)

pub wait_answer-requires : goal.wait_answer-requires
wait_answer-requires c =
    let s = c.args.self in
    let a = accepted c.args.self c.args.t _ c.in_form-fine.ensures c.in_default.ensures in
    let f = form_facts s a.formed in
    let small = awaited_small s c.args.t _ _ c.in-Some-awaited.ensures in
    (omega (arith, c.holder_of-holder.ensures, f.tree.few, (listed_sound s f).holders _ small), omega (arith, small, f.tree.few))

pub returns-in-Some-awaited : goal.returns-in-Some-awaited
returns-in-Some-awaited c =
    let s = c.args.self in
    let access = c.in-Some-awaited.access in
    c.answered-in-Some-awaited.ensures
    ∙ ap (reply_of s) (c.wait_answer.ensures ∙ ap (λ h. answer_of 13 h (pos access)) c.holder_of-holder.ensures)
    ∙ respond_waits s c.args.t (none_of s c.args.t _ c.in_form-fine.ensures c.in_default.ensures) c.in-Some.asking c.in-Some.ensures access
    c.in-Some-awaited.ensures

pub returns : goal.returns
returns c =
    let s = c.args.self in
    let t = c.args.t in
    rw (c.answered-2.ensures, c.done.ensures, to_z-of_z {w = w64} {z = c.from-result.result.b} (search rules), c.from-result.ensures)
    (respond_done s t (none_of s t _ c.in_form-fine.ensures c.in_default.ensures) c.in-Some.asking c.in-Some.ensures c.in_default-awaited.ensures)
