use Rattle.std.proofs.Common.{sym, ◌∙◌}
use mathlib.Core.Path.{ap₂}
use Rattle.store.specs.Refusal.{reply_of}
use Rattle.store.proofs.Opens.{open_refused, open_done}
use Rattle.store.proofs.Store.open.Goals as goal

pub returns-then-not-openable : goal.returns-then-not-openable
returns-then-not-openable c =
    c.answered.ensures ∙ ap₂ reply_of c.with_objects.ensures c.into.ensures
    ∙ open_refused c.args.kinds.now c.args.openings.now (sym c.openable.ensures ∙ c.if-not-openable.true)

pub returns : goal.returns
returns c =
    rw (c.answered-2.ensures, c.done.ensures, c.with_objects-2.ensures, c.objects_of-objects.ensures)
    (open_done c.args.kinds.now c.args.openings.now (sym c.openable.ensures ∙ c.if-not-openable.false))
