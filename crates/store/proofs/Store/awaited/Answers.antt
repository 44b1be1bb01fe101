use Rattle.std.proofs.Common.{arith}
use Rattle.store.proofs.Facts.{lower_rows, listed_sound}
use Rattle.store.proofs.Asking.{ready}
use Rattle.store.proofs.Store.awaited.Goals as goal

pub bounds-self-from : goal.bounds-self-from
bounds-self-from c = omega (arith, c.from.ensures, (ready c.args.self.now c.args.t c.requires.0 c.requires.1 c.requires.2).small)

pub first_wait-requires : goal.first_wait-requires
first_wait-requires c =
    let s = c.args.self.now in
    let a = ready c.args.self.now c.args.t c.requires.0 c.requires.1 c.requires.2 in
    (omega (arith, a.form.tree.few), omega (arith, a.known), lower_rows s a.form, (listed_sound s a.form).holders)
