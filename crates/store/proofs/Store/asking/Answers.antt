use Rattle.std.proofs.Common.{arith, rules, ◌^◌, ◌<◌, sym}
use lib.Signed.{mag}
use Rattle.columns.specs.Column.{at_z}
use Rattle.store.proofs.Facts.{listed_sound, lower_rows}
use Rattle.store.proofs.Asking.{ready, listed_once, asked_is, opens_is, state_is, step_fits}
use Rattle.store.proofs.Store.asking.Goals as goal

pub bounds-self-object : goal.bounds-self-object
bounds-self-object c = omega (arith, c.from-object.ensures, (ready c.args.self.now c.args.t c.requires.0 c.requires.1 c.requires.2).small)

pub bounds-self-object-2 : goal.bounds-self-object-2
bounds-self-object-2 c = omega (arith, c.from-object.ensures, (ready c.args.self.now c.args.t c.requires.0 c.requires.1 c.requires.2).small)

pub replayed-state-requires : goal.replayed-state-requires
replayed-state-requires c =
    let s = c.args.self.now in
    let t = c.args.t in
    let a = ready c.args.self.now c.args.t c.requires.0 c.requires.1 c.requires.2 in
    let m : mag (at_z s.objects.opening c.from-object.result) < 2 ^ 63 = search rules in (
      listed_sound s a.form,
      listed_once s t a.form,
      omega (arith, a.known),
      lower_rows s a.form,
      opens_is s t _ c.from-object.ensures _ c.kind_of-kind.ensures m a,
    )

pub step-outcome-requires : goal.step-outcome-requires
step-outcome-requires c =
    let s = c.args.self.now in
    let t = c.args.t in
    let a = ready c.args.self.now c.args.t c.requires.0 c.requires.1 c.requires.2 in
    let m : mag (at_z s.objects.opening c.from-object.result) < 2 ^ 63 = search rules in
    step_fits s t _ (sym (asked_is s t _ c.from-object.ensures _ c.kind_of-kind.ensures _ c.in_ok-operation.ensures))
    _ (state_is s t _ c.from-object.ensures _ c.kind_of-kind.ensures m _ c.replayed-state.ensures) c.requires.0 a
