use Rattle.std.proofs.Common.{rules, arith, sym, ◌∙◌}
use Rattle.replay.proofs.Writes.{written_row, unwritten, written}
use Rattle.replay.proofs.write.last_written.Goals as goal

pub offset_bounds-accesses-x : goal.offset_bounds-accesses-x
offset_bounds-accesses-x c =
    let a = c.args.accesses.now in
    let row = written_row _ _ _ a.object _ c.args.o _ c.requires.0 c.requires.1 c.requires.2 a.operation a.argument _ c.last_writes-last.ensures _ (sym c.in-Some.is ∙ c.nearest.ensures) in
    omega (arith, row)

pub bounds-accesses-x : goal.bounds-accesses-x
bounds-accesses-x c =
    let a = c.args.accesses.now in
    written_row _ _ _ a.object _ c.args.o _ c.requires.0 c.requires.1 c.requires.2 a.operation a.argument _ c.last_writes-last.ensures _ (sym c.in-Some.is ∙ c.nearest.ensures)

pub returns-in-Some : goal.returns-in-Some
returns-in-Some c = search (rules, written, c.last_writes-last.ensures)

pub returns-in-None : goal.returns-in-None
returns-in-None c = search (rules, unwritten, c.last_writes-last.ensures)
