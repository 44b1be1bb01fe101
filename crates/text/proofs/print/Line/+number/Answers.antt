use Rattle.std.proofs.Common.{length, length-append, ap, arith}
use Rattle.text.proofs.Printing.{adds_then, decimal_small, decimal_more}
use Rattle.text.proofs.print.Line.+number.Goals as goal

pub byte-requires : goal.byte-requires
byte-requires t c = omega (arith, ap length (decimal_small c.args.n c.if-n-lt10.true))

pub returns-then-n-lt10 : goal.returns-then-n-lt10
returns-then-n-lt10 t c = rw (decimal_small _ c.if-n-lt10.true) c.byte.ensures

pub number-requires : goal.number-requires
number-requires t c = (omega arith, omega (arith, simp length-append at (ap length (decimal_more c.args.n c.if-n-lt10.false))))

pub byte-requires-2 : goal.byte-requires-2
byte-requires-2 t c = omega (arith, simp length-append at (ap length (decimal_more c.args.n c.if-n-lt10.false)))

pub returns : goal.returns
returns t c = rw (decimal_more _ c.if-n-lt10.false) (adds_then c.number.ensures c.byte-2.ensures)
