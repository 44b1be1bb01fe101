use Rattle.std.proofs.Common.{arith, to_z-of_z}
use Rattle.text.proofs.Printing.{adds_then, answer_room}
use Rattle.text.proofs.print.put_answer.Goals as goal

pub number-requires : goal.number-requires
number-requires c = omega (arith, answer_room c.from.result c.args.a c.args.b (omega arith) (omega arith) c.ranges.b)

pub byte-requires : goal.byte-requires
byte-requires c = omega (arith, answer_room c.from.result c.args.a c.args.b (omega arith) (omega arith) c.ranges.b)

pub number-requires-2 : goal.number-requires-2
number-requires-2 c =
    omega (arith, answer_room c.from.result c.from-2.result c.args.b (omega arith) (omega arith) c.ranges.b)

pub byte-requires-2 : goal.byte-requires-2
byte-requires-2 c =
    omega (arith, answer_room c.from.result c.from-2.result c.args.b (omega arith) (omega arith) c.ranges.b)

pub signed-requires : goal.signed-requires
signed-requires c =
    rw (to_z-of_z c.ranges.b)
    (omega (arith, answer_room c.from.result c.from-2.result c.args.b (omega arith) (omega arith) c.ranges.b))

pub byte-requires-3 : goal.byte-requires-3
byte-requires-3 c =
    omega (arith, answer_room c.from.result c.from-2.result c.args.b (omega arith) (omega arith) c.ranges.b, rw (to_z-of_z c.ranges.b) at c.signed.ensures.puts.next)

pub returns : goal.returns
returns c =
    let all =
    adds_then (adds_then (adds_then (adds_then (adds_then c.number.ensures c.byte.ensures) c.number-2.ensures) c.byte-2.ensures)
    (rw (to_z-of_z c.ranges.b) at c.signed.ensures))
    c.byte-3.ensures in
    rw (← c.from.ensures, ← c.from-2.ensures) (grind arith)
