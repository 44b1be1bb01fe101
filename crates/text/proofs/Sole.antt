-- Two outcomes that meet a function's contract are equal, and what reads a file asks nothing of the caller: `Learnt` is what its `ensures` says, `Asked`
-- what its `requires` says.
use Rattle.promise.specs.Sole.{Sole, Whole, AsksNothing}
use Rattle.promise.proofs.Sole.{sole}
use Rattle.text.proofs.Printing.{puts_one}
use Rattle.text.proofs as of

number_at : Sole 1 of.number.number_at.Kinds.ps of.number.number_at.Kinds.r of.number.number_at.Reads.Learnt
number_at κs a x y s t = sole

signed_at_lem : Sole 1 of.signed.signed_at.Kinds.ps of.signed.signed_at.Kinds.r of.signed.signed_at.Reads.Learnt
signed_at_lem κs a x y s t = sole

-- result and buffer
put_answer : Whole 1 of.print.put_answer.Kinds.ps of.print.put_answer.Kinds.r of.print.put_answer.Reads.Learnt (λ κs s. s.0.now)
put_answer κs a x y s t = puts_one

number_at_asks_nothing : AsksNothing 1 of.number.number_at.Kinds.ps of.number.number_at.Reads.Asked
number_at_asks_nothing κs a = tt

signed_at_asks_nothing : AsksNothing 1 of.signed.signed_at.Kinds.ps of.signed.signed_at.Reads.Asked
signed_at_asks_nothing κs a = tt
