-- Two outcomes that meet a function's contract are equal, and what reads a file asks nothing of the caller: `Learnt` is what its `ensures` says, `Asked` what
-- its `requires` says.
use Rattle.promise.specs.Sole.{Sole, AsksNothing}
use Rattle.promise.proofs.Sole.{sole}
use Rattle.runfile.proofs as of

call_at : Sole 1 of.line.call_at.Kinds.ps of.line.call_at.Kinds.r of.line.call_at.Reads.Learnt
call_at κs a x y s t = sole

object_at_lem : Sole 1 of.line.object_at.Kinds.ps of.line.object_at.Kinds.r of.line.object_at.Reads.Learnt
object_at_lem κs a x y s t = sole

check_file : Sole 1 of.check.check_file.Kinds.ps of.check.check_file.Kinds.r of.check.check_file.Reads.Learnt
check_file κs a x y s t = sole

call_at_asks_nothing : AsksNothing 1 of.line.call_at.Kinds.ps of.line.call_at.Reads.Asked
call_at_asks_nothing κs a = tt

object_at_asks_nothing : AsksNothing 1 of.line.object_at.Kinds.ps of.line.object_at.Reads.Asked
object_at_asks_nothing κs a = tt

check_file_asks_nothing : AsksNothing 1 of.check.check_file.Kinds.ps of.check.check_file.Reads.Asked
check_file_asks_nothing κs a = tt
