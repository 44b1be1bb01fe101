-- Two results that meet a function's contract are equal, for every public function: `Learnt` is what its `ensures` says.
use Rattle.promise.specs.Sole.{Sole}
use Rattle.promise.proofs.Sole.{sole}
use Rattle.wait.proofs as of

first_wait : Sole 4 of.Asking.first_wait.Kinds.ps of.Asking.first_wait.Kinds.r of.Asking.first_wait.Reads.Learnt
first_wait κs a x y s t = sole
