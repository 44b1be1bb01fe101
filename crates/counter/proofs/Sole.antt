-- Two results that meet a function's contract are equal, for every public function: `Learnt` is what its `ensures` says.
use Rattle.promise.specs.Sole.{Sole}
use Rattle.promise.proofs.Sole.{sole}
use Rattle.counter.proofs as of

decode : Sole 0 of.decode.Kinds.ps of.decode.Kinds.r of.decode.Reads.Learnt
decode κs a x y s t = sole

step : Sole 0 of.step.Kinds.ps of.step.Kinds.r of.step.Reads.Learnt
step κs a x y s t = sole

shape_of : Sole 0 of.shape_of.Kinds.ps of.shape_of.Kinds.r of.shape_of.Reads.Learnt
shape_of κs a x y s t = sole

class_of : Sole 0 of.class_of.Kinds.ps of.class_of.Kinds.r of.class_of.Reads.Learnt
class_of κs a x y s t = sole
