-- Two results that meet a function's contract are equal, for every public function: `Learnt` is what its `ensures` says.
use Rattle.promise.specs.Sole.{Sole}
use Rattle.promise.proofs.Sole.{sole}
use Rattle.replay.proofs as of

asked : Sole 1 of.access.asked.Kinds.ps of.access.asked.Kinds.r of.access.asked.Reads.Learnt
asked κs a x y s t = sole

record_of : Sole 0 of.access.record_of.Kinds.ps of.access.record_of.Kinds.r of.access.record_of.Reads.Learnt
record_of κs a x y s t = sole

record_at_lem : Sole 1 of.access.record_at.Kinds.ps of.access.record_at.Kinds.r of.access.record_at.Reads.Learnt
record_at_lem κs a x y s t = sole

replayed : Sole 3 of.view.replayed.Kinds.ps of.view.replayed.Kinds.r of.view.replayed.Reads.Learnt
replayed κs a x y s t = sole
