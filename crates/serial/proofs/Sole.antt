-- Two results that meet a function's contract are equal, for every public function: `Learnt` is what its `ensures` says.
use Rattle.promise.specs.Sole.{Sole}
use Rattle.promise.proofs.Sole.{sole}
use Rattle.serial.proofs as of

kind_of_lem : Sole 0 of.kind_of.Kinds.ps of.kind_of.Kinds.r of.kind_of.Reads.Learnt
kind_of_lem κs a x y s t = sole

opened : Sole 0 of.opened.Kinds.ps of.opened.Kinds.r of.opened.Reads.Learnt
opened κs a x y s t = sole

opened_state : Sole 0 of.opened_state.Kinds.ps of.opened_state.Kinds.r of.opened_state.Reads.Learnt
opened_state κs a x y s t = sole

decode : Sole 0 of.decode.Kinds.ps of.decode.Kinds.r of.decode.Reads.Learnt
decode κs a x y s t = sole

step : Sole 0 of.step.Kinds.ps of.step.Kinds.r of.step.Reads.Learnt
step κs a x y s t = sole

recall : Sole 0 of.recall.Kinds.ps of.recall.Kinds.r of.recall.Reads.Learnt
recall κs a x y s t = sole

conflicts : Sole 0 of.conflicts.Kinds.ps of.conflicts.Kinds.r of.conflicts.Reads.Learnt
conflicts κs a x y s t = sole
