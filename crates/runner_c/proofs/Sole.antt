-- Two outcomes that meet the contract of the function for C are equal, result and buffer, and it asks nothing of the caller.
use Rattle.promise.specs.Sole.{Whole, AsksNothing}
use Rattle.runner.proofs.Sole.{exported_one}
use Rattle.runner_c.proofs as of

runner_run : Whole 2 of.runner_run.Kinds.ps of.runner_run.Kinds.r of.runner_run.Reads.Learnt (λ κs s. s.1.0.now)
runner_run κs a x y s t = exported_one

runner_run_asks_nothing : AsksNothing 2 of.runner_run.Kinds.ps of.runner_run.Reads.Asked
runner_run_asks_nothing κs a = tt
