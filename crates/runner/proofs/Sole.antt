-- Two outcomes that meet an entry point's contract are equal, result and buffer, and the contract asks nothing of the caller: `Learnt` is what its `ensures` says,
-- `Asked` what its `requires` says.
use Prim.Native.Nat.{ℕ}
use mathlib.Core.Path.{◌≡◌}
use mathlib.Core.Logic.{⊎_elim}
use mathlib.Core.List.{List}
use lib.ListN.{length}
use Rattle.promise.specs.Sole.{Whole, AsksNothing}
use Rattle.promise.proofs.Sole.{whole}
use Rattle.below.proofs.Tests.{le_or}
use Rattle.text.proofs.Printing.{puts_one}
use Rattle.output.specs.Output.{output_most}
use Rattle.runner.specs.Export.{Exported}
use Rattle.runner.proofs as of

pub exported_one : {input before exit other : List ℕ} {r q : ℕ} → Exported input before r exit → Exported input before q other → (r ≡ q) × (exit ≡ other)
exported_one {before = before} e f =
    ⊎_elim (λ enough. puts_one (e.runs enough) (f.runs enough)) (λ few. whole (e.refuses few) (f.refuses few)) (le_or output_most (length before))

run_file : Whole 2 of.run_file.Kinds.ps of.run_file.Kinds.r of.run_file.Reads.Learnt (λ κs s. s.1.0.now)
run_file κs a x y s t = puts_one

runner_run : Whole 2 of.runner_run.Kinds.ps of.runner_run.Kinds.r of.runner_run.Reads.Learnt (λ κs s. s.1.0.now)
runner_run κs a x y s t = exported_one

run_file_asks_nothing : AsksNothing 2 of.run_file.Kinds.ps of.run_file.Reads.Asked
run_file_asks_nothing κs a = tt

runner_run_asks_nothing : AsksNothing 2 of.runner_run.Kinds.ps of.runner_run.Reads.Asked
runner_run_asks_nothing κs a = tt
