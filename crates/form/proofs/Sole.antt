-- Two results that meet a function's contract are equal, for every public function: `Learnt` is what its `ensures` says.
use Rattle.promise.specs.Sole.{Sole}
use Rattle.promise.proofs.Sole.{sole}
use Rattle.form.proofs as of

opens : Sole 0 of.objects.opens.Kinds.ps of.objects.opens.Kinds.r of.objects.opens.Reads.Learnt
opens κs a x y s t = sole

objects_fine_lem : Sole 1 of.objects.objects_fine.Kinds.ps of.objects.objects_fine.Kinds.r of.objects.objects_fine.Reads.Learnt
objects_fine_lem κs a x y s t = sole

tree_fine_lem : Sole 2 of.tree.tree_fine.Kinds.ps of.tree.tree_fine.Kinds.r of.tree.tree_fine.Reads.Learnt
tree_fine_lem κs a x y s t = sole

accesses_fine_lem : Sole 3 of.access.accesses_fine.Kinds.ps of.access.accesses_fine.Kinds.r of.access.accesses_fine.Reads.Learnt
accesses_fine_lem κs a x y s t = sole

lists_fine_lem : Sole 3 of.lists.lists_fine.Kinds.ps of.lists.lists_fine.Kinds.r of.lists.lists_fine.Reads.Learnt
lists_fine_lem κs a x y s t = sole
