-- Two results that meet a function's contract are equal, for every public function: `Learnt` is what its `ensures` says.
use Rattle.promise.specs.Sole.{Sole}
use Rattle.promise.proofs.Sole.{sole}
use Rattle.columns.proofs as of

rows : Sole 1 of.tree.Tree.rows.Kinds.ps of.tree.Tree.rows.Kinds.r of.tree.Tree.rows.Reads.Learnt
rows κs a x y s t = sole

parent_of : Sole 1 of.tree.Tree.parent_of.Kinds.ps of.tree.Tree.parent_of.Kinds.r of.tree.Tree.parent_of.Reads.Learnt
parent_of κs a x y s t = sole

has_aborted_above : Sole 1 of.tree.Tree.has_aborted_above.Kinds.ps of.tree.Tree.has_aborted_above.Kinds.r of.tree.Tree.has_aborted_above.Reads.Learnt
has_aborted_above κs a x y s t = sole

marks_above : Sole 1 of.tree.Tree.marks_above.Kinds.ps of.tree.Tree.marks_above.Kinds.r of.tree.Tree.marks_above.Reads.Learnt
marks_above κs a x y s t = sole

first_open_child : Sole 1 of.tree.Tree.first_open_child.Kinds.ps of.tree.Tree.first_open_child.Kinds.r of.tree.Tree.first_open_child.Reads.Learnt
first_open_child κs a x y s t = sole

entry : Sole 1 of.lists.Lists.entry.Kinds.ps of.lists.Lists.entry.Kinds.r of.lists.Lists.entry.Reads.Learnt
entry κs a x y s t = sole

holder_of : Sole 1 of.lists.Lists.holder_of.Kinds.ps of.lists.Lists.holder_of.Kinds.r of.lists.Lists.holder_of.Reads.Learnt
holder_of κs a x y s t = sole

place_of : Sole 1 of.lists.Lists.place_of.Kinds.ps of.lists.Lists.place_of.Kinds.r of.lists.Lists.place_of.Reads.Learnt
place_of κs a x y s t = sole

dropped : Sole 2 of.lists.Lists.dropped.Kinds.ps of.lists.Lists.dropped.Kinds.r of.lists.Lists.dropped.Reads.Learnt
dropped κs a x y s t = sole

moved : Sole 1 of.lists.Lists.moved.Kinds.ps of.lists.Lists.moved.Kinds.r of.lists.Lists.moved.Reads.Learnt
moved κs a x y s t = sole
