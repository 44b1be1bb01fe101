-- Two replies that meet a call's contract are equal, store and answer: `Learnt` is what its `ensures` says.
use Rattle.promise.specs.Sole.{Sole}
use Rattle.promise.proofs.Sole.{sole}
use Rattle.store.proofs as of

«open» : Sole 2 of.Store.«open».Kinds.ps of.Store.«open».Kinds.r of.Store.«open».Reads.Learnt
«open» κs a x y s t = sole

create : Sole 0 of.Store.create.Kinds.ps of.Store.create.Kinds.r of.Store.create.Reads.Learnt
create κs a x y s t = sole

respond : Sole 0 of.Store.respond.Kinds.ps of.Store.respond.Kinds.r of.Store.respond.Reads.Learnt
respond κs a x y s t = sole

commit : Sole 0 of.Store.commit.Kinds.ps of.Store.commit.Kinds.r of.Store.commit.Reads.Learnt
commit κs a x y s t = sole

abort : Sole 0 of.Store.abort.Kinds.ps of.Store.abort.Kinds.r of.Store.abort.Reads.Learnt
abort κs a x y s t = sole
