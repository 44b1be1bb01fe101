-- The calls of the statements are the code's: whatever meets a function's contract is what the definition gives, and the contract asks nothing of the caller.
-- `Learnt` is what its `ensures` says, `Asked` what its `requires` says.
use Rattle.promise.specs.Sole.{Gives, AsksNothing}
use Rattle.store.specs.Open.{open_of}
use Rattle.store.proofs as of
use Rattle.store.specs.Calls.{create, respond, commit, abort, reply_to}

pub opens : Gives 2 of.Store.«open».Kinds.ps of.Store.«open».Kinds.r of.Store.«open».Reads.Learnt (λ κs a. open_of a.0.now a.1.0.now)
opens κs a x e learnt = learnt

pub creates : Gives 0 of.Store.create.Kinds.ps of.Store.create.Kinds.r of.Store.create.Reads.Learnt (λ κs a. reply_to a.0 (create a.1.0 a.1.1.0))
creates κs a x e learnt = learnt

pub responds : Gives 0 of.Store.respond.Kinds.ps of.Store.respond.Kinds.r of.Store.respond.Reads.Learnt (λ κs a. reply_to a.0 (respond a.1.0))
responds κs a x e learnt = learnt

pub commits : Gives 0 of.Store.commit.Kinds.ps of.Store.commit.Kinds.r of.Store.commit.Reads.Learnt (λ κs a. reply_to a.0 (commit a.1.0))
commits κs a x e learnt = learnt

pub aborts : Gives 0 of.Store.abort.Kinds.ps of.Store.abort.Kinds.r of.Store.abort.Reads.Learnt (λ κs a. reply_to a.0 (abort a.1.0))
aborts κs a x e learnt = learnt

pub open_asks_nothing : AsksNothing 2 of.Store.«open».Kinds.ps of.Store.«open».Reads.Asked
open_asks_nothing κs a = tt

pub create_asks_nothing : AsksNothing 0 of.Store.create.Kinds.ps of.Store.create.Reads.Asked
create_asks_nothing κs a = tt

pub respond_asks_nothing : AsksNothing 0 of.Store.respond.Kinds.ps of.Store.respond.Reads.Asked
respond_asks_nothing κs a = tt

pub commit_asks_nothing : AsksNothing 0 of.Store.commit.Kinds.ps of.Store.commit.Reads.Asked
commit_asks_nothing κs a = tt

pub abort_asks_nothing : AsksNothing 0 of.Store.abort.Kinds.ps of.Store.abort.Reads.Asked
abort_asks_nothing κs a = tt
