-- Two results that meet a function's contract are equal: `Learnt` is what its `ensures` says.
use Rattle.promise.specs.Sole.{Sole}
use Rattle.promise.proofs.Sole.{sole}
use Rattle.refusal.proofs.Codes.{same_code}
use Rattle.refusal.proofs as of

code : Sole 0 of.reason.Reason.code.Kinds.ps of.reason.Reason.code.Kinds.r of.reason.Reason.code.Reads.Learnt
code κs a x y s t = sole

refused : Sole 0 of.refused.Kinds.ps of.refused.Kinds.r of.refused.Reads.Learnt
refused κs a x y s t = sole

answer : Sole 0 of.reason.AnswerFromReason.from.Kinds.ps of.reason.AnswerFromReason.from.Kinds.r of.reason.AnswerFromReason.from.Reads.Learnt
answer κs a x y s t = sole

check_create : Sole 3 of.create.check_create.Kinds.ps of.create.check_create.Kinds.r of.create.check_create.Reads.Learnt
check_create κs a x y s t p q = same_code x y (sole p q)

check_ask : Sole 2 of.ask.check_ask.Kinds.ps of.ask.check_ask.Kinds.r of.ask.check_ask.Reads.Learnt
check_ask κs a x y s t p q = same_code x y (sole p q)

check_finish : Sole 1 of.finish.check_finish.Kinds.ps of.finish.check_finish.Kinds.r of.finish.check_finish.Reads.Learnt
check_finish κs a x y s t p q = same_code x y (sole p q)

wait_answer : Sole 0 of.ask.wait_answer.Kinds.ps of.ask.wait_answer.Kinds.r of.ask.wait_answer.Reads.Learnt
wait_answer κs a x y s t = sole

done : Sole 0 of.Answer.done.Kinds.ps of.Answer.done.Kinds.r of.Answer.done.Reads.Learnt
done κs a x y s t = sole

child_answer : Sole 0 of.finish.child_answer.Kinds.ps of.finish.child_answer.Kinds.r of.finish.child_answer.Reads.Learnt
child_answer κs a x y s t = sole

open_child : Sole 0 of.finish.open_child.Kinds.ps of.finish.open_child.Kinds.r of.finish.open_child.Reads.Learnt
open_child κs a x y s t = sole

is_unanswered : Sole 0 of.finish.is_unanswered.Kinds.ps of.finish.is_unanswered.Kinds.r of.finish.is_unanswered.Reads.Learnt
is_unanswered κs a x y s t = sole

openable : Sole 2 of.«open».openable.Kinds.ps of.«open».openable.Kinds.r of.«open».openable.Reads.Learnt
openable κs a x y s t = sole
