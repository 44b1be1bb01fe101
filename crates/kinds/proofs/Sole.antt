-- Two results that meet a function's contract are equal, for every public function: `Learnt` is what its `ensures` says.
use Rattle.promise.specs.Sole.{Sole}
use Rattle.promise.proofs.Sole.{sole}
use Rattle.kinds.proofs as of

within : Sole 0 of.range.within.Kinds.ps of.range.within.Kinds.r of.range.within.Reads.Learnt
within κs a x y s t = sole

within_signed : Sole 0 of.range.within_signed.Kinds.ps of.range.within_signed.Kinds.r of.range.within_signed.Reads.Learnt
within_signed κs a x y s t = sole

account_opened : Sole 0 of.account.Account.opened.Kinds.ps of.account.Account.opened.Kinds.r of.account.Account.opened.Reads.Learnt
account_opened κs a x y s t = sole

register_opened : Sole 0 of.register.Register.opened.Kinds.ps of.register.Register.opened.Kinds.r of.register.Register.opened.Reads.Learnt
register_opened κs a x y s t = sole

counter_opened : Sole 0 of.counter.Counter.opened.Kinds.ps of.counter.Counter.opened.Kinds.r of.counter.Counter.opened.Reads.Learnt
counter_opened κs a x y s t = sole

bin_opened : Sole 0 of.bin.Bin.opened.Kinds.ps of.bin.Bin.opened.Kinds.r of.bin.Bin.opened.Reads.Learnt
bin_opened κs a x y s t = sole

account_rule_of : Sole 0 of.account.Account.rule_of.Kinds.ps of.account.Account.rule_of.Kinds.r of.account.Account.rule_of.Reads.Learnt
account_rule_of κs a x y s t = sole

register_rule_of : Sole 0 of.register.Register.rule_of.Kinds.ps of.register.Register.rule_of.Kinds.r of.register.Register.rule_of.Reads.Learnt
register_rule_of κs a x y s t = sole

counter_rule_of : Sole 0 of.counter.Counter.rule_of.Kinds.ps of.counter.Counter.rule_of.Kinds.r of.counter.Counter.rule_of.Reads.Learnt
counter_rule_of κs a x y s t = sole

bin_rule_of : Sole 0 of.bin.Bin.rule_of.Kinds.ps of.bin.Bin.rule_of.Kinds.r of.bin.Bin.rule_of.Reads.Learnt
bin_rule_of κs a x y s t = sole

judge : Sole 0 of.table.Rule.judge.Kinds.ps of.table.Rule.judge.Kinds.r of.table.Rule.judge.Reads.Learnt
judge κs a x y s t = sole

numbers_of_lem : Sole 0 of.outcome.NumbersFromOutcome.from.Kinds.ps of.outcome.NumbersFromOutcome.from.Kinds.r of.outcome.NumbersFromOutcome.from.Reads.Learnt
numbers_of_lem κs a x y s t = sole

recall : Sole 0 of.outcome.Shape.recall.Kinds.ps of.outcome.Shape.recall.Kinds.r of.outcome.Shape.recall.Reads.Learnt
recall κs a x y s t = sole
