-- The code of each reason for which a call is refused.
use Rattle.std.specs.Prelude.{ℕ, Result, Ok, Err}
use Rattle.refusal.specs.declared.reason.Reason.{Reason}
use Rattle.refusal.specs.declared.reason.Reason.TheVariants.{NoTransaction, IsRoot, UnderAccess, Finished, Orphaned, NoObject, Unfit, Full, NoAccess, Answered, Unanswered, BadOpening, Malformed}

abbrev pub code_of : Reason → ℕ
code_of NoTransaction = 1
code_of IsRoot = 2
code_of UnderAccess = 3
code_of Finished = 4
code_of Orphaned = 5
code_of NoObject = 6
code_of Unfit = 7
code_of Full = 8
code_of NoAccess = 9
code_of Answered = 10
code_of Unanswered = 12
code_of BadOpening = 14
code_of Malformed = 15

-- the code that a function answers with; 0 where it refuses nothing
abbrev pub code_in : Result (Unit {0}) Reason → ℕ
code_in (Ok done) = 0
code_in (Err reason) = code_of reason
